-- A moment: what its checks find is what the table holds after its steps.
use Rattle.std.specs.Prelude.{[], ◌*◌, ◌++◌, ◌+◌, ◌∷◌, ◌≡◌, List, map, true, ℕ}
use Rattle.std.specs.List.{list_all}
use Rattle.std.proofs.Common.{◌∙◌, ap, refl, subst, sym}
use Rattle.std.proofs.lemmas.List.Folds.{list_all-append}
use Rattle.wt_meaning.specs.Findings.{Finding}
use Rattle.wt_meaning.specs.History.{History, events, stream_count}
use Rattle.wt_meaning.specs.Moments.{Check, ControlFault, DecoderEnd, EncoderEnd, LocalStop, ReadSettings, WalkSession, after_checks, checks, datagram_checks, ids_from, stream_checks}
use Rattle.wt_promise.proofs.Accepted.{and-left}
use Rattle.wt_promise.proofs.Grows.{asks_peers, is_peers, peers-checked}
use Rattle.wt_proto.specs.Bi.{bi_verdict_of}
use Rattle.wt_proto.specs.Uni.{uni_verdict_of}
use Rattle.wt_turn.specs.Reports.{datagrams_of}
use Rattle.wt_turn.specs.Streams.{peer_bi, peer_count, peer_uni}
use Rattle.wt_sessions.specs.Scan.{check_sessions, in_order, on_progress, scan_bis, scan_order, scan_unis, take_datagrams, with_no_actions}
use Rattle.wt_sessions.specs.StreamTable.{CallView, StreamTable, TransportView}
use Rattle.wt_sessions_agree.proofs.CriticalLaws.{checks-append, critical-agrees, critical_steps, step-keeps}
use Rattle.wt_sessions_agree.proofs.DatagramLaws.{datagrams-agree}
use Rattle.wt_sessions_agree.proofs.KindLaws.{kind-keeps}
use Rattle.wt_sessions_agree.proofs.OrderlyLaws.{orderly-checks}
use Rattle.wt_sessions_agree.proofs.ScanLaws.{ScanKeeps, table-kept}
use Rattle.wt_sessions_agree.proofs.SessionLaws.{WalkKeeps, table-walked, walks-keep}
use Rattle.wt_sessions_agree.proofs.StreamKinds.{bi-direction, bi-peers, bi-small, uni-direction, uni-peers, uni-small}
use Rattle.wt_sessions_agree.proofs.WindowLaws.{admits-agree}
use Rattle.wt_sessions_agree.specs.Agrees.{IsTable}
use Rattle.wt_sessions_agree.specs.Orderly.{Orderly}
use Rattle.wt_sessions_agree.specs.Stands.{SeesAlike}
use Rattle.wt_wire.specs.declared.side.Side.{Side}

-- ---- the whole moment

abbrev pub critical_checks : List Check
critical_checks = LocalStop ∷ ReadSettings ∷ ControlFault ∷ EncoderEnd ∷ DecoderEnd ∷ []

-- what each part of a moment keeps, of what was found and the table; of datagrams and critical streams the table is known
pub record MomentKeeps (side : Side) (h : History) (t : TransportView) (calls : CallView) (Keeps : List Finding → StreamTable → Type 0) : Type 0 where
  pub scanned : (kind : ℕ) → ((m : ℕ) → is_peers side (4 * m + kind) ≡ true) → ScanKeeps h t calls kind Keeps
  pub read : (found : List Finding) (table : StreamTable) → IsTable (after_checks side h (datagram_checks 0 (datagrams_of (events h))) found) (take_datagrams t calls table) → Keeps found table
      → Keeps (after_checks side h (datagram_checks 0 (datagrams_of (events h))) found) (take_datagrams t calls table)
  pub walked : WalkKeeps h t calls Keeps
  pub critical : (found : List Finding) (table : StreamTable) → IsTable (after_checks side h critical_checks found) (in_order (critical_steps t) table) → Keeps found table
      → Keeps (after_checks side h critical_checks found) (in_order (critical_steps t) table)

module _ (side : Side) (h : History) (t : TransportView) (calls : CallView) (offset : ℕ → ℕ) (s : SeesAlike side h t calls offset) (Keeps : List Finding → StreamTable → Type 0)
    (kept : MomentKeeps side h t calls Keeps) where
  -- what holds before the moment holds at each step of it
  keeps : (cs : List Check) → list_all (asks_peers side) cs ≡ true → (found : List Finding) → Orderly side h calls offset found → Orderly side h calls offset (after_checks side h cs found)
  keeps cs p found o = orderly-checks side h calls offset cs p found o

  abbrev unis : List Check
  unis = stream_checks (ids_from (peer_uni side) 0 (peer_count side (events h) (peer_uni side)))

  abbrev bis : List Check
  bis = stream_checks (ids_from (peer_bi side) 0 (peer_count side (events h) (peer_bi side)))

  abbrev pieces : List Check
  pieces = datagram_checks 0 (datagrams_of (events h))

  abbrev sessions : List Check
  sessions = map WalkSession (ids_from 0 0 (stream_count side h 0))

  -- each part asks the peer's streams alone
  four : list_all (asks_peers side) (((unis ++ bis) ++ pieces) ++ sessions) ≡ true
  four = and-left _ _ (sym (list_all-append (asks_peers side) (((unis ++ bis) ++ pieces) ++ sessions) critical_checks) ∙ peers-checked side h)

  three : list_all (asks_peers side) ((unis ++ bis) ++ pieces) ≡ true
  three = and-left _ _ (sym (list_all-append (asks_peers side) ((unis ++ bis) ++ pieces) sessions) ∙ four)

  two : list_all (asks_peers side) (unis ++ bis) ≡ true
  two = and-left _ _ (sym (list_all-append (asks_peers side) (unis ++ bis) pieces) ∙ three)

  one : list_all (asks_peers side) unis ≡ true
  one = and-left _ _ (sym (list_all-append (asks_peers side) unis bis) ∙ two)

  -- the peer's unidirectional streams
  unis-keep : (found : List Finding) (table : StreamTable) → Orderly side h calls offset found → Keeps found table → Keeps (after_checks side h unis found) (scan_unis t calls table)
  unis-keep found table o holds =
      rw (s.views.own, s.unis) (kind-keeps side h t calls (λ (k : ℕ). uni_verdict_of (t.contents k) (t.end k)) (peer_uni side) (peer_count side (events h) (peer_uni side)) (uni-small side) s.ready
      (λ m. rw (uni-direction side m, s.views.contents (4 * m + peer_uni side), s.views.end (4 * m + peer_uni side)) refl) (admits-agree h t calls s.calls) Keeps
      (kept.scanned (peer_uni side) (uni-peers side)) found table o.none_early (o.few (peer_uni side) (uni-small side)) holds)

  -- its bidirectional ones
  bis-keep : (found : List Finding) (table : StreamTable) → Orderly side h calls offset found → Keeps found table → Keeps (after_checks side h bis found) (scan_bis t calls table)
  bis-keep found table o holds =
      rw (s.views.own, s.bis) (kind-keeps side h t calls (λ (k : ℕ). bi_verdict_of (t.contents k) (t.end k)) (peer_bi side) (peer_count side (events h) (peer_bi side)) (bi-small side) s.ready
      (λ m. rw (bi-direction side m, s.views.contents (4 * m + peer_bi side), s.views.end (4 * m + peer_bi side)) refl) (admits-agree h t calls s.calls) Keeps
      (kept.scanned (peer_bi side) (bi-peers side)) found table o.none_early (o.few (peer_bi side) (bi-small side)) holds)

  -- the established sessions
  sessions-keep : (found : List Finding) (table : StreamTable) → Orderly side h calls offset found → Keeps found table → Keeps (after_checks side h sessions found) (check_sessions t calls table)
  sessions-keep found table o holds = rw s.sessions (walks-keep side h t calls offset s.views s.calls Keeps kept.walked (ids_from 0 0 (stream_count side h 0)) found table o.begin holds)

  holds : (found : List Finding) (table : StreamTable) → Keeps found table → IsTable found table
  holds found table keep = kept.walked.table found table keep

  read-keeps : (found : List Finding) (table : StreamTable) → Orderly side h calls offset found → Keeps found table → Keeps (after_checks side h pieces found) (take_datagrams t calls table)
  read-keeps found table o keep = kept.read found table (datagrams-agree side h t calls (datagrams_of (events h)) found table s.ready s.datagrams s.calls o.received (holds found table keep)) keep

  -- the order of a moment, part by part
  pub moment-keeps : (found : List Finding) (table : StreamTable) → Orderly side h calls offset found → Keeps found (on_progress with_no_actions table)
      → Keeps (after_checks side h (checks side h) found) (scan_order t calls table)
  moment-keeps found table o begun =
      let a = step-keeps side h Keeps holds unis (scan_unis t calls) found (on_progress with_no_actions table) (λ f. unis-keep found (on_progress with_no_actions table) o begun) begun in
      let b = step-keeps side h Keeps holds bis (scan_bis t calls) (after_checks side h unis found) _ (λ f. bis-keep _ _ (keeps unis one found o) a) a in
      let c = step-keeps side h Keeps holds pieces (take_datagrams t calls) _ _ (λ f. read-keeps _ _ o2 b) b in
      let d = step-keeps side h Keeps holds sessions (check_sessions t calls) _ _ (λ f. sessions-keep _ _ o3 c) c in
      rw (
        checks-append side h (((unis ++ bis) ++ pieces) ++ sessions) critical_checks found,
        checks-append side h ((unis ++ bis) ++ pieces) sessions found,
        checks-append side h (unis ++ bis) pieces found,
        checks-append side h unis bis found,
      ) (kept.critical _ _ (critical-agrees side h t _ _ s.views (holds _ _ d)) d)
    where
      o2 : Orderly side h calls offset (after_checks side h bis (after_checks side h unis found))
      o2 = subst (Orderly side h calls offset) (checks-append side h unis bis found) (keeps (unis ++ bis) two found o)

      o3 : Orderly side h calls offset (after_checks side h pieces (after_checks side h bis (after_checks side h unis found)))
      o3 =
          subst (Orderly side h calls offset) (checks-append side h (unis ++ bis) pieces found ∙ ap (after_checks side h pieces) (checks-append side h unis bis found))
          (keeps ((unis ++ bis) ++ pieces) three found o)

-- that the table holds what was found is kept
pub moment-agrees : (side : Side) (h : History) (t : TransportView) (calls : CallView) (offset : ℕ → ℕ) → SeesAlike side h t calls offset
    → (found : List Finding) (table : StreamTable) → Orderly side h calls offset found → IsTable found table → IsTable (after_checks side h (checks side h) found) (scan_order t calls table)
moment-agrees side h t calls offset s found table o holds =
    moment-keeps side h t calls offset s IsTable (record {
      scanned = λ kind peers. table-kept h t calls kind;
      read = λ found table later before. later;
      walked = table-walked h t calls;
      critical = λ found table later before. later;
    }) found table o (record { classified = holds.classified; datagrams = holds.datagrams; closed = holds.closed; looked_at = holds.looked_at; settings = holds.settings; fault = holds.fault })
