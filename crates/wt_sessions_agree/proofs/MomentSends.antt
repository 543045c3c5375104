-- What a moment sends beside this end's control stream: what its findings lead to is what its steps gathered, and the close for a fault.
use Rattle.std.specs.Prelude.{[], ◌&&◌, ◌*◌, ◌++◌, ◌+◌, ◌==◌, ◌||◌, ◌∷◌, ◌≡◌, Bool, Err, List, None, Ok, Option, Result, Some, drop, false, filter, if◌then◌else◌, is_some, length, map, nat_lt, not, suc, true, ℕ}
use Rattle.std.specs.List.{list_all}
use Rattle.std.specs.Option.{option_or}
use Rattle.std.proofs.Common.{◌∙◌, ap, append_assoc, refl, subst, sym}
use Rattle.std.proofs.Math.Seq.{drop-append_seam}
use Rattle.std.proofs.lemmas.List.{append-nil}
use Rattle.wt_meaning.specs.Findings.{Classified, Dequeued, Faulted, Finding, SessionClosed, SettingsRead, control_in, decoder_in, encoder_in, fault_in, fault_of, first_of, is_classified, is_datagram, is_dequeued, settings_came}
use Rattle.wt_meaning.specs.History.{History, events}
use Rattle.wt_meaning.specs.Moments.{Check, ControlFault, DecoderEnd, EncoderEnd, LocalStop, ReadDatagram, ReadSettings, after_checks, checks, control_walk, datagram_checks, datagram_found, end_fault, fault_if, found_by, is_ready, keeps, session_found, stream_fault, verdict}
use Rattle.wt_meaning.specs.Sends.{actions_for, actions_for_all, session_gone_actions}
use Rattle.wt_meaning.specs.Windows.{is_gone, lives}
use Rattle.wt_message.specs.Datagram.{datagram_of}
use Rattle.wt_promise.proofs.Accepted.{and-left, and-right}
use Rattle.wt_promise.proofs.Grows.{AClassified, AClosed, ADequeued, AFault, Kept, asks_peers, checks-add, checks-keep, first_of-append, is_peers, more}
use Rattle.wt_proto.specs.ControlWalk.{control_walk_of}
use Rattle.wt_proto.specs.declared.control_walk.ControlWalk.{ControlWalk}
use Rattle.wt_proto.specs.declared.session_walk.SessionWalk.{SessionWalk}
use Rattle.wt_proto.specs.declared.verdict.Verdict.{Verdict}
use Rattle.wt_turn.specs.Reports.{datagrams_of, end_of, is_running, stop_of}
use Rattle.wt_turn.specs.Streams.{local_uni}
use Rattle.wt_sessions.specs.Driver.{close_actions}
use Rattle.wt_sessions.specs.Scan.{admit_datagram, check_control, check_qpack, critical_if, in_order, is_admitted, on_progress, scan_order, session_end, session_walked, take_datagrams, take_each, take_parsed, unless_ended, with_classified, with_fault, with_more, with_no_actions}
use Rattle.wt_sessions.specs.StreamTable.{CallView, Consequence, DriverProgress, StreamTable, TransportView, admit_or_stop, consequence, control_start, decoder_start, dispatched_streams, encoder_start, first_at, gone_actions, has_room, only_once}
use Rattle.wt_sessions.specs.StreamTable as tables
use Rattle.wt_sessions_agree.proofs.Appends.{cons-append, table-same}
use Rattle.wt_sessions_agree.proofs.CriticalLaws.{critical_steps}
use Rattle.wt_sessions_agree.proofs.MomentAgrees.{MomentKeeps, critical_checks, moment-keeps}
use Rattle.wt_sessions_agree.proofs.ScanLaws.{ScanKeeps, checks-faulty, faults-agree, faults_of, ripe-table}
use Rattle.wt_sessions_agree.proofs.SessionLaws.{WalkKeeps, walked-table}
use Rattle.wt_sessions_agree.proofs.WindowLaws.{admits-agree, gone-agrees}
use Rattle.wt_sessions_agree.specs.Agrees.{IsTable}
use Rattle.wt_sessions_agree.specs.Orderly.{Orderly}
use Rattle.wt_sessions_agree.specs.Stands.{SeesAlike}
use Rattle.wt_turn.specs.declared.action.Action.{Action}
use Rattle.wt_wire.specs.Codes.{code_of}
use Rattle.wt_wire.specs.declared.error.ErrorCode.{ErrorCode}
use Rattle.wt_wire.specs.declared.side.Side.{Side}
use Rattle.wt_proto.specs.declared.session_walk.SessionWalk.TheVariants as walks
use Rattle.wt_proto.specs.declared.verdict.Verdict.TheVariants as verdicts
use Rattle.wt_turn.specs.declared.action.Action.TheVariants as actions
use Rattle.wt_wire.specs.declared.error.ErrorCode.TheVariants as h3

-- ---- findings after findings

all-append : (side : Side) (h : History) (before xs ys : List Finding) → actions_for_all side h before (xs ++ ys) ≡ actions_for_all side h before xs ++ actions_for_all side h (before ++ xs) ys
all-append side h before [] ys = ap (λ (l : List Finding). actions_for_all side h l ys) (sym (append-nil before))
all-append side h before (x ∷ xs) ys =
    ap (λ (l : List Action). actions_for side h before x ++ l)
    (all-append side h (before ++ x ∷ []) xs ys ∙ ap (λ (l : List Finding). actions_for_all side h (before ++ x ∷ []) xs ++ actions_for_all side h l ys) (sym (cons-append before x xs)))
    ∙ sym (append_assoc (actions_for side h before x) (actions_for_all side h (before ++ x ∷ []) xs) (actions_for_all side h (before ++ x ∷ xs) ys))

-- a fault alone closes
fault-sends : (side : Side) (h : History) (before : List Finding) (o : Option ErrorCode) → actions_for_all side h before (faults_of o) ≡ close_actions o
fault-sends side h before None = refl
fault-sends side h before (Some c) = refl

-- ---- what sends nothing but a close

-- whatever was found before, these findings send a close for a fault alone
abbrev Quiet : Side → History → List Finding → Type 0
Quiet side h xs = (before : List Finding) → actions_for_all side h before xs ≡ close_actions (fault_of xs)

-- the check is neither of a stream nor of a session
abbrev is_quiet : Check → Bool
is_quiet (ReadDatagram n piece) = true
is_quiet LocalStop = true
is_quiet ReadSettings = true
is_quiet ControlFault = true
is_quiet EncoderEnd = true
is_quiet DecoderEnd = true
is_quiet _ = false

quiet-fault : (side : Side) (h : History) (b : Bool) (code : ErrorCode) → Quiet side h (fault_if b code)
quiet-fault side h true code before = refl
quiet-fault side h false code before = refl

quiet-end : (side : Side) (h : History) (stream : Option (ℕ × ℕ)) → Quiet side h (end_fault h stream)
quiet-end side h None before = refl
quiet-end side h (Some stream) before = quiet-fault side h (not (is_running (end_of (events h) stream.0))) h3.ClosedCriticalStream before

quiet-read : (side : Side) (h : History) (found : List Finding) (n : ℕ) (b : Bool) (d : Result (ℕ × List ℕ) ErrorCode) → Quiet side h (if b then datagram_found h found n d ∷ [] else [])
quiet-read side h found n true (Ok d) before = refl
quiet-read side h found n true (Err code) before = refl
quiet-read side h found n false d before = refl

quiet-settings : (side : Side) (h : History) (b : Bool) → Quiet side h (if b then SettingsRead ∷ [] else [])
quiet-settings side h true before = refl
quiet-settings side h false before = refl

quiet-control : (side : Side) (h : History) (o : Option ErrorCode) → Quiet side h (elim o as (λ x. List Finding) [ Some code ↦ Faulted code ∷ [] | None ↦ [] ])
quiet-control side h (Some code) before = refl
quiet-control side h None before = refl

quiet-found : (side : Side) (h : History) (found : List Finding) (c : Check) → is_quiet c ≡ true → Quiet side h (found_by side h found c)
quiet-found side h found (ReadDatagram n piece) q = quiet-read side h found n (is_ready side h && length (filter is_datagram found) == n) (datagram_of piece)
quiet-found side h found LocalStop q = quiet-fault side h (is_some (stop_of (events h) (local_uni side))) h3.ClosedCriticalStream
quiet-found side h found ReadSettings q = quiet-settings side h (not (settings_came found) && is_some (control_walk h (first_of control_in found)).settings)
quiet-found side h found ControlFault q = quiet-control side h (control_walk h (first_of control_in found)).fault
quiet-found side h found EncoderEnd q = quiet-end side h (first_of encoder_in found)
quiet-found side h found DecoderEnd q = quiet-end side h (first_of decoder_in found)
quiet-found side h found c q = absurd (cc q)

-- so do all that such checks find, one after another
quiet-more : (side : Side) (h : History) (cs : List Check) → list_all is_quiet cs ≡ true → (found : List Finding) → fault_of found ≡ None
    → actions_for_all side h found (more side h cs found) ≡ close_actions (fault_of (more side h cs found))
quiet-more side h [] q found f = refl
quiet-more side h (c ∷ later) q found f = rw f (by (fault_of xs) refl (quiet-more side h later (and-right (is_quiet c) (list_all is_quiet later) q) (found ++ xs)))
  where
    xs : List Finding
    xs = found_by side h found c

    all : List Finding
    all = more side h later (found ++ xs)

    sent : actions_for_all side h found xs ≡ close_actions (fault_of xs)
    sent = quiet-found side h found c (and-left (is_quiet c) (list_all is_quiet later) q) found

    now : (o : Option ErrorCode) → fault_of xs ≡ o → fault_of (found ++ xs) ≡ o
    now o e = first_of-append fault_in found xs ∙ rw (f, e) refl

    by : (o : Option ErrorCode) → fault_of xs ≡ o → (fault_of (found ++ xs) ≡ None → actions_for_all side h (found ++ xs) all ≡ close_actions (fault_of all))
        → actions_for_all side h found (xs ++ all) ≡ close_actions (fault_of (xs ++ all))
    by (Some code) e again =
        let none : all ≡ [] = stopped later code (now (Some code) e) in
        ap (λ (l : List Finding). actions_for_all side h found (xs ++ l)) none ∙ ap (actions_for_all side h found) (append-nil xs) ∙ sent
        ∙ ap (λ (l : List Finding). close_actions (fault_of l)) (sym (append-nil xs) ∙ ap (λ (l : List Finding). xs ++ l) (sym none))
      where
        stopped : (ls : List Check) (code : ErrorCode) → fault_of (found ++ xs) ≡ Some code → more side h ls (found ++ xs) ≡ []
        stopped [] code e = refl
        stopped (l ∷ ls) code e = rw e refl
    by None e again =
        all-append side h found xs all ∙ ap (λ (l : List Action). l ++ actions_for_all side h (found ++ xs) all) (sent ∙ ap close_actions e) ∙ again (now None e)
        ∙ ap close_actions (ap (λ (o : Option ErrorCode). option_or o (fault_of all)) (sym e) ∙ sym (first_of-append fault_in xs all))

-- datagrams are such
reads-quiet : (n : ℕ) (pieces : List (List ℕ)) → list_all is_quiet (datagram_checks n pieces) ≡ true
reads-quiet n [] = refl
reads-quiet n (piece ∷ later) = reads-quiet (suc n) later

reads-peers : (side : Side) (n : ℕ) (pieces : List (List ℕ)) → list_all (asks_peers side) (datagram_checks n pieces) ≡ true
reads-peers side n [] = refl
reads-peers side n (piece ∷ later) = reads-peers side (suc n) later

-- ---- steps that gather nothing

faults-act : (o : Option ErrorCode) (p : DriverProgress) → (with_fault o p).actions ≡ p.actions
faults-act None p = refl
faults-act (Some code) p = refl

datagrams-acts : (t : TransportView) (calls : CallView) (table : StreamTable) → (take_datagrams t calls table).progress.actions ≡ table.progress.actions
datagrams-acts t calls table = by t.ready
  where
    admitted : (b : Bool) (session : ℕ) (payload : List ℕ) (u : StreamTable) → (admit_datagram b session payload u).progress.actions ≡ u.progress.actions
    admitted true session payload u = refl
    admitted false session payload u = refl

    parsed : (d : Result (ℕ × List ℕ) ErrorCode) (u : StreamTable) → (take_parsed calls d u).progress.actions ≡ u.progress.actions
    parsed (Ok d) u = admitted (is_admitted (dispatched_streams calls u) (4 * d.0)) (4 * d.0) d.1 u
    parsed (Err code) u = refl

    each : (ds : List (List ℕ)) (u : StreamTable) → (take_each calls ds u).progress.actions ≡ u.progress.actions
    each [] u = refl
    each (piece ∷ ds) u = one u.progress.fault (each ds (take_parsed calls (datagram_of piece) u))
      where
        one : (o : Option ErrorCode) → (take_each calls ds (take_parsed calls (datagram_of piece) u)).progress.actions ≡ (take_parsed calls (datagram_of piece) u).progress.actions
            → (unless_ended o (λ (v : StreamTable). take_each calls ds (take_parsed calls (datagram_of piece) v)) u).progress.actions ≡ u.progress.actions
        one None again = again ∙ parsed (datagram_of piece) u
        one (Some code) again = refl

    by : (b : Bool) → (if b then take_each calls (drop table.progress.datagrams t.datagrams) table else table).progress.actions ≡ table.progress.actions
    by true = each (drop table.progress.datagrams t.datagrams) table
    by false = refl

-- each of these steps gathers nothing
abbrev GathersNothing : List (StreamTable → StreamTable) → Type 0
GathersNothing [] = Unit {0}
GathersNothing (f ∷ fs) = ((u : StreamTable) → (f u).progress.actions ≡ u.progress.actions) × GathersNothing fs

in-order-acts : (fs : List (StreamTable → StreamTable)) → GathersNothing fs → (table : StreamTable) → (in_order fs table).progress.actions ≡ table.progress.actions
in-order-acts [] n table = refl
in-order-acts (f ∷ fs) n table = in-order-acts fs n.1 (unless_ended table.progress.fault f table) ∙ by table.progress.fault
  where
    by : (o : Option ErrorCode) → (unless_ended o f table).progress.actions ≡ table.progress.actions
    by None = n.0 table
    by (Some code) = refl

critical-acts : (t : TransportView) (table : StreamTable) → (in_order (critical_steps t) table).progress.actions ≡ table.progress.actions
critical-acts t table = in-order-acts (critical_steps t) (own, (controlled, (encoded, (decoded, tt)))) table
  where
    stopped : (b : Bool) (p : DriverProgress) → (critical_if b p).actions ≡ p.actions
    stopped true p = refl
    stopped false p = refl

    control : (o : Option (ℕ × ℕ)) (p : DriverProgress) → (check_control t o p).actions ≡ p.actions
    control None p = refl
    control (Some c) p = let w : ControlWalk = control_walk_of (drop c.1 (t.contents c.0)) (t.end c.0) in faults-act w.fault (record p { settings = p.settings || is_some w.settings })

    qpack : (o : Option (ℕ × ℕ)) (p : DriverProgress) → (check_qpack t o p).actions ≡ p.actions
    qpack None p = refl
    qpack (Some c) p = stopped (not (is_running (t.end c.0))) p

    own : (u : StreamTable) → (on_progress (critical_if (t.is_stopped (local_uni t.side))) u).progress.actions ≡ u.progress.actions
    own u = stopped (t.is_stopped (local_uni t.side)) u.progress

    controlled : (u : StreamTable) → (on_progress (check_control t (first_at control_start u.classified)) u).progress.actions ≡ u.progress.actions
    controlled u = control (first_at control_start u.classified) u.progress

    encoded : (u : StreamTable) → (on_progress (check_qpack t (first_at encoder_start u.classified)) u).progress.actions ≡ u.progress.actions
    encoded u = qpack (first_at encoder_start u.classified) u.progress

    decoded : (u : StreamTable) → (on_progress (check_qpack t (first_at decoder_start u.classified)) u).progress.actions ≡ u.progress.actions
    decoded u = qpack (first_at decoder_start u.classified) u.progress

-- ---- the whole moment

module _ (side : Side) (h : History) (t : TransportView) (calls : CallView) (offset : ℕ → ℕ) (s : SeesAlike side h t calls offset) (Good : List Finding → Type 0) (kept : Kept side h Good)
    (alike : (found : List Finding) (table : StreamTable) → Good found → IsTable found table → (k : ℕ) → is_gone h found k ≡ false
    → session_gone_actions side h found k ≡ gone_actions t (dispatched_streams calls table) k)
    (fresh : (found : List Finding) → Good found → (k : ℕ) → is_peers side k ≡ true → is_classified found k ≡ false → is_gone h found k ≡ false)
    (base : List Action) where
  -- what was found leads to these, what the steps gathered, and the close
  abbrev Sends : List Finding → StreamTable → Type 0
  Sends found table = actions_for_all side h [] found ≡ base ++ (table.progress.actions ++ close_actions table.progress.fault)

  -- what the steps of a moment keep
  record Keeps (found : List Finding) (table : StreamTable) : Type 0 where
    holds : IsTable found table
    sends : Sends found table
    good : Good found

  -- one step more
  step-sends : (found xs : List Finding) (table later : StreamTable) (own : List Action) → Sends found table → table.progress.fault ≡ None → later.progress.actions ≡ table.progress.actions ++ own
      → actions_for_all side h found xs ≡ own ++ close_actions later.progress.fault → Sends (found ++ xs) later
  step-sends found xs table later own e n a q =
      all-append side h [] found xs
      ∙ ap (λ (l : List Action). l ++ actions_for_all side h found xs)
      (e ∙ ap (λ (o : Option ErrorCode). base ++ (table.progress.actions ++ close_actions o)) n ∙ ap (λ (l : List Action). base ++ l) (append-nil table.progress.actions))
      ∙ ap (λ (l : List Action). (base ++ table.progress.actions) ++ l) q
      ∙ append_assoc base table.progress.actions (own ++ close_actions later.progress.fault)
      ∙ ap (λ (l : List Action). base ++ l) (sym (append_assoc table.progress.actions own (close_actions later.progress.fault))
      ∙ ap (λ (l : List Action). l ++ close_actions later.progress.fault) (sym a))

  -- ---- a stream that is classified

  ripe-acts : (found : List Finding) (table : StreamTable) (k : ℕ) (w : Verdict) → Good found → IsTable found table → is_peers side k ≡ true → is_classified found k ≡ false
      → actions_for side h found (Classified k w (consequence t (dispatched_streams calls table) k w).admitted) ≡ (consequence t (dispatched_streams calls table) k w).actions
  ripe-acts found table k (verdicts.WebTransport session o) g b p r =
      rw (gone-agrees h calls found table session s.calls b)
      (by (is_gone h found session) (has_room (dispatched_streams calls table) session (map (λ (w : tables.Waiting). w.session) (tables.waiting_streams calls table))) refl)
    where
      by : (x y : Bool) → is_gone h found session ≡ x → actions_for side h found (Classified k (verdicts.WebTransport session o) (admit_or_stop x y k).admitted) ≡ (admit_or_stop x y k).actions
      by true y e = rw e refl
      by false true e = refl
      by false false e = rw e refl
  ripe-acts found table k (verdicts.Refused code) g b p r = ap (λ (l : List Action). actions.StopOut k (code_of code) ∷ l) (alike found table g b k (fresh found g k p r))
  ripe-acts found table k (verdicts.Request f o) g b p r = by (nat_lt (length (dispatched_streams calls table).held) 4)
    where
      by : (x : Bool) → let c = if x then tables.admitting else tables.stopping k h3.RequestRejected (gone_actions t (dispatched_streams calls table) k) in
          actions_for side h found (Classified k (verdicts.Request f o) c.admitted) ≡ c.actions
      by true = refl
      by false = ap (λ (l : List Action). actions.StopOut k 0x10b ∷ l) (alike found table g b k (fresh found g k p r))
  ripe-acts found table k (verdicts.Control o) g b p r = by (dispatched_streams calls table).control
    where
      by : (x : Option (ℕ × ℕ)) → [] ≡ (only_once x).actions
      by None = refl
      by (Some y) = refl
  ripe-acts found table k (verdicts.Encoder o) g b p r = by (dispatched_streams calls table).encoder
    where
      by : (x : Option (ℕ × ℕ)) → [] ≡ (only_once x).actions
      by None = refl
      by (Some y) = refl
  ripe-acts found table k (verdicts.Decoder o) g b p r = by (dispatched_streams calls table).decoder
    where
      by : (x : Option (ℕ × ℕ)) → [] ≡ (only_once x).actions
      by None = refl
      by (Some y) = refl
  ripe-acts found table k verdicts.Incomplete g b p r = refl
  ripe-acts found table k verdicts.Dropped g b p r = refl
  ripe-acts found table k (verdicts.Fault code) g b p r = refl

  ripe-keeps : (found : List Finding) (table : StreamTable) (k : ℕ) (w : Verdict) → fault_of found ≡ None → is_peers side k ≡ true → is_dequeued found k ≡ true → is_classified found k ≡ false
      → verdict h k ≡ w → Keeps found table
      → let c = consequence t (dispatched_streams calls table) k w in Keeps ((found ++ Classified k w c.admitted ∷ []) ++ faults_of c.fault) (with_classified k w c table)
  ripe-keeps found table k w f p d r v keep = record {
    holds = ripe-table found table k w c.admitted c.actions c.fault f keep.holds;
    sends = subst (λ (l : List Finding). Sends l (with_classified k w c table)) (cons-append found (Classified k w c.admitted) (faults_of c.fault))
        (step-sends found (Classified k w c.admitted ∷ faults_of c.fault) table (with_classified k w c table) c.actions keep.sends none (faults-act c.fault (with_more c.actions table.progress))
        (rw (ripe-acts found table k w keep.good keep.holds p r, fault-sends side h (found ++ Classified k w c.admitted ∷ []) c.fault)
        (ap (λ (o : Option ErrorCode). c.actions ++ close_actions o) (sym (now-fault c.fault (with_more c.actions table.progress) none)))));
    good = subst Good (ap (λ (l : List Finding). found ++ l) same ∙ cons-append found (Classified k w c.admitted) (faults_of c.fault))
        (kept found (Classified k w (keeps h found w) ∷ stream_fault found w) (AClassified k w (stream_fault found w) p d r v refl) f keep.good);
  }
    where
      c : Consequence
      c = consequence t (dispatched_streams calls table) k w

      none : table.progress.fault ≡ None
      none = sym keep.holds.fault ∙ f

      same : Classified k w (keeps h found w) ∷ stream_fault found w ≡ Classified k w c.admitted ∷ faults_of c.fault
      same = rw (admits-agree h t calls s.calls found table k w keep.holds, faults-agree t calls found table k w keep.holds) refl

      now-fault : (o : Option ErrorCode) (p : DriverProgress) → p.fault ≡ None → (with_fault o p).fault ≡ o
      now-fault None p e = e
      now-fault (Some code) p e = refl

  scan-kept : (kind : ℕ) → ((m : ℕ) → is_peers side (4 * m + kind) ≡ true) → ScanKeeps h t calls kind Keeps
  scan-kept kind peers = record {
    table = λ found table keep. keep.holds;
    taken = λ m found table f keep. taken m found table f keep;
    ripe = λ m found table w f d r v keep. ripe-keeps found table (4 * m + kind) w f (peers m) d r v keep;
  }
    where
      taken : (m : ℕ) (found : List Finding) (table : StreamTable) → fault_of found ≡ None → Keeps found table → Keeps (found ++ Dequeued (4 * m + kind) ∷ []) table
      taken m found table f keep = record {
        holds = table-same found table (Dequeued (4 * m + kind)) refl refl refl refl refl refl keep.holds;
        sends =
            let n : table.progress.fault ≡ None = sym keep.holds.fault ∙ f in
            step-sends found (Dequeued (4 * m + kind) ∷ []) table table [] keep.sends n (sym (append-nil table.progress.actions)) (ap close_actions (sym n));
        good = kept found (Dequeued (4 * m + kind) ∷ []) (ADequeued (4 * m + kind) (peers m)) f keep.good;
      }

  -- ---- a session that is walked

  walked : (found : List Finding) (table : StreamTable) (k : ℕ) (by_capsule : Bool) (walk : SessionWalk) → fault_of found ≡ None → lives h found k ≡ true → Keeps found table
      → Keeps (found ++ session_found k by_capsule walk) (session_walked t calls k by_capsule walk table)
  walked found table k by_capsule walks.Running f l keep = subst (λ (xs : List Finding). Keeps xs table) (sym (append-nil found)) keep
  walked found table k by_capsule (walks.Fault code) f l keep = record {
    holds = walked-table t calls found table k by_capsule (walks.Fault code) f keep.holds;
    sends =
        step-sends found (Faulted code ∷ []) table (session_walked t calls k by_capsule (walks.Fault code) table) [] keep.sends (sym keep.holds.fault ∙ f)
        (sym (append-nil table.progress.actions)) refl;
    good = kept found (Faulted code ∷ []) (AFault code) f keep.good;
  }
  walked found table k by_capsule (walks.Closed code reason) f l keep = record {
    holds = walked-table t calls found table k by_capsule (walks.Closed code reason) f keep.holds;
    sends =
        step-sends found (SessionClosed k code reason by_capsule ∷ []) table (session_walked t calls k by_capsule (walks.Closed code reason) table)
        (session_end t k by_capsule ++ gone_actions t (dispatched_streams calls table) k) keep.sends none refl
        (append-nil (actions_for side h found (SessionClosed k code reason by_capsule)) ∙ acts by_capsule
        ∙ sym (append-nil (session_end t k by_capsule ++ gone_actions t (dispatched_streams calls table) k))
        ∙ ap (λ (o : Option ErrorCode). (session_end t k by_capsule ++ gone_actions t (dispatched_streams calls table) k) ++ close_actions o) (sym none));
    good = kept found (SessionClosed k code reason by_capsule ∷ []) (AClosed k code reason by_capsule l) f keep.good;
  }
    where
      none : table.progress.fault ≡ None
      none = sym keep.holds.fault ∙ f

      living : (a b : Bool) → (a && not b) ≡ true → b ≡ false
      living true false e = refl
      living true true e = absurd (cc e)
      living false b e = absurd (cc e)

      gone : session_gone_actions side h found k ≡ gone_actions t (dispatched_streams calls table) k
      gone = alike found table keep.good keep.holds k (living _ _ l)

      acts : (b : Bool) → actions_for side h found (SessionClosed k code reason b) ≡ session_end t k b ++ gone_actions t (dispatched_streams calls table) k
      acts true = ap (λ (l : List Action). actions.ResetOut k 0x100 ∷ l) gone
      acts false = rw (s.views.stopped k, sym gone) refl

  walk-kept : WalkKeeps h t calls Keeps
  walk-kept = record { table = λ found table keep. keep.holds; walked = λ found table k by_capsule walk f l keep. walked found table k by_capsule walk f l keep }

  -- ---- datagrams and critical streams

  quiet-keeps : (cs : List Check) → list_all is_quiet cs ≡ true → list_all (asks_peers side) cs ≡ true → (found : List Finding) (table later : StreamTable)
      → later.progress.actions ≡ table.progress.actions
      → IsTable (after_checks side h cs found) later → Keeps found table → Keeps (after_checks side h cs found) later
  quiet-keeps cs q a found table later e holds keep = record { holds = holds; sends = by (fault_of found) refl; good = checks-keep side h Good kept cs found a keep.good }
    where
      by : (o : Option ErrorCode) → fault_of found ≡ o → Sends (after_checks side h cs found) later
      by (Some code) f =
          let x : after_checks side h cs found ≡ found = checks-faulty side h cs found code f in
          let n : table.progress.fault ≡ later.progress.fault = sym keep.holds.fault ∙ sym (ap fault_of x) ∙ holds.fault in
          ap (actions_for_all side h []) x ∙ keep.sends
          ∙ ap (λ (o : Option ErrorCode). base ++ (table.progress.actions ++ close_actions o)) n ∙ ap (λ (l : List Action). base ++ (l ++ close_actions later.progress.fault)) (sym e)
      by None f =
          let n : later.progress.fault ≡ fault_of (more side h cs found)
          =
          sym holds.fault ∙ ap fault_of (checks-add side h cs found) ∙ first_of-append fault_in found (more side h cs found)
          ∙ ap (λ (o : Option ErrorCode). option_or o (fault_of (more side h cs found))) f in
          subst (λ (l : List Finding). Sends l later) (sym (checks-add side h cs found))
          (step-sends found (more side h cs found) table later [] keep.sends (sym keep.holds.fault ∙ f) (e ∙ sym (append-nil table.progress.actions))
          (quiet-more side h cs q found f ∙ ap close_actions (sym n)))

  moment-kept : MomentKeeps side h t calls Keeps
  moment-kept = record {
    scanned = λ kind peers. scan-kept kind peers;
    read =
        λ found table holds keep. quiet-keeps (datagram_checks 0 (datagrams_of (events h))) (reads-quiet 0 (datagrams_of (events h))) (reads-peers side 0 (datagrams_of (events h))) found table _
        (datagrams-acts t calls table) holds keep;
    walked = walk-kept;
    critical = λ found table holds keep. quiet-keeps critical_checks refl refl found table _ (critical-acts t table) holds keep;
  }

-- ---- what a moment sends

-- what goes out for all that a moment finds
pub moment-sends : (side : Side) (h : History) (t : TransportView) (calls : CallView) (offset : ℕ → ℕ) → SeesAlike side h t calls offset → (Good : List Finding → Type 0) → Kept side h Good
    → ((found : List Finding) (table : StreamTable) → Good found → IsTable found table → (k : ℕ) → is_gone h found k ≡ false
    → session_gone_actions side h found k ≡ gone_actions t (dispatched_streams calls table) k)
    → ((found : List Finding) → Good found → (k : ℕ) → is_peers side k ≡ true → is_classified found k ≡ false → is_gone h found k ≡ false)
    → (found : List Finding) (table : StreamTable) → Orderly side h calls offset found → Good found → IsTable found table → fault_of found ≡ None
    → actions_for_all side h found (more side h (checks side h) found) ≡ (scan_order t calls table).progress.actions ++ close_actions (scan_order t calls table).progress.fault
moment-sends side h t calls offset s Good kept alike fresh found table o g holds f =
    let base : List Action = actions_for_all side h [] found in
    let begun : Keeps side h t calls offset s Good kept alike fresh base found (on_progress with_no_actions table) = record {
      holds = record { classified = holds.classified; datagrams = holds.datagrams; closed = holds.closed; looked_at = holds.looked_at; settings = holds.settings; fault = holds.fault };
      sends = sym (append-nil base) ∙ ap (λ (o : Option ErrorCode). base ++ ([] ++ close_actions o)) (sym f ∙ holds.fault);
      good = g;
    } in
    let k = moment-keeps side h t calls offset s (Keeps side h t calls offset s Good kept alike fresh base) (moment-kept side h t calls offset s Good kept alike fresh base) found table o begun in
    let xs : List Finding = more side h (checks side h) found in
    let after : StreamTable = scan_order t calls table in
    let all : base ++ actions_for_all side h found xs ≡ base ++ (after.progress.actions ++ close_actions after.progress.fault)
    = sym (all-append side h [] found xs) ∙ ap (actions_for_all side h []) (sym (checks-add side h (checks side h) found)) ∙ k.sends in
    sym (drop-append_seam base (actions_for_all side h found xs)) ∙ ap (drop (length base)) all ∙ drop-append_seam base (after.progress.actions ++ close_actions after.progress.fault)
