-- One pass over all checks of a moment: what it finds is all that is to be found, up to the first fault.
use Rattle.std.specs.Prelude.{[], ◌%◌, ◌&&◌, ◌*◌, ◌++◌, ◌+◌, ◌<◌, ◌==◌, ◌∷◌, ◌||◌, ◌≡◌, ◌≤◌, Bool, Err, List, None, Ok, Option, Result, Some, drop, false, filter, if◌then◌else◌, is_none, length, map, not, suc, take, true, zero, ℕ}
use Rattle.std.specs.List.{list_all, list_any}
use Rattle.std.specs.Option.{option_or}
use Rattle.std.proofs.Common.{◌∙◌, ap, arith, refl, sym}
use Rattle.std.proofs.lemmas.Bool.{lt-ltb}
use Rattle.std.proofs.lemmas.List.{append-nil, length-take-le, take-append-drop}
use Rattle.std.proofs.lemmas.List.Elements.{filter_map-append}
use Rattle.std.proofs.lemmas.List.Folds.{list_all-append, list_any-append}
use Rattle.wt_meaning.specs.Findings.{Classified, Dequeued, Faulted, Finding, SettingsRead, fault_of, first_of, is_classified, is_datagram, is_dequeued, reads_settings, settings_came}
use Rattle.wt_meaning.specs.History.{History, events, stream_count}
use Rattle.wt_meaning.specs.Moments.{Check, Classify, ControlFault, DecoderEnd, Dequeue, EncoderEnd, LocalStop, ReadDatagram, ReadSettings, WalkSession, after_checks, checks, classified_as, datagram_checks, datagram_found, end_fault, fault_if, found_by, ids_from, is_ready, session_found, stream_checks, verdict}
use Rattle.wt_proto.specs.SessionWalk.{is_over, session_walk_of}
use Rattle.wt_meaning.specs.Windows.{lives, session_part}
use Rattle.wt_message.specs.Datagram.{datagram_of}
use Rattle.wt_promise.proofs.DatagramReads.{AsCame, came-same, checks-parts, fault-of-piece, idle, read-of, reads-on, skips, well-formed}
use Rattle.wt_promise.proofs.Fresh.{nth-of}
use Rattle.wt_promise.proofs.Grows.{first_of-append, of-stream-fault}
use Rattle.wt_promise.proofs.HeaderFaults.{StreamsFault, of-streams, streams-check}
use Rattle.wt_promise.proofs.PassFaults.{Quiet, SameFaults, last-checks, last-is, late-fault, none-of-streams, quiet-later, same-checks, sessions-walked, settings-there, stop-fault}
use Rattle.wt_promise.proofs.Passes.{each-keeps, in-parts, stopped}
use Rattle.wt_promise.proofs.Settles.{KeptStreams, SettledAt, kept-check, other-kind, settle, settled-stays, test-opened}
use Rattle.wt_promise.specs.Found.{can_set_up, datagrams_fault, early_fault, first_fault, peer_opened, read_in, sessions_fault, streams_fault}
use Rattle.wt_proto.specs.declared.session_walk.SessionWalk.{SessionWalk}
use Rattle.wt_proto.specs.declared.verdict.Verdict.{Verdict}
use Rattle.wt_turn.specs.Reports.{datagrams_of, end_of, is_running}
use Rattle.wt_turn.specs.Streams.{peer_bi, peer_count, peer_uni}
use Rattle.wt_wire.specs.declared.error.ErrorCode.{ErrorCode}
use Rattle.wt_wire.specs.declared.side.Side.{Side}
use Rattle.wt_wire.specs.declared.side.Side.TheVariants.{Client, Server}
use Rattle.wt_proto.specs.declared.session_walk.SessionWalk.TheVariants as walks
use Rattle.wt_proto.specs.declared.verdict.Verdict.TheVariants as verdicts
use Rattle.wt_wire.specs.declared.error.ErrorCode.TheVariants as h3
use Rattle.wt_wire.specs.declared.side.StreamEnd.TheVariants as ends

-- ---- tests that all checks of a part pass

module _ (side : Side) (h : History) (test : Check → Bool) where
  pub streams-pass : (kind : ℕ) → ((k : ℕ) → test (Dequeue k) ≡ true) → ((k : ℕ) → test (Classify k) ≡ true) → (count n : ℕ) → list_all test (stream_checks (ids_from kind n count)) ≡ true
  streams-pass kind d c zero n = refl
  streams-pass kind d c (suc count) n = rw (d (4 * n + kind), c (4 * n + kind), streams-pass kind d c count (suc n)) refl

  pub datagrams-pass : ((n : ℕ) (piece : List ℕ) → test (ReadDatagram n piece) ≡ true) → (pieces : List (List ℕ)) (n : ℕ) → list_all test (datagram_checks n pieces) ≡ true
  datagrams-pass d [] n = refl
  datagrams-pass d (piece ∷ pieces) n = rw (d n piece, datagrams-pass d pieces (suc n)) refl

  pub sessions-pass : ((s : ℕ) → test (WalkSession s) ≡ true) → (ids : List ℕ) → list_all test (map WalkSession ids) ≡ true
  sessions-pass d [] = refl
  sessions-pass d (s ∷ ids) = rw (d s, sessions-pass d ids) refl

  pub parts-pass : (xs ys : List Check) → list_all test xs ≡ true → list_all test ys ≡ true → list_all test (xs ++ ys) ≡ true
  parts-pass xs ys a b = list_all-append test xs ys ∙ rw (a, b) refl

pub opened-nth : (side : Side) (h : History) (kind n : ℕ) → kind < 4 → n < peer_count side (events h) kind → peer_opened side h (4 * n + kind) ≡ true
opened-nth side h kind n l b = let q = nth-of n kind l in rw (q.0, q.1) (lt-ltb n (peer_count side (events h) kind) b)

-- the checks of opened streams
opened-pass : (side : Side) (h : History) (kind : ℕ) → kind < 4 → (count n : ℕ) → n + count ≤ peer_count side (events h) kind → list_all (test-opened side h) (stream_checks (ids_from kind n count)) ≡ true
opened-pass side h kind l zero n b = refl
opened-pass side h kind l (suc count) n b = rw (opened-nth side h kind n l (omega (arith, b)), opened-pass side h kind l count (suc n) (omega (arith, b))) refl

pub uni-kind : (side : Side) → peer_uni side < 4
uni-kind Client = omega arith
uni-kind Server = omega arith

pub bi-kind : (side : Side) → peer_bi side < 4
bi-kind Client = omega arith
bi-kind Server = omega arith

-- streams of two kinds are apart
kinds-apart : (side : Side) → ((peer_uni side == peer_bi side) ≡ false) × ((peer_bi side == peer_uni side) ≡ false)
kinds-apart Client = (refl, refl)
kinds-apart Server = (refl, refl)

other-pass : (side : Side) (h : History) (kind other : ℕ) → other < 4 → (other == kind) ≡ false → (count n : ℕ) → list_all (other-kind side h kind) (stream_checks (ids_from other n count)) ≡ true
other-pass side h kind other l e zero n = refl
other-pass side h kind other l e (suc count) n =
    let q : not ((4 * n + other) % 4 == kind) ≡ true = ap (λ (m : ℕ). not (m == kind)) (nth-of n other l).1 ∙ ap not e in
    rw (q, other-pass side h kind other l e count (suc n)) refl

-- ---- what no datagram's check reads, and what no SETTINGS' check finds

abbrev no-datagram : Check → Bool
no-datagram (ReadDatagram n piece) = false
no-datagram _ = true

abbrev no-settings : Check → Bool
no-settings ReadSettings = false
no-settings _ = true

-- what a check finds is a list with a property that all of its kind have
module _ (P : List Finding → Type 0) (nil : P []) (fault : (code : ErrorCode) → P (Faulted code ∷ [])) where
  if-p : (b : Bool) (new : List Finding) → P new → P (if b then new else [])
  if-p true new p = p
  if-p false new p = nil

  fault-p : (b : Bool) (code : ErrorCode) → P (fault_if b code)
  fault-p true code = fault code
  fault-p false code = nil

  end-p : (h : History) (s : Option (ℕ × ℕ)) → P (end_fault h s)
  end-p h None = nil
  end-p h (Some s) = fault-p (not (is_running (end_of (events h) s.0))) h3.ClosedCriticalStream

  control-p : (f : Option ErrorCode) → P (elim f [ Some code ↦ Faulted code ∷ [] | None ↦ [] ])
  control-p (Some code) = fault code
  control-p None = nil

  as-p : (h : History) (found : List Finding) (k : ℕ) → ((v : Verdict) (b : Bool) (more : List Finding) → P more → P (Classified k v b ∷ more)) → (v : Verdict) → P (classified_as h found k v)
  as-p h found k one verdicts.Incomplete = nil
  as-p h found k one v = one v _ _ (of-stream-fault P nil fault found v)

module _ (side : Side) (h : History) where
  reads-not : (found : List Finding) (c : Check) → no-datagram c ≡ true → read-of (found_by side h found c) ≡ []
  reads-not found (Dequeue k) e = if-p (λ f. read-of f ≡ []) refl (λ code. refl) _ (Dequeued k ∷ []) refl
  reads-not found (Classify k) e = if-p (λ f. read-of f ≡ []) refl (λ code. refl) (is_dequeued found k && not (is_classified found k)) (classified_as h found k (verdict h k)) (as-p (λ f. read-of f ≡ []) refl (λ code. refl) h found k (λ v b more q. q) (verdict h k))
  reads-not found (ReadDatagram n piece) e = absurd (cc e)
  reads-not found (WalkSession s) e = if-p (λ f. read-of f ≡ []) refl (λ code. refl) (lives h found s) _ (one (is_over (session_walk_of (session_part h found s) ends.Running)) (session_walk_of (session_part h found s) (end_of (events h) s)))
    where
      one : (b : Bool) (w : SessionWalk) → read-of (session_found s b w) ≡ []
      one b walks.Running = refl
      one b (walks.Closed code reason) = refl
      one b (walks.Fault code) = refl
  reads-not found LocalStop e = fault-p (λ f. read-of f ≡ []) refl (λ code. refl) _ _
  reads-not found ReadSettings e = if-p (λ f. read-of f ≡ []) refl (λ code. refl) _ (SettingsRead ∷ []) refl
  reads-not found ControlFault e = control-p (λ f. read-of f ≡ []) refl (λ code. refl) _
  reads-not found EncoderEnd e = end-p (λ f. read-of f ≡ []) refl (λ code. refl) h _
  reads-not found DecoderEnd e = end-p (λ f. read-of f ≡ []) refl (λ code. refl) h _

  settles-not : (found : List Finding) (c : Check) → no-settings c ≡ true → settings_came (found_by side h found c) ≡ false
  settles-not found (Dequeue k) e = if-p (λ f. settings_came f ≡ false) refl (λ code. refl) _ (Dequeued k ∷ []) refl
  settles-not found (Classify k) e = if-p (λ f. settings_came f ≡ false) refl (λ code. refl) (is_dequeued found k && not (is_classified found k)) (classified_as h found k (verdict h k)) (as-p (λ f. settings_came f ≡ false) refl (λ code. refl) h found k (λ v b more q. q) (verdict h k))
  settles-not found (ReadDatagram n piece) e = if-p (λ f. settings_came f ≡ false) refl (λ code. refl) (is_ready side h && length (filter is_datagram found) == n) (datagram_found h found n (datagram_of piece) ∷ []) (one (datagram_of piece))
    where
      one : (d : Result (ℕ × List ℕ) ErrorCode) → settings_came (datagram_found h found n d ∷ []) ≡ false
      one (Err code) = refl
      one (Ok d) = refl
  settles-not found (WalkSession s) e = if-p (λ f. settings_came f ≡ false) refl (λ code. refl) (lives h found s) _ (one (is_over (session_walk_of (session_part h found s) ends.Running)) (session_walk_of (session_part h found s) (end_of (events h) s)))
    where
      one : (b : Bool) (w : SessionWalk) → settings_came (session_found s b w) ≡ false
      one b walks.Running = refl
      one b (walks.Closed code reason) = refl
      one b (walks.Fault code) = refl
  settles-not found LocalStop e = fault-p (λ f. settings_came f ≡ false) refl (λ code. refl) _ _
  settles-not found ReadSettings e = absurd (cc e)
  settles-not found ControlFault e = control-p (λ f. settings_came f ≡ false) refl (λ code. refl) _
  settles-not found EncoderEnd e = end-p (λ f. settings_came f ≡ false) refl (λ code. refl) h _
  settles-not found DecoderEnd e = end-p (λ f. settings_came f ≡ false) refl (λ code. refl) h _

  or-false : (b : Bool) → (b || false) ≡ b
  or-false true = refl
  or-false false = refl

  came-kept : (pieces : List (List ℕ)) (cs : List Check) (found : List Finding) → list_all no-datagram cs ≡ true → AsCame pieces found → AsCame pieces (after_checks side h cs found)
  came-kept pieces cs found = each-keeps side h (AsCame pieces) no-datagram (λ f c t e g. came-same pieces f (found_by side h f c) (reads-not f c t) g) cs found

  settings-kept : (cs : List Check) (found : List Finding) → list_all no-settings cs ≡ true → settings_came (after_checks side h cs found) ≡ settings_came found
  settings-kept cs found l =
      each-keeps side h (λ f. settings_came f ≡ settings_came found) no-settings
      (λ f c t e g. list_any-append reads_settings f (found_by side h f c) ∙ ap (λ (b : Bool). settings_came f || b) (settles-not f c t) ∙ or-false (settings_came f) ∙ g) cs found l refl

  read-kept : (cs : List Check) (found : List Finding) → list_all no-datagram cs ≡ true → read-of (after_checks side h cs found) ≡ read-of found
  read-kept cs found l = each-keeps side h (λ f. read-of f ≡ read-of found) no-datagram (λ f c t e g. same f (found_by side h f c) (reads-not f c t) ∙ g) cs found l refl
    where
      same : (f new : List Finding) → read-of new ≡ [] → read-of (f ++ new) ≡ read-of f
      same f new q = filter_map-append read_in f new ∙ ap (λ (ds : List (ℕ × List ℕ)). read-of f ++ ds) q ∙ append-nil (read-of f)

  none-earlier : (cs : List Check) (found : List Finding) → fault_of (after_checks side h cs found) ≡ None → fault_of found ≡ None
  none-earlier cs found e = by (fault_of found) refl
    where
      by : (f : Option ErrorCode) → fault_of found ≡ f → fault_of found ≡ None
      by None q = q
      by (Some code) q = sym (ap fault_of (stopped side h cs found code q)) ∙ e

  -- ---- the whole pass

  abbrev pieces : List (List ℕ)
  pieces = datagrams_of (events h)

  abbrev unis : List Check
  unis = stream_checks (ids_from (peer_uni side) 0 (peer_count side (events h) (peer_uni side)))

  abbrev bis : List Check
  bis = stream_checks (ids_from (peer_bi side) 0 (peer_count side (events h) (peer_bi side)))

  abbrev pub session-ids : List ℕ
  session-ids = ids_from 0 0 (stream_count side h 0)

  abbrev walks-of : List Check
  walks-of = map WalkSession session-ids

  pub record Passed (found later : List Finding) : Type 0 where
    pub kept : KeptStreams side h later
    pub came : AsCame (datagrams_of (events h)) later
    pub fault : fault_of later ≡ first_fault side h later
    pub settings : settings_came later ≡ (settings_came found || (is_none (early_fault side h later) && settings-there side h later))
    pub unis_settled : fault_of later ≡ None → (i : ℕ) → i < peer_count side (events h) (peer_uni side) → SettledAt side h later (peer_uni side) i
    pub bis_settled : fault_of later ≡ None → (i : ℕ) → i < peer_count side (events h) (peer_bi side) → SettledAt side h later (peer_bi side) i
    pub read : fault_of later ≡ None → length (read-of later) ≡ (if can_set_up side h then length (datagrams_of (events h)) else length (read-of found))
    pub quiet : fault_of later ≡ None → (t : ℕ) → list_any (λ (s : ℕ). s == t) (ids_from 0 0 (stream_count side h 0)) ≡ true → Quiet side h t later
    pub unread : can_set_up side h ≡ false → read-of later ≡ read-of found

  module _ (found : List Finding) (g : KeptStreams side h found) (c : AsCame (datagrams_of (events h)) found) (s : StreamsFault found) (e : fault_of found ≡ None) where
    abbrev after-unis : List Finding
    after-unis = after_checks side h unis found

    abbrev after-bis : List Finding
    after-bis = after_checks side h bis after-unis

    abbrev after-datagrams : List Finding
    after-datagrams = after_checks side h (datagram_checks 0 pieces) after-bis

    abbrev after-walks : List Finding
    after-walks = after_checks side h walks-of after-datagrams

    abbrev later : List Finding
    later = after_checks side h (last-checks side h) after-walks

    is-later : after_checks side h (checks side h) found ≡ later
    is-later =
        in-parts side h (((unis ++ bis) ++ datagram_checks 0 pieces) ++ walks-of) (last-checks side h) found
        ∙ ap (after_checks side h (last-checks side h))
        (in-parts side h ((unis ++ bis) ++ datagram_checks 0 pieces) walks-of found
        ∙ ap (after_checks side h walks-of) (in-parts side h (unis ++ bis) (datagram_checks 0 pieces) found ∙ ap (after_checks side h (datagram_checks 0 pieces)) (in-parts side h unis bis found)))

    -- every check is of an opened stream, or of none
    kept-of : (kind count : ℕ) → kind < 4 → count ≤ peer_count side (events h) kind → (f : List Finding) → KeptStreams side h f → KeptStreams side h (after_checks side h (stream_checks (ids_from kind 0 count)) f)
    kept-of kind count l b f = each-keeps side h (KeptStreams side h) (test-opened side h) (λ x k t n q. kept-check side h x k t q) (stream_checks (ids_from kind 0 count)) f (opened-pass side h kind l count 0 (omega (arith, b)))

    kept-unis : KeptStreams side h after-unis
    kept-unis = kept-of (peer_uni side) (peer_count side (events h) (peer_uni side)) (uni-kind side) (omega arith) found g

    kept-bis : KeptStreams side h after-bis
    kept-bis = kept-of (peer_bi side) (peer_count side (events h) (peer_bi side)) (bi-kind side) (omega arith) after-unis kept-unis

    kept-later : KeptStreams side h later
    kept-later =
        each-keeps side h (KeptStreams side h) (test-opened side h) (λ x k t n q. kept-check side h x k t q) (last-checks side h) after-walks refl
        (each-keeps side h (KeptStreams side h) (test-opened side h) (λ x k t n q. kept-check side h x k t q) walks-of after-datagrams (sessions-pass side h (test-opened side h) (λ t. refl) session-ids)
        (each-keeps side h (KeptStreams side h) (test-opened side h) (λ x k t n q. kept-check side h x k t q) (datagram_checks 0 pieces) after-bis (datagrams-pass side h (test-opened side h) (λ n p. refl) pieces 0) kept-bis))

    -- the streams' fault
    streams-bis : StreamsFault after-bis
    streams-bis =
        each-keeps side h StreamsFault (of-streams side h) (streams-check side h) bis after-unis (streams-pass side h (of-streams side h) (peer_bi side) (λ k. refl) (λ k. refl) (peer_count side (events h) (peer_bi side)) 0)
        (each-keeps side h StreamsFault (of-streams side h) (streams-check side h) unis found (streams-pass side h (of-streams side h) (peer_uni side) (λ k. refl) (λ k. refl) (peer_count side (events h) (peer_uni side)) 0) s)

    -- datagrams
    came-bis : AsCame pieces after-bis
    came-bis =
        came-kept pieces bis after-unis (streams-pass side h no-datagram (peer_bi side) (λ k. refl) (λ k. refl) (peer_count side (events h) (peer_bi side)) 0)
        (came-kept pieces unis found (streams-pass side h no-datagram (peer_uni side) (λ k. refl) (λ k. refl) (peer_count side (events h) (peer_uni side)) 0) c)

    read-bis : read-of after-bis ≡ read-of found
    read-bis =
        read-kept bis after-unis (streams-pass side h no-datagram (peer_bi side) (λ k. refl) (λ k. refl) (peer_count side (events h) (peer_bi side)) 0)
        ∙ read-kept unis found (streams-pass side h no-datagram (peer_uni side) (λ k. refl) (λ k. refl) (peer_count side (events h) (peer_uni side)) 0)

    m : ℕ
    m = length (read-of after-bis)

    skipped : after-datagrams ≡ after_checks side h (datagram_checks (length (read-of after-bis)) (drop (length (read-of after-bis)) pieces)) after-bis
    skipped = of (length (read-of after-bis)) came-bis.few refl
      where
        of : (n : ℕ) → n ≤ length pieces → n ≡ length (read-of after-bis) → after-datagrams ≡ after_checks side h (datagram_checks n (drop n pieces)) after-bis
        of n l q =
            let size : length (take n pieces) ≡ n = length-take-le n pieces l in
            ap (λ (ps : List (List ℕ)). after_checks side h (datagram_checks 0 ps) after-bis) (sym (take-append-drop n pieces))
            ∙ ap (λ (cs : List Check). after_checks side h cs after-bis) (checks-parts (take n pieces) (drop n pieces) 0)
            ∙ in-parts side h (datagram_checks 0 (take n pieces)) (datagram_checks (0 + length (take n pieces)) (drop n pieces)) after-bis
            ∙ ap (after_checks side h (datagram_checks (0 + length (take n pieces)) (drop n pieces))) (skips side h (take n pieces) 0 after-bis (omega (arith, size, q)))
            ∙ ap (λ (i : ℕ). after_checks side h (datagram_checks i (drop n pieces)) after-bis) (let z : 0 + length (take n pieces) ≡ n = omega (arith, size) in z)

    record Read : Type 0 where
      came : AsCame pieces after-datagrams
      fault : fault_of after-datagrams ≡ datagrams_fault side h
      all : fault_of after-datagrams ≡ None → length (read-of after-datagrams) ≡ (if can_set_up side h then length pieces else length (read-of found))

    read-all : fault_of after-bis ≡ None → Read
    read-all f = by (can_set_up side h) refl
      where
        by : (b : Bool) → can_set_up side h ≡ b → Read
        by true r =
            let x = reads-on side h pieces (drop (length (read-of after-bis)) pieces) after-bis r f came-bis refl in
            record {
              came = rw skipped x.came;
              fault =
                  ap fault_of skipped ∙ x.fault
                  ∙ sym (ap (λ (b : Bool). if b then first_of fault-of-piece pieces else None) r ∙ ap (first_of fault-of-piece) (sym (take-append-drop (length (read-of after-bis)) pieces))
                  ∙ first_of-append fault-of-piece (take (length (read-of after-bis)) pieces) (drop (length (read-of after-bis)) pieces)
                  ∙ ap (λ (o : Option ErrorCode). option_or o (first_of fault-of-piece (drop (length (read-of after-bis)) pieces))) (well-formed (read-of after-bis) (take (length (read-of after-bis)) pieces) came-bis.same));
              all = λ q. ap (λ (x : List Finding). length (read-of x)) skipped ∙ x.all (sym (ap fault_of skipped) ∙ q) ∙ ap (λ (b : Bool). if b then length pieces else length (read-of found)) (sym r);
            }
        by false r =
            let q = idle side h pieces 0 after-bis r in
            record {
              came = rw q came-bis;
              fault = ap fault_of q ∙ f ∙ ap (λ (b : Bool). if b then first_of fault-of-piece pieces else None) (sym r);
              all = λ z. ap (λ (x : List Finding). length (read-of x)) q ∙ ap length read-bis ∙ ap (λ (b : Bool). if b then length pieces else length (read-of found)) (sym r);
            }

    -- what stands behind the streams
    not-streams : list_all (none-of-streams side h) (datagram_checks 0 pieces) ≡ true
    not-streams = datagrams-pass side h (none-of-streams side h) (λ n p. refl) pieces 0

    not-walks : list_all (none-of-streams side h) walks-of ≡ true
    not-walks = sessions-pass side h (none-of-streams side h) (λ t. refl) session-ids

    same-datagrams : SameFaults side h after-bis after-datagrams
    same-datagrams = same-checks side h (datagram_checks 0 pieces) after-bis not-streams

    same-walks : SameFaults side h after-datagrams after-walks
    same-walks = same-checks side h walks-of after-datagrams not-walks

    same-last : SameFaults side h after-walks later
    same-last = same-checks side h (last-checks side h) after-walks refl

    -- SETTINGS so far
    settings-walks : settings_came after-walks ≡ settings_came found
    settings-walks =
        settings-kept walks-of after-datagrams (sessions-pass side h no-settings (λ t. refl) session-ids)
        ∙ settings-kept (datagram_checks 0 pieces) after-bis (datagrams-pass side h no-settings (λ n p. refl) pieces 0)
        ∙ settings-kept bis after-unis (streams-pass side h no-settings (peer_bi side) (λ k. refl) (λ k. refl) (peer_count side (events h) (peer_bi side)) 0)
        ∙ settings-kept unis found (streams-pass side h no-settings (peer_uni side) (λ k. refl) (λ k. refl) (peer_count side (events h) (peer_uni side)) 0)

    early-is : early_fault side h later ≡ option_or (streams_fault after-bis) (option_or (datagrams_fault side h) (option_or (sessions_fault side h after-datagrams) (stop-fault side h)))
    early-is = same-last.early ∙ same-walks.early ∙ same-datagrams.early ∙ ap (λ (o : Option ErrorCode). option_or (streams_fault after-bis) (option_or (datagrams_fault side h) (option_or o (stop-fault side h)))) (sym same-datagrams.sessions)

    all-is : first_fault side h later ≡ option_or (early_fault side h later) (late-fault side h after-walks)
    all-is = rw (same-last.control, same-last.encoder, same-last.decoder) refl

    record Faults : Type 0 where
      fault : fault_of later ≡ option_or (option_or (streams_fault after-bis) (option_or (datagrams_fault side h) (option_or (sessions_fault side h after-datagrams) (stop-fault side h)))) (late-fault side h after-walks)
      settings : settings_came later
          ≡ (settings_came found
          || (is_none (option_or (streams_fault after-bis) (option_or (datagrams_fault side h) (option_or (sessions_fault side h after-datagrams) (stop-fault side h)))) && settings-there side h after-walks))

    -- where a part has a fault, nothing is found behind it
    cut-short : (code : ErrorCode) → fault_of after-walks ≡ Some code → (fault_of later ≡ Some code) × (settings_came later ≡ (settings_came found || false))
    cut-short code q = let z = stopped side h (last-checks side h) after-walks code q in (ap fault_of z ∙ q, ap settings_came z ∙ settings-walks ∙ sym (or-false (settings_came found)))

    walks-cut : (code : ErrorCode) → fault_of after-datagrams ≡ Some code → fault_of after-walks ≡ Some code
    walks-cut code q = ap fault_of (stopped side h walks-of after-datagrams code q) ∙ q

    faults-are : Faults
    faults-are = by (streams_fault after-bis) refl
      where
        by-last : (x : streams_fault after-bis ≡ None) (y : datagrams_fault side h ≡ None) (z : sessions_fault side h after-datagrams ≡ None) → fault_of after-walks ≡ None → Faults
        by-last x y z w =
            let l = last-is side h after-walks w in
            record { fault = rw (x, y, z) l.fault; settings = rw (x, y, z) (l.settings ∙ ap (λ (b : Bool). b || (is_none (stop-fault side h) && settings-there side h after-walks)) settings-walks) }

        by-walks : (o : Option ErrorCode) → sessions_fault side h after-datagrams ≡ o → streams_fault after-bis ≡ None → datagrams_fault side h ≡ None → fault_of after-datagrams ≡ None → Faults
        by-walks (Some code) z x y w = let q = cut-short code ((sessions-walked side h session-ids after-datagrams w).fault ∙ z) in record { fault = rw (x, y, z) q.0; settings = rw (x, y, z) q.1 }
        by-walks None z x y w = by-last x y z ((sessions-walked side h session-ids after-datagrams w).fault ∙ z)

        by-datagrams : (o : Option ErrorCode) → datagrams_fault side h ≡ o → streams_fault after-bis ≡ None → fault_of after-bis ≡ None → Faults
        by-datagrams (Some code) y x w = let q = cut-short code (walks-cut code ((read-all w).fault ∙ y)) in record { fault = rw (x, y) q.0; settings = rw (x, y) q.1 }
        by-datagrams None y x w = by-walks (sessions_fault side h after-datagrams) refl x y ((read-all w).fault ∙ y)

        by : (o : Option ErrorCode) → streams_fault after-bis ≡ o → Faults
        by (Some code) x =
            let q = cut-short code (walks-cut code (ap fault_of (stopped side h (datagram_checks 0 pieces) after-bis code (streams-bis ∙ x)) ∙ streams-bis ∙ x)) in
            record { fault = rw x q.0; settings = rw x q.1 }
        by None x = by-datagrams (datagrams_fault side h) refl x (streams-bis ∙ x)

    module _ (f : fault_of later ≡ None) where
      f-walks : fault_of after-walks ≡ None
      f-walks = none-earlier (last-checks side h) after-walks f

      f-datagrams : fault_of after-datagrams ≡ None
      f-datagrams = none-earlier walks-of after-datagrams f-walks

      f-bis : fault_of after-bis ≡ None
      f-bis = none-earlier (datagram_checks 0 pieces) after-bis f-datagrams

      f-unis : fault_of after-unis ≡ None
      f-unis = none-earlier bis after-unis f-bis

      behind-settled : (kind i : ℕ) → kind < 4 → SettledAt side h after-bis kind i → SettledAt side h later kind i
      behind-settled kind i l z =
          settled-stays side h kind i l (last-checks side h) after-walks refl
          (settled-stays side h kind i l walks-of after-datagrams (sessions-pass side h (other-kind side h kind) (λ t. refl) session-ids)
          (settled-stays side h kind i l (datagram_checks 0 pieces) after-bis (datagrams-pass side h (other-kind side h kind) (λ n p. refl) pieces 0) z))

      later-unis : (i : ℕ) → i < peer_count side (events h) (peer_uni side) → SettledAt side h later (peer_uni side) i
      later-unis i b =
          behind-settled (peer_uni side) i (uni-kind side)
          (settled-stays side h (peer_uni side) i (uni-kind side) bis after-unis (other-pass side h (peer_uni side) (peer_bi side) (bi-kind side) (kinds-apart side).1 (peer_count side (events h) (peer_bi side)) 0)
          (settle side h (peer_uni side) (uni-kind side) (peer_count side (events h) (peer_uni side)) 0 found g (λ j c. opened-nth side h (peer_uni side) j (uni-kind side) (omega (arith, c))) e
          (λ j c. absurd (omega (arith, c))) f-unis i (omega (arith, b))))

      later-bis : (i : ℕ) → i < peer_count side (events h) (peer_bi side) → SettledAt side h later (peer_bi side) i
      later-bis i b =
          behind-settled (peer_bi side) i (bi-kind side)
          (settle side h (peer_bi side) (bi-kind side) (peer_count side (events h) (peer_bi side)) 0 after-unis kept-unis (λ j c. opened-nth side h (peer_bi side) j (bi-kind side) (omega (arith, c))) f-unis
          (λ j c. absurd (omega (arith, c))) f-bis i (omega (arith, b)))

      later-read : length (read-of later) ≡ (if can_set_up side h then length pieces else length (read-of found))
      later-read = ap length (read-kept (last-checks side h) after-walks refl ∙ read-kept walks-of after-datagrams (sessions-pass side h no-datagram (λ t. refl) session-ids)) ∙ (read-all f-bis).all f-datagrams

      later-quiet : (t : ℕ) → list_any (λ (x : ℕ). x == t) (ids_from 0 0 (stream_count side h 0)) ≡ true → Quiet side h t later
      later-quiet t b = quiet-later side h t (last-checks side h) after-walks refl ((sessions-walked side h session-ids after-datagrams f-datagrams).quiet f-walks t b)

    came-later : AsCame pieces later
    came-later = by (fault_of after-bis) refl
      where
        on : AsCame pieces after-datagrams → AsCame pieces later
        on z = came-kept pieces (last-checks side h) after-walks refl (came-kept pieces walks-of after-datagrams (sessions-pass side h no-datagram (λ t. refl) session-ids) z)

        by : (o : Option ErrorCode) → fault_of after-bis ≡ o → AsCame pieces later
        by None q = on (read-all q).came
        by (Some code) q = on (rw (stopped side h (datagram_checks 0 pieces) after-bis code q) came-bis)

    passed-later : Passed found later
    passed-later = record {
      kept = kept-later;
      came = came-later;
      fault = faults-are.fault ∙ sym (all-is ∙ ap (λ (o : Option ErrorCode). option_or o (late-fault side h after-walks)) early-is);
      settings = faults-are.settings ∙ rw (early-is, same-last.control) refl;
      unis_settled = later-unis;
      bis_settled = later-bis;
      read = later-read;
      quiet = later-quiet;
      unread = λ r. ap read-of (ap (λ (x : List Finding). after_checks side h (last-checks side h) (after_checks side h walks-of x)) (idle side h pieces 0 after-bis r))
          ∙ read-kept (last-checks side h) (after_checks side h walks-of after-bis) refl ∙ read-kept walks-of after-bis (sessions-pass side h no-datagram (λ t. refl) session-ids) ∙ read-bis;
    }

  pub pass : (found : List Finding) → KeptStreams side h found → AsCame (datagrams_of (events h)) found → StreamsFault found → fault_of found ≡ None → Passed found (after_checks side h (checks side h) found)
  pass found g c s e = rw (is-later found g c s e) (passed-later found g c s e)
