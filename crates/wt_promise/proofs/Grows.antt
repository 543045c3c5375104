-- What is found stays found: a moment adds to what was found before it.
use Rattle.std.specs.Prelude.{[], ◌%◌, ◌&&◌, ◌*◌, ◌+◌, ◌++◌, ◌==◌, ◌∷◌, ◌||◌, ◌≡◌, Bool, Err, List, None, Ok, Option, Result, Some, drop, false, filter, if◌then◌else◌, is_some, length, map, nat_lt, not, suc, true, zero, ℕ}
use Rattle.std.specs.List.{list_all}
use Rattle.std.specs.Option.{option_or}
use Rattle.std.proofs.Common.{◌∙◌, ap, append_assoc, refl, sym}
use Rattle.std.proofs.Math.Nat.{mul-add-mod_self_left}
use Rattle.std.proofs.Math.Seq.{drop-append_seam}
use Rattle.std.proofs.lemmas.List.{append-nil}
use Rattle.std.proofs.lemmas.List.Folds.{list_all-append}
use Rattle.wt_meaning.specs.Findings.{Classified, DatagramRead, Dequeued, Faulted, Finding, SessionClosed, SettingsRead, control_in, decoder_in, encoder_in, fault_of, first_of, is_classified, is_datagram, is_dequeued, settings_came}
use Rattle.wt_meaning.specs.History.{History, Pair, events, is_open, stream_count}
use Rattle.wt_meaning.specs.Moments.{Check, Classify, ControlFault, DecoderEnd, Dequeue, EncoderEnd, LocalStop, ReadDatagram, ReadSettings, WalkSession, after_checks, after_moments, checks, classified_as, control_walk, datagram_checks, datagram_found, end_fault, fault_if, findings, found_by, ids_from, is_ready, keeps, session_found, stream_checks, stream_fault, unclassified_before, verdict}
use Rattle.wt_proto.specs.SessionWalk.{is_over, session_walk_of}
use Rattle.wt_meaning.specs.Windows.{datagrams_in_window, is_gone, lives, session_part}
use Rattle.wt_message.specs.Datagram.{datagram_of}
use Rattle.wt_promise.proofs.Accepted.{and-left, and-right}
use Rattle.wt_proto.specs.declared.session_walk.SessionWalk.{SessionWalk}
use Rattle.wt_proto.specs.declared.verdict.Verdict.{Verdict}
use Rattle.wt_turn.specs.Reports.{datagrams_of, end_of, is_running, stop_of}
use Rattle.wt_turn.specs.Streams.{local_uni, peer_bi, peer_count, peer_uni}
use Rattle.wt_turn.specs.declared.reply.Reply.{Reply}
use Rattle.wt_wire.specs.declared.error.ErrorCode.{ErrorCode}
use Rattle.wt_wire.specs.declared.side.Side.{Side}
use Rattle.wt_wire.specs.declared.side.Side.TheVariants.{Client, Server}
use Rattle.wt_proto.specs.declared.session_walk.SessionWalk.TheVariants as walks
use Rattle.wt_proto.specs.declared.verdict.Verdict.TheVariants as verdicts
use Rattle.wt_turn.specs.declared.reply.Reply.TheVariants as replies
use Rattle.wt_wire.specs.declared.error.ErrorCode.TheVariants as h3
use Rattle.wt_wire.specs.declared.side.StreamEnd.TheVariants as ends

-- ---- lists

pub first_of-append : {S T : Type 0} (says : S → Option T) (xs ys : List S) → first_of says (xs ++ ys) ≡ option_or (first_of says xs) (first_of says ys)
first_of-append says [] ys = refl
first_of-append {S = S} {T = T} says (x ∷ xs) ys = by (says x) (first_of-append says xs ys)
  where
    by : (o : Option T) → first_of says (xs ++ ys) ≡ option_or (first_of says xs) (first_of says ys) → option_or o (first_of says (xs ++ ys)) ≡ option_or (option_or o (first_of says xs)) (first_of says ys)
    by (Some t) e = refl
    by None e = e

-- what the first of a list says, that of a longer one says too
pub first_of-stays : {S T : Type 0} (says : S → Option T) (xs ys : List S) (t : T) → first_of says xs ≡ Some t → first_of says (xs ++ ys) ≡ Some t
first_of-stays {S = S} {T = T} says xs ys t e = first_of-append says xs ys ∙ ap (λ (o : Option T). option_or o (first_of says ys)) e

-- ---- the checks of a moment

-- what is found by these checks
abbrev pub more : Side → History → List Check → List Finding → List Finding
more side h [] found = []
more side h (c ∷ later) found = if is_some (fault_of found) then [] else found_by side h found c ++ more side h later (found ++ found_by side h found c)

pub checks-add : (side : Side) (h : History) (cs : List Check) (found : List Finding) → after_checks side h cs found ≡ found ++ more side h cs found
checks-add side h [] found = sym (append-nil found)
checks-add side h (c ∷ later) found = by (is_some (fault_of found)) (checks-add side h later (found ++ found_by side h found c))
  where
    by : (b : Bool) → after_checks side h later (found ++ found_by side h found c) ≡ (found ++ found_by side h found c) ++ more side h later (found ++ found_by side h found c)
        → (if b then found else after_checks side h later (found ++ found_by side h found c)) ≡ found ++ (if b then [] else found_by side h found c ++ more side h later (found ++ found_by side h found c))
    by true e = sym (append-nil found)
    by false e = e ∙ append_assoc found (found_by side h found c) (more side h later (found ++ found_by side h found c))

-- what is found by a moment, or by two
abbrev pub more-by : Side → History → Reply → List Finding → List Finding
more-by side h (replies.Session id) found = more side h (checks side h) found ++ more side h (checks side h) (found ++ more side h (checks side h) found)
more-by side h _ found = more side h (checks side h) found

pub moments-add : (side : Side) (h : History) (r : Reply) (found : List Finding) → after_moments side h r found ≡ found ++ more-by side h r found
moments-add side h (replies.Session id) found =
    ap (after_checks side h (checks side h)) (checks-add side h (checks side h) found)
    ∙ checks-add side h (checks side h) (found ++ more side h (checks side h) found)
    ∙ append_assoc found (more side h (checks side h) found) (more side h (checks side h) (found ++ more side h (checks side h) found))
moments-add side h r found = checks-add side h (checks side h) found

-- what is found at the newest pair
abbrev pub news : Side → Pair → History → List Finding
news side p h = if is_open h then more-by side (p ∷ h) p.answer.reply (findings side h) else []

pub findings-add : (side : Side) (p : Pair) (h : History) → findings side (p ∷ h) ≡ findings side h ++ news side p h
unfolding findings
findings-add side p h = by (is_open h)
  where
    by : (b : Bool) → (if b then after_moments side (p ∷ h) p.answer.reply (findings side h) else findings side h)
        ≡ findings side h ++ (if b then more-by side (p ∷ h) p.answer.reply (findings side h) else [])
    by true = moments-add side (p ∷ h) p.answer.reply (findings side h)
    by false = sym (append-nil (findings side h))

pub news-dropped : (side : Side) (p : Pair) (h : History) → drop (length (findings side h)) (findings side (p ∷ h)) ≡ news side p h
news-dropped side p h = ap (drop (length (findings side h))) (findings-add side p h) ∙ drop-append_seam (findings side h) (news side p h)

-- while the connection was open, the news are a moment's
pub news-open : (side : Side) (p : Pair) (h : History) → is_open h ≡ true → news side p h ≡ more-by side (p ∷ h) p.answer.reply (findings side h)
news-open side p h e = rw e refl

-- once it had ended there are none
pub news-ended : (side : Side) (p : Pair) (h : History) → is_open h ≡ false → news side p h ≡ []
news-ended side p h e = rw e refl

-- ---- whose streams are asked about

-- the stream is the peer's
abbrev pub is_peers : Side → ℕ → Bool
is_peers side k = (k % 4 == peer_uni side) || (k % 4 == peer_bi side)

-- the check is of a stream of the peer, or of none
abbrev pub asks_peers : Side → Check → Bool
asks_peers side (Dequeue k) = is_peers side k
asks_peers side (Classify k) = is_peers side k
asks_peers side _ = true

uni-peers : (side : Side) (n : ℕ) → is_peers side (4 * n + peer_uni side) ≡ true
uni-peers Client n = rw (mul-add-mod_self_left 4 n 3) refl
uni-peers Server n = rw (mul-add-mod_self_left 4 n 2) refl

bi-peers : (side : Side) (n : ℕ) → is_peers side (4 * n + peer_bi side) ≡ true
bi-peers Client n = rw (mul-add-mod_self_left 4 n 1) refl
bi-peers Server n = rw (mul-add-mod_self_left 4 n 0) refl

all-append : (side : Side) (xs ys : List Check) → list_all (asks_peers side) xs ≡ true → list_all (asks_peers side) ys ≡ true → list_all (asks_peers side) (xs ++ ys) ≡ true
all-append side xs ys a b = list_all-append (asks_peers side) xs ys ∙ rw (a, b) refl

uni-checks : (side : Side) (n count : ℕ) → list_all (asks_peers side) (stream_checks (ids_from (peer_uni side) n count)) ≡ true
uni-checks side n zero = refl
uni-checks side n (suc count) = rw (uni-peers side n, uni-checks side (suc n) count) refl

bi-checks : (side : Side) (n count : ℕ) → list_all (asks_peers side) (stream_checks (ids_from (peer_bi side) n count)) ≡ true
bi-checks side n zero = refl
bi-checks side n (suc count) = rw (bi-peers side n, bi-checks side (suc n) count) refl

datagrams-checked : (side : Side) (n : ℕ) (pieces : List (List ℕ)) → list_all (asks_peers side) (datagram_checks n pieces) ≡ true
datagrams-checked side n [] = refl
datagrams-checked side n (piece ∷ later) = datagrams-checked side (suc n) later

sessions-checked : (side : Side) (ids : List ℕ) → list_all (asks_peers side) (map WalkSession ids) ≡ true
sessions-checked side [] = refl
sessions-checked side (s ∷ ids) = sessions-checked side ids

pub peers-checked : (side : Side) (h : History) → list_all (asks_peers side) (checks side h) ≡ true
peers-checked side h =
    all-append side (((unis ++ bis) ++ pieces) ++ sessions) (LocalStop ∷ ReadSettings ∷ ControlFault ∷ EncoderEnd ∷ DecoderEnd ∷ [])
    (all-append side ((unis ++ bis) ++ pieces) sessions
    (all-append side (unis ++ bis) pieces
    (all-append side unis bis (uni-checks side 0 (peer_count side (events h) (peer_uni side))) (bi-checks side 0 (peer_count side (events h) (peer_bi side))))
    (datagrams-checked side 0 (datagrams_of (events h)))) (sessions-checked side (ids_from 0 0 (stream_count side h 0)))) refl
  where
    unis : List Check
    unis = stream_checks (ids_from (peer_uni side) 0 (peer_count side (events h) (peer_uni side)))

    bis : List Check
    bis = stream_checks (ids_from (peer_bi side) 0 (peer_count side (events h) (peer_bi side)))

    pieces : List Check
    pieces = datagram_checks 0 (datagrams_of (events h))

    sessions : List Check
    sessions = map WalkSession (ids_from 0 0 (stream_count side h 0))

-- ---- what a check can find

pub data Adds (side : Side) (h : History) (found : List Finding) : List Finding → Type 0 where
  Nothing : Adds side h found []
  ADequeued : (k : ℕ) → is_peers side k ≡ true → Adds side h found (Dequeued k ∷ [])
  AClassified : (k : ℕ) (v : Verdict) (more : List Finding) → is_peers side k ≡ true → is_dequeued found k ≡ true → is_classified found k ≡ false → verdict h k ≡ v → more ≡ stream_fault found v
      → Adds side h found (Classified k v (keeps h found v) ∷ more)
  ADatagram : (n s : ℕ) (payload : List ℕ) → (length (filter is_datagram found) == n) ≡ true
      → Adds side h found (DatagramRead n s payload (not (is_gone h found s) && nat_lt (datagrams_in_window h found s) 16) ∷ [])
  AClosed : (s code : ℕ) (reason : List ℕ) (by_capsule : Bool) → lives h found s ≡ true → Adds side h found (SessionClosed s code reason by_capsule ∷ [])
  ASettings : settings_came found ≡ false → Adds side h found (SettingsRead ∷ [])
  AFault : (code : ErrorCode) → Adds side h found (Faulted code ∷ [])

of-fault : (P : List Finding → Type 0) → P [] → ((code : ErrorCode) → P (Faulted code ∷ [])) → (b : Bool) (code : ErrorCode) → P (fault_if b code)
of-fault P none one true code = one code
of-fault P none one false code = none

-- what holds of nothing and of a fault alone holds of the fault of a stream
pub of-stream-fault : (P : List Finding → Type 0) → P [] → ((code : ErrorCode) → P (Faulted code ∷ [])) → (found : List Finding) (v : Verdict) → P (stream_fault found v)
of-stream-fault P none one found (verdicts.Fault code) = one code
of-stream-fault P none one found (verdicts.Control offset) = of-fault P none one (is_some (first_of control_in found)) h3.StreamCreation
of-stream-fault P none one found (verdicts.Encoder offset) = of-fault P none one (is_some (first_of encoder_in found)) h3.StreamCreation
of-stream-fault P none one found (verdicts.Decoder offset) = of-fault P none one (is_some (first_of decoder_in found)) h3.StreamCreation
of-stream-fault P none one found v = none

fault-adds : (side : Side) (h : History) (found : List Finding) (b : Bool) (code : ErrorCode) → Adds side h found (fault_if b code)
fault-adds side h found true code = AFault code
fault-adds side h found false code = Nothing

dequeuing-adds : (side : Side) (h : History) (found : List Finding) (k : ℕ) (b : Bool) → is_peers side k ≡ true → Adds side h found (if b then Dequeued k ∷ [] else [])
dequeuing-adds side h found k true p = ADequeued k p
dequeuing-adds side h found k false p = Nothing

as-adds : (side : Side) (h : History) (found : List Finding) (k : ℕ) (v : Verdict) → is_peers side k ≡ true → is_dequeued found k ≡ true → is_classified found k ≡ false → verdict h k ≡ v
    → Adds side h found (classified_as h found k v)
as-adds side h found k verdicts.Incomplete p d c e = Nothing
as-adds side h found k v p d c e = AClassified k v (stream_fault found v) p d c e refl

classifying-adds : (side : Side) (h : History) (found : List Finding) (k : ℕ) (d c : Bool) → is_peers side k ≡ true → is_dequeued found k ≡ d → is_classified found k ≡ c
    → Adds side h found (if d && not c then classified_as h found k (verdict h k) else [])
classifying-adds side h found k true false p i j = as-adds side h found k (verdict h k) p i j refl
classifying-adds side h found k true true p i j = Nothing
classifying-adds side h found k false c p i j = Nothing

datagram-adds : (side : Side) (h : History) (found : List Finding) (n : ℕ) (r c : Bool) (d : Result (ℕ × List ℕ) ErrorCode) → (length (filter is_datagram found) == n) ≡ c
    → Adds side h found (if r && c then datagram_found h found n d ∷ [] else [])
datagram-adds side h found n false c d e = Nothing
datagram-adds side h found n true false d e = Nothing
datagram-adds side h found n true true (Err code) e = AFault code
datagram-adds side h found n true true (Ok d) e = ADatagram n (4 * d.0) d.1 e

closing-adds : (side : Side) (h : History) (found : List Finding) (s : ℕ) (l by_capsule : Bool) (walk : SessionWalk) → lives h found s ≡ l → Adds side h found (if l then session_found s by_capsule walk else [])
closing-adds side h found s false by_capsule walk e = Nothing
closing-adds side h found s true by_capsule walks.Running e = Nothing
closing-adds side h found s true by_capsule (walks.Closed code reason) e = AClosed s code reason by_capsule e
closing-adds side h found s true by_capsule (walks.Fault code) e = AFault code

settings-adds : (side : Side) (h : History) (found : List Finding) (c b : Bool) → settings_came found ≡ c → Adds side h found (if not c && b then SettingsRead ∷ [] else [])
settings-adds side h found true b e = Nothing
settings-adds side h found false true e = ASettings e
settings-adds side h found false false e = Nothing

control-adds : (side : Side) (h : History) (found : List Finding) (f : Option ErrorCode) → Adds side h found (elim f [ Some code ↦ Faulted code ∷ [] | None ↦ [] ])
control-adds side h found (Some code) = AFault code
control-adds side h found None = Nothing

end-adds : (side : Side) (h : History) (found : List Finding) (stream : Option (ℕ × ℕ)) → Adds side h found (end_fault h stream)
end-adds side h found None = Nothing
end-adds side h found (Some stream) = fault-adds side h found (not (is_running (end_of (events h) stream.0))) h3.ClosedCriticalStream

pub adds : (side : Side) (h : History) (found : List Finding) (c : Check) → asks_peers side c ≡ true → Adds side h found (found_by side h found c)
adds side h found (Dequeue k) p = dequeuing-adds side h found k (not (is_dequeued found k) && is_ready side h && nat_lt (unclassified_before found k) 4) p
adds side h found (Classify k) p = classifying-adds side h found k (is_dequeued found k) (is_classified found k) p refl refl
adds side h found (ReadDatagram n piece) p = datagram-adds side h found n (is_ready side h) (length (filter is_datagram found) == n) (datagram_of piece) refl
adds side h found (WalkSession s) p =
    closing-adds side h found s (lives h found s) (is_over (session_walk_of (session_part h found s) ends.Running)) (session_walk_of (session_part h found s) (end_of (events h) s)) refl
adds side h found LocalStop p = fault-adds side h found (is_some (stop_of (events h) (local_uni side))) h3.ClosedCriticalStream
adds side h found ReadSettings p = settings-adds side h found (settings_came found) (is_some (control_walk h (first_of control_in found)).settings) refl
adds side h found ControlFault p = control-adds side h found (control_walk h (first_of control_in found)).fault
adds side h found EncoderEnd p = end-adds side h found (first_of encoder_in found)
adds side h found DecoderEnd p = end-adds side h found (first_of decoder_in found)

-- ---- what each check keeps, a moment keeps

abbrev pub Kept : Side → History → (List Finding → Type 0) → Type 0
Kept side h Good = (found new : List Finding) → Adds side h found new → fault_of found ≡ None → Good found → Good (found ++ new)

pub checks-keep : (side : Side) (h : History) (Good : List Finding → Type 0) → Kept side h Good → (cs : List Check) (found : List Finding) → list_all (asks_peers side) cs ≡ true → Good found → Good (after_checks side h cs found)
checks-keep side h Good kept [] found p g = g
checks-keep side h Good kept (c ∷ later) found p g =
    by (fault_of found) refl (λ e. checks-keep side h Good kept later (found ++ found_by side h found c) (and-right (asks_peers side c) (list_all (asks_peers side) later) p)
    (kept found (found_by side h found c) (adds side h found c (and-left (asks_peers side c) (list_all (asks_peers side) later) p)) e g))
  where
    by : (f : Option ErrorCode) → fault_of found ≡ f → (fault_of found ≡ None → Good (after_checks side h later (found ++ found_by side h found c)))
        → Good (if is_some f then found else after_checks side h later (found ++ found_by side h found c))
    by (Some code) e more = g
    by None e more = more e

pub moments-keep : (side : Side) (h : History) (Good : List Finding → Type 0) → Kept side h Good → (r : Reply) (found : List Finding) → Good found → Good (after_moments side h r found)
moments-keep side h Good kept (replies.Session id) found g = checks-keep side h Good kept (checks side h) (after_checks side h (checks side h) found) (peers-checked side h) (checks-keep side h Good kept (checks side h) found (peers-checked side h) g)
moments-keep side h Good kept r found g = checks-keep side h Good kept (checks side h) found (peers-checked side h) g

-- what a pair's moments keep, and what a pair alone keeps, holds of all that is found
pub findings-keep : (side : Side) (p : Pair) (h : History) (Good : List Finding → Type 0) → Kept side (p ∷ h) Good → Good (findings side h) → Good (findings side (p ∷ h))
unfolding findings
findings-keep side p h Good kept g = by (is_open h)
  where
    by : (b : Bool) → Good (if b then after_moments side (p ∷ h) p.answer.reply (findings side h) else findings side h)
    by true = moments-keep side (p ∷ h) Good kept p.answer.reply (findings side h) g
    by false = g
