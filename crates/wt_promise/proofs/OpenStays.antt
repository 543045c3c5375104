-- The connection stays open exactly where no loss came, no own action of the call closes it, and there is no fault.
use Rattle.std.specs.Prelude.{[], ◌&&◌, ◌++◌, ◌==◌, ◌∷◌, ◌||◌, ◌≡◌, Bool, Err, List, None, Ok, Option, Result, Some, drop, false, filter, if◌then◌else◌, is_none, is_some, length, not, true, ℕ}
use Rattle.std.specs.List.{list_any}
use Rattle.std.proofs.Common.{◌∙◌, ap, refl, sym}
use Rattle.std.proofs.lemmas.List.Folds.{list_any-append}
use Rattle.wt_meaning.specs.Findings.{Faulted, Finding, control_in, decoder_in, encoder_in, fault_in, fault_of, first_of, is_classified, is_datagram, is_dequeued}
use Rattle.wt_meaning.specs.History.{History, Pair, actions_out, ends_by, is_open, loses}
use Rattle.wt_meaning.specs.Meaning.{next, own_answer, with_pair}
use Rattle.wt_meaning.specs.Moments.{Check, Classify, ControlFault, DecoderEnd, Dequeue, EncoderEnd, LocalStop, ReadDatagram, ReadSettings, WalkSession, after_checks, after_moments, checks, classified_as, control_walk, datagram_found, end_fault, findings, found_by, is_ready, verdict}
use Rattle.wt_meaning.specs.Sends.{actions_for_all, control_actions, moment_actions}
use Rattle.wt_message.specs.Datagram.{datagram_of}
use Rattle.wt_promise.proofs.Accepted.{and-right}
use Rattle.wt_promise.proofs.Actions.{any-next, closes-by-fault, control-closes-not, opened-next}
use Rattle.wt_promise.proofs.Grows.{findings-add, first_of-append, news, news-dropped}
use Rattle.wt_promise.proofs.OwnForms.{OpenByOwn}
use Rattle.wt_promise.specs.Promise.{IsHistory}
use Rattle.wt_proto.specs.declared.control_walk.ControlWalk.{ControlWalk}
use Rattle.wt_proto.specs.declared.verdict.Verdict.{Verdict}
use Rattle.wt_turn.specs.Streams.{local_count}
use Rattle.wt_turn.specs.Log.{closes}
use Rattle.wt_turn.specs.declared.action.Action.{Action}
use Rattle.wt_turn.specs.declared.answer.Answer.{Answer}
use Rattle.wt_turn.specs.declared.reply.Reply.{Reply}
use Rattle.wt_turn.specs.declared.turn.Turn.{Turn}
use Rattle.wt_wire.specs.declared.error.ErrorCode.{ErrorCode}
use Rattle.wt_wire.specs.declared.side.Side.{Side}
use Rattle.wt_proto.specs.declared.verdict.Verdict.TheVariants as verdicts
use Rattle.wt_turn.specs.declared.reply.Reply.TheVariants as replies

-- ---- what is found at a pair asks nothing of its actions, but which bidirectional streams they open

-- a pair with these actions
abbrev pub of : Turn → Reply → List Action → Pair
of turn r as_ = record { turn = turn; answer = record { reply = r; actions = as_ } }

same-class : (turn : Turn) (r : Reply) (as_ bs : List Action) (h : History) (found : List Finding) (k : ℕ) (v : Verdict)
    → classified_as (of turn r as_ ∷ h) found k v ≡ classified_as (of turn r bs ∷ h) found k v
same-class turn r as_ bs h found k verdicts.Incomplete = refl
same-class turn r as_ bs h found k (verdicts.WebTransport session offset) = refl
same-class turn r as_ bs h found k (verdicts.Request headers offset) = refl
same-class turn r as_ bs h found k v = refl

same-datagram : (turn : Turn) (r : Reply) (as_ bs : List Action) (h : History) (found : List Finding) (n : ℕ) (d : Result (ℕ × List ℕ) ErrorCode)
    → datagram_found (of turn r as_ ∷ h) found n d ≡ datagram_found (of turn r bs ∷ h) found n d
same-datagram turn r as_ bs h found n (Err code) = refl
same-datagram turn r as_ bs h found n (Ok d) = refl

same-walk : (turn : Turn) (r : Reply) (as_ bs : List Action) (h : History) (stream : Option (ℕ × ℕ)) → control_walk (of turn r as_ ∷ h) stream ≡ control_walk (of turn r bs ∷ h) stream
same-walk turn r as_ bs h None = refl
same-walk turn r as_ bs h (Some stream) = refl

same-end : (turn : Turn) (r : Reply) (as_ bs : List Action) (h : History) (stream : Option (ℕ × ℕ)) → end_fault (of turn r as_ ∷ h) stream ≡ end_fault (of turn r bs ∷ h) stream
same-end turn r as_ bs h None = refl
same-end turn r as_ bs h (Some stream) = refl

-- what the walk over control frames finds
abbrev control-found : ControlWalk → List Finding
control-found walk = elim walk.fault [ Some code ↦ Faulted code ∷ [] | None ↦ [] ]

same-found : (side : Side) (turn : Turn) (r : Reply) (as_ bs : List Action) (h : History) (found : List Finding) (c : Check)
    → found_by side (of turn r as_ ∷ h) found c ≡ found_by side (of turn r bs ∷ h) found c
same-found side turn r as_ bs h found (Dequeue k) = refl
same-found side turn r as_ bs h found (Classify k) =
    ap (λ (f : List Finding). if is_dequeued found k && not (is_classified found k) then f else []) (same-class turn r as_ bs h found k (verdict (of turn r as_ ∷ h) k))
same-found side turn r as_ bs h found (ReadDatagram n piece) = ap (λ (f : Finding). if is_ready side (of turn r as_ ∷ h) && length (filter is_datagram found) == n then f ∷ [] else []) (same-datagram turn r as_ bs h found n (datagram_of piece))
same-found side turn r as_ bs h found (WalkSession s) = refl
same-found side turn r as_ bs h found LocalStop = refl
same-found side turn r as_ bs h found ReadSettings = rw (same-walk turn r as_ bs h (first_of control_in found)) refl
same-found side turn r as_ bs h found ControlFault = ap control-found (same-walk turn r as_ bs h (first_of control_in found))
same-found side turn r as_ bs h found EncoderEnd = same-end turn r as_ bs h (first_of encoder_in found)
same-found side turn r as_ bs h found DecoderEnd = same-end turn r as_ bs h (first_of decoder_in found)

same-after : (side : Side) (turn : Turn) (r : Reply) (as_ bs : List Action) (h : History) (cs : List Check) (found : List Finding)
    → after_checks side (of turn r as_ ∷ h) cs found ≡ after_checks side (of turn r bs ∷ h) cs found
same-after side turn r as_ bs h [] found = refl
same-after side turn r as_ bs h (c ∷ later) found =
    ap (λ (f : List Finding). if is_some (fault_of found) then found else after_checks side (of turn r as_ ∷ h) later (found ++ f)) (same-found side turn r as_ bs h found c)
    ∙ ap (λ (f : List Finding). if is_some (fault_of found) then found else f) (same-after side turn r as_ bs h later (found ++ found_by side (of turn r bs ∷ h) found c))

same-checks : (side : Side) (turn : Turn) (r : Reply) (as_ bs : List Action) (h : History)
    → local_count (actions_out (of turn r as_ ∷ h)) 0 ≡ local_count (actions_out (of turn r bs ∷ h)) 0 → checks side (of turn r as_ ∷ h) ≡ checks side (of turn r bs ∷ h)
same-checks side turn r as_ bs h e = rw e refl

same-moments : (side : Side) (turn : Turn) (r : Reply) (as_ bs : List Action) (h : History) (cs : List Check) (s : Reply) (found : List Finding)
    → local_count (actions_out (of turn r as_ ∷ h)) 0 ≡ local_count (actions_out (of turn r bs ∷ h)) 0
    → after_moments side (of turn r as_ ∷ h) s found ≡ after_moments side (of turn r bs ∷ h) s found
same-moments side turn r as_ bs h cs (replies.Session id) found e =
    rw (same-checks side turn r as_ bs h e) (same-after side turn r as_ bs h (checks side (of turn r bs ∷ h)) (after_checks side (of turn r as_ ∷ h) (checks side (of turn r bs ∷ h)) found)
    ∙ ap (after_checks side (of turn r bs ∷ h) (checks side (of turn r bs ∷ h))) (same-after side turn r as_ bs h (checks side (of turn r bs ∷ h)) found))
same-moments side turn r as_ bs h cs s found e =
    rw (same-checks side turn r as_ bs h e) (same-after side turn r as_ bs h (checks side (of turn r bs ∷ h)) found)

-- so the whole answer's pair finds what the call's own finds
pub same-findings : (side : Side) (h : History) (turn : Turn) → findings side (with_pair h turn (next side h turn)) ≡ findings side (with_pair h turn (own_answer side h turn))
unfolding findings
same-findings side h turn =
    ap (λ (f : List Finding). if is_open h then f else findings side h)
    (same-moments side turn (own_answer side h turn).reply (next side h turn).actions (own_answer side h turn).actions h [] (own_answer side h turn).reply (findings side h) (opened-next side h turn))

-- and has the same news
pub same-news : (side : Side) (h : History) (turn : Turn) → news side (record { turn = turn; answer = own_answer side h turn }) h ≡ news side (record { turn = turn; answer = next side h turn }) h
same-news side h turn =
    sym (news-dropped side (record { turn = turn; answer = own_answer side h turn }) h) ∙ ap (drop (length (findings side h))) (sym (same-findings side h turn))
    ∙ news-dropped side (record { turn = turn; answer = next side h turn }) h

-- ---- open

-- while the connection is open nothing found is a fault
abbrev NoFault : Side → History → Type 0
NoFault side h = is_open h ≡ true → fault_of (findings side h) ≡ None

none-of : {T : Type 0} (o : Option T) → is_none o ≡ true → o ≡ None
none-of None e = refl
none-of (Some x) e = absurd (cc e)

some-not : {T : Type 0} (o : Option T) → not (is_some o) ≡ is_none o
some-not None = refl
some-not (Some x) = refl

-- the actions of a moment close where a fault is found
moment-closes : (side : Side) (p : Pair) (h : History) → fault_of (findings side h) ≡ None → is_open (p ∷ h) ≡ true → list_any closes (moment_actions side (p ∷ h)) ≡ is_some (fault_of (findings side (p ∷ h)))
moment-closes side p h n o =
    ap (λ (b : Bool). list_any closes (if b then control_actions side (p ∷ h) ++ actions_for_all side (p ∷ h) (findings side h) (drop (length (findings side h)) (findings side (p ∷ h))) else [])) o
    ∙ list_any-append closes (control_actions side (p ∷ h)) _
    ∙ rw (
      control-closes-not side (p ∷ h),
      closes-by-fault side (p ∷ h) (findings side h) (drop (length (findings side h)) (findings side (p ∷ h))),
      news-dropped side p h,
      findings-add side p h,
      first_of-append fault_in (findings side h) (news side p h),
      n,
    ) refl

some-or-none : {T : Type 0} (o : Option T) → is_some o ≡ not (is_none o)
some-or-none None = refl
some-or-none (Some x) = refl

-- the tests of an answer: ended before, lost, closed by the call, closed by the moment, closed, and no fault
open-tests : (x l c m n f : Bool) → n ≡ (c || m) → (x ≡ false → l ≡ false → c ≡ false → m ≡ not f) → not ((l || n) || x) ≡ (((not x && not l) && not c) && f)
open-tests true l c m n f e g = shut (l || n)
  where
    shut : (b : Bool) → not (b || true) ≡ false
    shut true = refl
    shut false = refl
open-tests false true c m n f e g = refl
open-tests false false true m n f e g = ap (λ (b : Bool). not (b || false)) e
open-tests false false false m n f e g = ap (λ (b : Bool). not (b || false)) (e ∙ g refl refl refl) ∙ twice f
  where
    twice : (b : Bool) → not (not b || false) ≡ b
    twice true = refl
    twice false = refl

open-by : (l c x : Bool) → l ≡ false → c ≡ false → x ≡ false → not ((l || c) || x) ≡ true
open-by l c x e f g = rw (e, f, g) refl

open-exactly-with : (side : Side) (h : History) (turn : Turn) → NoFault side h → OpenByOwn side h turn (next side h turn)
open-exactly-with side h turn n =
    open-tests (list_any ends_by h) (loses turn) (list_any closes own.actions) (list_any closes (moment_actions side (q ∷ h))) (list_any closes (next side h turn).actions)
    (is_none (fault_of (findings side (with_pair h turn (next side h turn))))) (any-next closes (λ k x y. refl) side h turn)
    (λ x l c. moment-closes side q h (n (ap not x)) (open-by (loses turn) (list_any closes own.actions) (list_any ends_by h) l c x)
    ∙ some-or-none (fault_of (findings side (q ∷ h))) ∙ ap (λ (found : List Finding). not (is_none (fault_of found))) (sym (same-findings side h turn)))
  where
    own : Answer
    own = own_answer side h turn

    q : Pair
    q = record { turn = turn; answer = own }

none-at-first : (side : Side) → fault_of (findings side []) ≡ None
unfolding findings
none-at-first side = refl

pub no-fault : (side : Side) (h : History) → IsHistory side h → is_open h ≡ true → fault_of (findings side h) ≡ None
no-fault side [] i o = none-at-first side
no-fault side (p ∷ h) i o =
    let e : OpenByOwn side h p.turn p.answer = rw i.1 (open-exactly-with side h p.turn (no-fault side h i.2)) in
    none-of (fault_of (findings side (p ∷ h))) (and-right (is_open h && not (loses p.turn) && not (list_any closes (own_answer side h p.turn).actions)) (is_none (fault_of (findings side (p ∷ h)))) (sym e ∙ o))

pub open-exactly : (side : Side) (h : History) (turn : Turn) → IsHistory side h → OpenByOwn side h turn (next side h turn)
open-exactly side h turn i = open-exactly-with side h turn (no-fault side h i)
