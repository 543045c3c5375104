-- This end's control stream is never handed out, nor written by a call.
use Rattle.std.specs.Prelude.{[], ◌++◌, ◌==◌, ◌∷◌, ◌≡◌, Bool, List, None, Option, Some, drop, false, if◌then◌else◌, is_some, length, true, unwrap_or, ℕ}
use Rattle.std.specs.List.{list_any}
use Rattle.std.proofs.Common.{◌∙◌, ap, arith, refl, sym}
use Rattle.std.proofs.lemmas.Bool.{eq-eqb}
use Rattle.std.proofs.lemmas.List.{append-nil}
use Rattle.wt_meaning.specs.Calls.{being_opened, opened_by, opening_ends}
use Rattle.wt_meaning.specs.Findings.{first_of}
use Rattle.wt_meaning.specs.History.{History, Pair, is_handed_out, is_open}
use Rattle.wt_meaning.specs.Lawful.{is_lawful, is_response}
use Rattle.wt_meaning.specs.Meaning.{next, own_answer, with_pair}
use Rattle.wt_meaning.specs.Moments.{findings}
use Rattle.wt_meaning.specs.Sends.{actions_for_all, control_actions, moment_actions}
use Rattle.wt_meaning.specs.Windows.{last_request}
use Rattle.wt_promise.proofs.Actions.{none-control}
use Rattle.wt_promise.proofs.Begun.{BegunFor, PolledStream, polled-stream}
use Rattle.wt_promise.proofs.BytesOut.{bytes-append, bytes-join, bytes_on, none-on, quiet-all, sends}
use Rattle.wt_promise.proofs.Flow.{clash, swapped}
use Rattle.wt_promise.proofs.Fresh.{was-opened}
use Rattle.wt_promise.proofs.Grows.{is_peers}
use Rattle.wt_promise.proofs.Sent.{Given, Opening, Polled, Quiet, Sent, Wrote, front-bytes, sent-own}
use Rattle.wt_promise.proofs.Shakes.{head_stream}
use Rattle.wt_promise.proofs.Verdicts.{ByAccept, ByOpening, HandedBy, admitted-peers, given-peers, handed-by}
use Rattle.wt_promise.specs.Promise.{IsHistory}
use Rattle.wt_turn.specs.Streams.{local_uni}
use Rattle.wt_turn.specs.declared.action.Action.{Action}
use Rattle.wt_turn.specs.declared.call.Call.{Call}
use Rattle.wt_turn.specs.declared.turn.Turn.{Turn}
use Rattle.wt_wire.specs.declared.side.Side.{Side}
use Rattle.wt_wire.specs.declared.side.Side.TheVariants.{Client, Server}
use Rattle.wt_turn.specs.declared.call.Call.TheVariants as calls

-- ---- what a moment sends

pub moment-bytes : (side : Side) (p : Pair) (h : History) (k : ℕ) → (local_uni side == k) ≡ false → bytes_on k (moment_actions side (p ∷ h)) ≡ []
moment-bytes side p h k n = by (is_open (p ∷ h))
  where
    new : List Action
    new = actions_for_all side (p ∷ h) (findings side h) (drop (length (findings side h)) (findings side (p ∷ h)))

    by : (b : Bool) → bytes_on k (if b then control_actions side (p ∷ h) ++ new else []) ≡ []
    by false = refl
    by true = front-bytes k (control_actions side (p ∷ h)) new (none-on k new (quiet-all k side (p ∷ h) (findings side h) (drop (length (findings side h)) (findings side (p ∷ h)))))
        ∙ none-on k (control_actions side (p ∷ h)) (none-control (sends k) side (p ∷ h) refl (λ q. n))

-- an answer's bytes are the call's own, and its moment's
pub next-bytes : (side : Side) (h : History) (turn : Turn) (k : ℕ) → bytes_on k (next side h turn).actions ≡ bytes_on k (own_answer side h turn).actions ++ bytes_on k (moment_actions side (with_pair h turn (own_answer side h turn)))
next-bytes side h turn k =
    let own : List Action = (own_answer side h turn).actions in let moment : List Action = moment_actions side (with_pair h turn (own_answer side h turn)) in
    bytes-join k [] (own ++ moment) ∙ bytes-append k own moment

-- on every other stream but the control stream
pub own-bytes : (side : Side) (h : History) (turn : Turn) (k : ℕ) → (k == local_uni side) ≡ false → bytes_on k (next side h turn).actions ≡ bytes_on k (own_answer side h turn).actions
own-bytes side h turn k n =
    next-bytes side h turn k ∙ ap (λ (xs : List ℕ). bytes_on k (own_answer side h turn).actions ++ xs) (moment-bytes side (record { turn = turn; answer = own_answer side h turn }) h k (swapped k (local_uni side) n))
    ∙ append-nil (bytes_on k (own_answer side h turn).actions)

-- ---- this end's control stream is never handed out, nor written by a call

pub not-peers : (side : Side) → is_peers side (local_uni side) ≡ true → ⊥
not-peers Client e = cc e
not-peers Server e = cc e

pub some-name : (h : History) (k : ℕ) → is_some (first_of (λ (p : Pair). opened_by k p.turn p.answer.reply) h) ≡ true → (name : Option ℕ) × (first_of (λ (p : Pair). opened_by k p.turn p.answer.reply) h ≡ Some name)
some-name h k e = by (first_of (λ (p : Pair). opened_by k p.turn p.answer.reply) h) refl e
  where
    by : (o : Option (Option ℕ)) → first_of (λ (p : Pair). opened_by k p.turn p.answer.reply) h ≡ o → is_some o ≡ true → (name : Option ℕ) × (first_of (λ (p : Pair). opened_by k p.turn p.answer.reply) h ≡ Some name)
    by None q r = absurd (cc r)
    by (Some n) q r = (n, q)

pub control-not-opened : (side : Side) (h : History) → IsHistory side h → is_some (first_of (λ (p : Pair). opened_by (local_uni side) p.turn p.answer.reply) h) ≡ true → ⊥
control-not-opened side h i e = let s = some-name h (local_uni side) e in let w = was-opened side h i (local_uni side) s.0 s.1 in clash (local_uni side == local_uni side) (eq-eqb (local_uni side) (local_uni side) refl) w.not_control

pub control-kept : (side : Side) (h : History) → IsHistory side h → is_handed_out h (local_uni side) ≡ false
control-kept side h i = by (is_handed_out h (local_uni side)) refl
  where
    never : HandedBy side h (local_uni side) → ⊥
    never (ByAccept s e) = not-peers side (admitted-peers side h s (local_uni side) e)
    never (ByOpening e) = control-not-opened side h i e

    by : (b : Bool) → is_handed_out h (local_uni side) ≡ b → b ≡ false
    by false q = refl
    by true q = absurd (never (handed-by side h i (local_uni side) q))

-- what is being opened was begun
pub begun-opening : (h : History) (k : ℕ) (name : Option ℕ) → being_opened h k ≡ Some name → first_of (λ (p : Pair). opened_by k p.turn p.answer.reply) h ≡ Some name
begun-opening h k name e = by (list_any (λ (p : Pair). opening_ends k p.turn p.answer.reply) h) e
  where
    by : (b : Bool) → (if b then None else first_of (λ (p : Pair). opened_by k p.turn p.answer.reply) h) ≡ Some name → first_of (λ (p : Pair). opened_by k p.turn p.answer.reply) h ≡ Some name
    by true q = absurd (cc q)
    by false q = q

-- the stream of a poll
pub polled-k : (side : Side) (h : History) → IsHistory side h → (c : Call) (k : ℕ) → PolledStream side h c → head_stream h c ≡ k → BegunFor side h k
polled-k Client h i (calls.Connect options lookup outcome) k q e = sym e
polled-k Client h i c k q e = absurd (cc q)
polled-k Server h i c k q e = by c q.0 e
  where
    of : unwrap_or (last_request h) 0 ≡ k → BegunFor Server h k
    of s = let r = q.1 in rw (sym s ∙ ap (λ (o : Option ℕ). unwrap_or o 0) r.1) r.2

    by : (d : Call) → is_response d ≡ true → head_stream h d ≡ k → BegunFor Server h k
    by (calls.Connect options lookup outcome) x s = absurd (cc x)
    by d x s = of s

-- it isn't the control stream
pub begun-not-control : (side : Side) (h : History) → IsHistory side h → BegunFor side h (local_uni side) → ⊥
begun-not-control Client h i e = absurd (omega (arith, e))
begun-not-control Server h i e = not-peers Server (given-peers Server h i (local_uni Server) e)

pub own-control : (side : Side) (h : History) (turn : Turn) → IsHistory side h → is_lawful side h turn ≡ true → bytes_on (local_uni side) (own_answer side h turn).actions ≡ []
own-control side h turn i l = by (sent-own side h (local_uni side) turn)
  where
    by : Sent side h (local_uni side) turn (own_answer side h turn) → bytes_on (local_uni side) (own_answer side h turn).actions ≡ []
    by (Quiet b n q) = b
    by (Given b n q) = b
    by (Wrote g b w) = absurd (clash (is_handed_out h (local_uni side)) g (control-kept side h i))
    by (Polled c p g s b n q) = absurd (begun-not-control side h i (polled-k side h i c (local_uni side) (polled-stream side h turn c i l p g) s))
    by (Opening name s o m b n r t) = absurd (control-not-opened side h i (ap is_some (begun-opening h (local_uni side) name o)))
