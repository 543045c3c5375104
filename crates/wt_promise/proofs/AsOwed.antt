-- What is proved of the answer that the rows give, said of what a call owes.
use Rattle.wt_promise.proofs.Statements.{OpenExactly, ResultStays, SettingsGoOut}
use Rattle.std.specs.Prelude.{◌&&◌, ◌||◌, ◌≡◌, Bool, List, is_none, not, true, ◌++◌, ◌==◌, ◌≤◌, None, Option, Some, if◌then◌else◌, length, take, ℕ, [], ◌∷◌, Contains, false, suc}
use Rattle.std.specs.List.{list_any}
use Rattle.std.proofs.Common.{◌∙◌, ap, subst, sym, refl, arith}
use Rattle.wt_meaning.specs.Findings.{fault_of, first_of}
use Rattle.wt_meaning.specs.History.{History, is_open, loses, Pair, events, out, is_reset_of}
use Rattle.wt_meaning.specs.Lawful.{is_lawful}
use Rattle.wt_meaning.specs.Meaning.{next, own_answer, with_pair}
use Rattle.wt_meaning.specs.Moments.{findings}
use Rattle.wt_meaning.specs.Windows.{gone_in, is_established, is_gone, is_number}
use Rattle.wt_meaning.specs.Calls.{opened_by}
use Rattle.wt_meaning.specs.Handshakes.{last_begun}
use Rattle.wt_turn.specs.Reports.{credit}
use Rattle.wt_turn.specs.Streams.{local_uni}
use Rattle.wt_turn.specs.declared.call.Call.{Call}
use Rattle.std.proofs.lemmas.Bool.{eqb-true}
use Rattle.wt_turn.specs.Sent.{finishes}
use Rattle.wt_promise.proofs.Accepted.{and-left, and-right, or-first}
use Rattle.wt_promise.specs.Owed.{control_bytes, handshake_stream, header_on}
use Rattle.wt_promise.proofs.HeaderOut.{header-goes-out}
use Rattle.wt_promise.proofs.HeadOut.{head-goes-out}
use Rattle.wt_promise.proofs.InOrder.{sends-in-order}
use Rattle.wt_promise.proofs.OwnForms.{frame_or, head_on, ends_sending, resets_with, stops_with}
use Rattle.wt_promise.proofs.Aims.{same-head}
use Rattle.wt_promise.proofs.CauseLaws.{same-session}
use Rattle.wt_promise.proofs.GoneTold.{gone-told}
use Rattle.wt_promise.proofs.OpenStays.{open-exactly}
use Rattle.wt_promise.proofs.OwedAll.{met}
use Rattle.wt_promise.proofs.OwedCalls.{turn-owed}
use Rattle.wt_promise.proofs.ResultKept.{result-stays}
use Rattle.wt_promise.proofs.SettingsOut.{settings-go-out}
use Rattle.wt_promise.specs.Promise.{GoneIsTold, IsHistory, HeadGoesOut, HeaderGoesOut, SendsInOrder, accepted, begun_on}
use Rattle.wt_turn.specs.Log.{closes}
use Rattle.wt_turn.specs.declared.action.Action.{Action}
use Rattle.wt_turn.specs.declared.turn.Turn.{Turn}
use Rattle.wt_wire.specs.declared.side.Side.{Side}
use Rattle.wt_promise.specs.Promise as promise
use Rattle.wt_turn.specs.declared.action.Action.TheVariants as actions
use Rattle.wt_turn.specs.declared.call.Call.TheVariants as calls
use Rattle.wt_turn.specs.declared.turn.Turn.TheVariants as turns

pub open-as-owed : (side : Side) (h : History) (turn : Turn) → IsHistory side h → OpenExactly side h turn (next side h turn)
open-as-owed side h turn i =
    open-exactly side h turn i
    ∙ ap (λ (xs : List Action). is_open h && not (loses turn) && not (list_any closes xs) && is_none (fault_of (findings side (with_pair h turn (next side h turn))))) (turn-owed side h turn)

pub result-as-owed : (side : Side) (h : History) (turn : Turn) → IsHistory side h → is_lawful side h turn ≡ true → ResultStays side h turn (next side h turn)
result-as-owed side h turn i l s e o =
    sym (same-session side (with_pair h turn (next side h turn)) s) ∙ result-stays side h turn i l s e (by (is_open h) (is_established h s) (is_gone h (findings side h) s) o) ∙ same-session side h s
  where
    by : (x y g : Bool) → (g || not x) ≡ true → (x && (y && not g)) ≡ false
    by false y g q = refl
    by true false g q = refl
    by true true true q = refl
    by true true false q = absurd (cc q)

pub settings-as-owed : (side : Side) (h : History) (turn : Turn) → IsHistory side h → is_lawful side h turn ≡ true → SettingsGoOut side h turn (next side h turn)
settings-as-owed side h turn i l o = settings-go-out side h turn i l (ap is_open (met side h turn) ∙ o)

-- an action that only one test tells is there
there : (test : Action → Bool) (y : Action) → ((x : Action) → test x ≡ true → x ≡ y) → (xs : List Action) → list_any test xs ≡ true → Contains xs y
there test y e [] q = absurd (cc q)
there test y e (x ∷ xs) q = by (test x) refl q (there test y e xs)
  where
    by : (b : Bool) → test x ≡ b → (b || list_any test xs) ≡ true → (list_any test xs ≡ true → Contains xs y) → Contains (x ∷ xs) y
    by true t r later = (0, omega arith, e x t)
    by false t r later = let c = later r in let n = c.1 in (suc c.0, omega (arith, n), c.2)

stop-is : (k code : ℕ) (x : Action) → stops_with k code x ≡ true → x ≡ actions.StopOut k code
stop-is k code (actions.StopOut id c) e = rw (eqb-true id k (and-left (id == k) (c == code) e), eqb-true c code (and-right (id == k) (c == code) e)) refl
stop-is k code x e = absurd (cc e)

reset-is : (k code : ℕ) (x : Action) → resets_with k code x ≡ true → x ≡ actions.ResetOut k code
reset-is k code (actions.ResetOut id c) e = rw (eqb-true id k (and-left (id == k) (c == code) e), eqb-true c code (and-right (id == k) (c == code) e)) refl
reset-is k code x e = absurd (cc e)

ends-same : (k : ℕ) (xs : List Action) → list_any (ends_sending k) xs ≡ list_any (λ (x : Action). finishes k x || is_reset_of k x) xs
ends-same k [] = refl
ends-same k (x ∷ xs) = rw (one x) (ap (λ (b : Bool). (finishes k x || is_reset_of k x) || b) (ends-same k xs))
  where
    either : (b : Bool) → b ≡ (b || false)
    either true = refl
    either false = refl

    one : (y : Action) → ends_sending k y ≡ (finishes k y || is_reset_of k y)
    one (actions.Finish id) = either (id == k)
    one (actions.ResetOut id code) = refl
    one y = refl

pub gone-as-owed : (side : Side) (h : History) (turn : Turn) → GoneIsTold side h turn (next side h turn)
gone-as-owed side h turn s k o way g n m =
    let t = gone-told side h turn s k o (ap (λ (b : Bool). b || is_number s (gone_in h turn (next side h turn).reply)) (ap is_open (met side h turn)) ∙ way) g n m in record {
      receiving = λ e. there (stops_with k 0x170d7b68) (actions.StopOut k 0x170d7b68) (stop-is k 0x170d7b68) (next side h turn).actions (t.receiving e);
      sending = λ e q. there (resets_with k 0x170d7b68) (actions.ResetOut k 0x170d7b68) (reset-is k 0x170d7b68) (next side h turn).actions
          (or-first (list_any (resets_with k 0x170d7b68) (next side h turn).actions) (list_any (ends_sending k) (own_answer side h turn).actions) (t.sending e)
          (ends-same k (own_answer side h turn).actions ∙ ap (list_any (λ (x : Action). finishes k x || is_reset_of k x)) (turn-owed side h turn) ∙ q));
    }

-- ---- heads

same-frame : (o : Option Call) (header : List ℕ) → frame_or o header ≡ promise.frame_or o header
same-frame None header = refl
same-frame (Some c) header = same-head (Some c)

same-head-on : (side : Side) (h : History) (k : ℕ) → head_on side h k ≡ promise.head_on side h k
same-head-on side h k =
    ap (λ (xs : List ℕ). if k == local_uni side then control_bytes else xs) (same-frame (begun_on h k) (header_on h k (first_of (λ (p : Pair). opened_by k p.turn p.answer.reply) h)))

pub sends-as-owed : (side : Side) (h : History) → IsHistory side h → (k : ℕ) → SendsInOrder side h k
sends-as-owed side h i k =
    let e = same-head-on side h k in let s = sends-in-order side h i k in record {
      front = ap (λ (xs : List ℕ). take (length (out h k)) (xs ++ accepted h k)) (sym e) ∙ s.front;
      all = λ l. s.all (subst (λ (xs : List ℕ). length xs ≤ length (out h k)) (sym e) l) ∙ ap (λ (xs : List ℕ). xs ++ accepted h k) e;
    }

pub heads-as-owed : (side : Side) (h : History) (turn : Turn) → IsHistory side h → is_lawful side h turn ≡ true → HeadGoesOut side h turn (next side h turn)
heads-as-owed side h turn i l e =
    head-goes-out side h turn i l e ∙ ap (take (credit (events (with_pair h turn (next side h turn))) (handshake_stream h))) (same-head (last_begun (with_pair h turn (next side h turn))))

pub headers-as-owed : (side : Side) (h : History) (k : ℕ) → IsHistory side h → is_lawful side h (turns.Call (calls.PollOpening k)) ≡ true → HeaderGoesOut side h k (next side h (turns.Call (calls.PollOpening k)))
headers-as-owed side h k i l e =
    let later : History = with_pair h (turns.Call (calls.PollOpening k)) (next side h (turns.Call (calls.PollOpening k))) in
    header-goes-out side h k i l e ∙ ap (take (credit (events later) k)) (same-head-on side later k)
