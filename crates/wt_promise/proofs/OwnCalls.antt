-- Why the own actions of each call send on a stream, or reset it.
use Rattle.std.specs.Prelude.{[], ◌++◌, ◌==◌, ◌||◌, ◌∷◌, ◌≡◌, Bool, List, None, Option, Some, false, if◌then◌else◌, is_some, not, true, ℕ}
use Rattle.std.specs.List.{list_any}
use Rattle.std.proofs.Common.{◌∙◌, ap, refl, subst, sym}
use Rattle.std.proofs.lemmas.Bool.{eq-eqb, eqb-true}
use Rattle.std.proofs.lemmas.List.Folds.{list_any-append}
use Rattle.wt_meaning.specs.Calls.{being_opened, is_living, stream_header}
use Rattle.wt_meaning.specs.Halves.{is_closed}
use Rattle.wt_meaning.specs.Handshakes.{head_left, send}
use Rattle.wt_meaning.specs.History.{History, events, is_handed_out, is_open, is_reset, is_reset_of}
use Rattle.wt_meaning.specs.Lawful.{is_lawful}
use Rattle.wt_meaning.specs.Meaning.{own_answer}
use Rattle.wt_meaning.specs.Moments.{findings}
use Rattle.wt_meaning.specs.Rows.{answer}
use Rattle.wt_meaning.specs.Sends.{action_if, session_finish, session_gone_actions}
use Rattle.wt_meaning.specs.Windows.{is_number, named}
use Rattle.wt_promise.proofs.Accepted.{or-first, or-last, or-left, or-right}
use Rattle.wt_promise.proofs.Actions.{none-if}
use Rattle.wt_promise.proofs.Behind.{Quiet, behind-append, behind-none, gone-quiet}
use Rattle.wt_promise.proofs.Flow.{clash}
use Rattle.wt_promise.proofs.OwnActs.{Ends, GoneBy, Held, Opens, OwnActs, Writes, asked-of, gone-sends-not, neither, on-stream, reset-new, reset-of-session, sends-no-reset, sends-other, shake-acts}
use Rattle.wt_promise.proofs.Shapes.{Alone, Ending, Finishing, Handshaking, Nothing, Nought, Polling, Resetting, Shape, Writing, shape}
use Rattle.wt_promise.specs.Promise.{IsHistory, acts_on, sends_on}
use Rattle.wt_turn.specs.Reports.{stop_of}
use Rattle.wt_turn.specs.declared.action.Action.{Action}
use Rattle.wt_turn.specs.declared.answer.Answer.{Answer}
use Rattle.wt_turn.specs.declared.call.Call.{Call}
use Rattle.wt_turn.specs.declared.turn.Turn.{Turn}
use Rattle.wt_wire.specs.declared.side.Side.{Side}
use Rattle.wt_turn.specs.declared.action.Action.TheVariants as actions
use Rattle.wt_turn.specs.declared.call.Call.TheVariants as calls
use Rattle.wt_turn.specs.declared.reply.Reply.TheVariants as replies
use Rattle.wt_turn.specs.declared.turn.Turn.TheVariants as turns

-- an ending of a session
ended-acts : (side : Side) (h : History) (k : ℕ) (name : Option ℕ) (s : ℕ) → named h name ≡ Some s → is_open h ≡ true → is_living side h s ≡ true
    → OwnActs side h k (turns.Call (calls.EndSession name)) (answer replies.Done (session_finish h s ++ session_gone_actions side h (findings side h) s))
ended-acts side h k name s m o l = record {
  sends = λ e. Ends (ap (is_living side h) (sym (finishes-this (or-first (list_any (sends_on k) finish) (list_any (sends_on k) gone) (sym (list_any-append (sends_on k) finish gone) ∙ e) (gone-sends-not side h (findings side h) s k)))) ∙ l);
  resets = λ e. GoneBy s (reset-of-session side h (findings side h) s k (of-gone e)) (ap (λ (b : Bool). is_number s (if b then named h name else None)) o ∙ ap (is_number s) m ∙ eq-eqb s s refl);
  once = λ e. reset-new side h (findings side h) s k (of-gone e);
  quiet = behind-append (is_reset_of k) (acts_on k) finish gone (behind-none (is_reset_of k) (acts_on k) finish no-reset) (gone-quiet side h (findings side h) s k) (λ e. absurd (clash (list_any (is_reset_of k) finish) e no-reset));
}
  where
    finish : List Action
    finish = session_finish h s

    gone : List Action
    gone = session_gone_actions side h (findings side h) s

    finishes-this : list_any (sends_on k) finish ≡ true → s ≡ k
    finishes-this e = of (s == k) refl (not (is_some (stop_of (events h) s))) e
      where
        of : (b : Bool) → (s == k) ≡ b → (c : Bool) → list_any (sends_on k) (action_if c (actions.Finish s)) ≡ true → s ≡ k
        of true q c x = eqb-true s k q
        of false q c x = absurd (clash (list_any (sends_on k) (action_if c (actions.Finish s))) x (none-if (sends_on k) c (actions.Finish s) q))

    no-reset : list_any (is_reset_of k) finish ≡ false
    no-reset = none-if (is_reset_of k) (not (is_some (stop_of (events h) s))) (actions.Finish s) refl

    of-gone : list_any (is_reset_of k) (finish ++ gone) ≡ true → list_any (is_reset_of k) gone ≡ true
    of-gone e = or-last (list_any (is_reset_of k) finish) (list_any (is_reset_of k) gone) (sym (list_any-append (is_reset_of k) finish gone) ∙ e) no-reset

-- a reset
reset-acts : (side : Side) (h : History) (k id code : ℕ) → is_handed_out h id ≡ true → is_reset h id ≡ false → OwnActs side h k (turns.Call (calls.ResetSend id code)) (answer replies.Done (action_if (is_open h) (actions.ResetOut id code)))
reset-acts side h k id code held n = record {
  sends = λ e. absurd (clash (list_any (sends_on k) (action_if (is_open h) (actions.ResetOut id code))) e (none-if (sends_on k) (is_open h) (actions.ResetOut id code) refl));
  resets = λ e. Held (ap (is_handed_out h) (sym (this e)) ∙ held);
  once = λ e. ap (is_reset h) (sym (this e)) ∙ n;
  quiet = alone (is_open h);
}
  where
    alone : (b : Bool) → Quiet k (action_if b (actions.ResetOut id code))
    alone true = (λ e. refl, tt)
    alone false = tt

    this : list_any (is_reset_of k) (action_if (is_open h) (actions.ResetOut id code)) ≡ true → id ≡ k
    this e = by (id == k) refl
      where
        by : (b : Bool) → (id == k) ≡ b → id ≡ k
        by true q = eqb-true id k q
        by false q = absurd (clash (list_any (is_reset_of k) (action_if (is_open h) (actions.ResetOut id code))) e (none-if (is_reset_of k) (is_open h) (actions.ResetOut id code) q))

-- ---- every call

acts-shape : (side : Side) (h : History) (k : ℕ) (call : Call) → IsHistory side h → is_lawful side h (turns.Call call) ≡ true → (a : Answer) → Shape side h call a → OwnActs side h k (turns.Call call) a
acts-shape side h k call i l a x = by a x
  where
    by : (b : Answer) → Shape side h call b → OwnActs side h k (turns.Call call) b
    by b (Nothing r n) = neither side h k (turns.Call call) r [] refl refl
    by b Nought = neither side h k (turns.Call call) (replies.Written 0) [] refl refl
    by b (Alone r t x n u m o) =
        neither side h k (turns.Call call) r (action_if t x) (none-if (sends_on k) t x (or-left (sends_on k x) (is_reset_of k x) (u k))) (none-if (is_reset_of k) t x (or-right (sends_on k x) (is_reset_of k x) (u k)))
    by b (Writing id bytes piece r g n e w s o) =
        on-stream side h k id (turns.Call call) r (send h id bytes) (sends-other h k id bytes) (sends-no-reset h k id bytes) (λ q. Writes (ap (is_handed_out h) (sym q) ∙ g) (ap (is_closed h) (sym q) ∙ n))
    by b (Polling id s name r c o m v j) =
        on-stream side h k id (turns.Call call) r (send h id (head_left h id (stream_header id s))) (sends-other h k id (head_left h id (stream_header id s))) (sends-no-reset h k id (head_left h id (stream_header id s)))
        (λ q. Opens name s (ap (being_opened h) (sym q) ∙ o) m v)
    by b (Finishing id c ha n) = on-stream side h k id (turns.Call call) replies.Pending (actions.Finish id ∷ []) (λ m. ap (λ (b : Bool). b || false) m) refl (λ e. Writes (ap (is_handed_out h) (sym e) ∙ ha) (ap (is_closed h) (sym e) ∙ n))
    by b (Resetting id code c g n) = subst (λ (d : Call). OwnActs side h k (turns.Call d) (answer replies.Done (action_if (is_open h) (actions.ResetOut id code)))) (sym c) (reset-acts side h k id code g n)
    by b (Ending s name c m o v) =
        subst (λ (d : Call). OwnActs side h k (turns.Call d) (answer replies.Done (session_finish h s ++ session_gone_actions side h (findings side h) s))) (sym c) (ended-acts side h k name s m o v)
    by b (Handshaking c p g e d y) = shake-acts side h k (turns.Call call) c p g (asked-of side h (turns.Call call) c i l p g) d y

-- every turn's own actions
pub own-acts : (side : Side) (h : History) (k : ℕ) (turn : Turn) → IsHistory side h → is_lawful side h turn ≡ true → OwnActs side h k turn (own_answer side h turn)
own-acts side h k (turns.Call call) i l = acts-shape side h k call i l (own_answer side h (turns.Call call)) (shape side h call).first
own-acts side h k turn i l = neither side h k turn replies.Done [] refl refl
