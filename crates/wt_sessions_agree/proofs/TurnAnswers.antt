-- A turn of the transport that brings one byte at most agrees, where its moment sends, finds and ends alike.
use Rattle.std.specs.Prelude.{[], ◌≡◌, List, true, ℕ}
use Rattle.std.proofs.Common.{◌∙◌, ap, refl, subst, sym}
use Rattle.wt_meaning.specs.History.{History, is_open}
use Rattle.wt_meaning.specs.Lawful.{is_lawful}
use Rattle.wt_meaning.specs.Meaning.{next, step, with_pair}
use Rattle.wt_meaning.specs.Moments.{findings}
use Rattle.wt_meaning.specs.Rows.{answer}
use Rattle.wt_meaning.specs.Sends.{moment_actions}
use Rattle.wt_promise.specs.Promise.{IsHistory}
use Rattle.wt_turn.specs.Joined.{join_all, newest_first}
use Rattle.wt_sessions.specs.Answers.{log_after}
use Rattle.wt_sessions.specs.Answers as answers
use Rattle.wt_sessions.specs.Driver.{call_view, stream_table}
use Rattle.wt_sessions_agree.proofs.CameAgrees.{is_single}
use Rattle.wt_sessions_agree.proofs.OutLaws.{since-is}
use Rattle.wt_sessions_agree.proofs.TurnKeeps.{turn-keeps}
use Rattle.wt_sessions_agree.specs.Agreement.{TurnAgrees}
use Rattle.wt_sessions_agree.specs.Agrees.{IsTable}
use Rattle.wt_sessions_agree.specs.Members.{MembersIn}
use Rattle.wt_sessions_agree.specs.Orderly.{Orderly}
use Rattle.wt_sessions_agree.specs.Stands.{Stands}
use Rattle.wt_turn.specs.Log.{Log, actions_of}
use Rattle.wt_turn.specs.Log as logs
use Rattle.wt_turn.specs.declared.action.Action.{Action}
use Rattle.wt_turn.specs.declared.turn.Turn.{Turn}
use Rattle.wt_wire.specs.declared.side.Side.{Side}
use Rattle.wt_turn.specs.declared.reply.Reply.TheVariants as replies
use Rattle.wt_turn.specs.declared.turn.Turn.TheVariants as turns

-- what goes out at the turn's moment, as the history has it
abbrev pub sends-now : Side → History → Turn → List Action
sends-now side h turn = moment_actions side (with_pair h turn (answer replies.Done []))

-- the turn's answer is Done, with what its moment sends
pub done-next : (side : Side) (h : History) (turn : Turn) → is_single turn ≡ true → next side h turn ≡ answer replies.Done (join_all [] (sends-now side h turn))
done-next side h (turns.Call c) s = absurd (cc s)
done-next side h turn s = refl

done-log : (side : Side) (log : Log) (turn : Turn) → is_single turn ≡ true → answers.answer_to side log turn ≡ answer replies.Done (answers.actions_since log (log_after side log turn))
done-log side log (turns.Call c) s = absurd (cc s)
done-log side log turn s = refl

turn-same : (side : Side) (h : History) (log : Log) (turn : Turn) → is_single turn ≡ true → actions_of (log_after side log turn) ≡ newest_first (sends-now side h turn) (actions_of log)
    → answers.answer_to side log turn ≡ next side h turn
turn-same side h log turn s e = done-log side log turn s ∙ ap (answer replies.Done) (since-is log (log_after side log turn) (sends-now side h turn) e) ∙ sym (done-next side h turn s)

-- so it agrees
pub turn-agrees-by : (side : Side) (offset : ℕ → ℕ) (h : History) (log : Log) → Stands side offset h log → IsHistory side h → (turn : Turn) → is_single turn ≡ true → is_lawful side h turn ≡ true
    → actions_of (log_after side log turn) ≡ newest_first (sends-now side h turn) (actions_of log)
    → is_open (step side h turn) ≡ logs.is_open (log_after side log turn)
    → IsTable (findings side (step side h turn)) (stream_table side (log_after side log turn))
    → Orderly side (step side h turn) (call_view (log_after side log turn)) offset (findings side (step side h turn))
    → MembersIn side (step side h turn) (call_view (log_after side log turn)) (findings side (step side h turn))
    → TurnAgrees side h log turn
turn-agrees-by side offset h log x hist turn s l sent o table orderly members =
    let e : step side h turn ≡ with_pair h turn (answer replies.Done (join_all [] (sends-now side h turn))) = ap (with_pair h turn) (done-next side h turn s) in
    record {
      same = turn-same side h log turn s sent;
      after = (
        offset,
        (l, refl, hist),
        members,
        subst (λ (g : History). Stands side offset g (log_after side log turn)) (sym e)
            (turn-keeps side offset h log x turn s (sends-now side h turn) sent
            (subst (λ (g : History). is_open g ≡ logs.is_open (log_after side log turn)) e o)
            (subst (λ (g : History). IsTable (findings side g) (stream_table side (log_after side log turn))) e table)
            (subst (λ (g : History). Orderly side g (call_view (log_after side log turn)) offset (findings side g)) e orderly)),
      );
    }
