-- What a driver answers to turns of the transport, and what is said of it.
use Rattle.std.specs.Prelude.{[], ◌∷◌, ◌≡◌, List, true}
use Rattle.wt_kept.specs.Calling.{driver_at_first, turn_now}
use Rattle.wt_kept.specs.Kept.{DriverNow}
use Rattle.wt_kept.specs.Moment.{with_work}
use Rattle.wt_turn.specs.Arrivals.{fits}
use Rattle.wt_sessions.specs.Answers.{answers_to, log_after}
use Rattle.wt_turn.specs.Log.{Log}
use Rattle.wt_turn.specs.declared.answer.Answer.{Answer}
use Rattle.wt_turn.specs.declared.reply.Reply.TheVariants as replies
use Rattle.wt_turn.specs.declared.turn.Turn.{Turn}
use Rattle.wt_wire.specs.declared.side.Side.{Side}

-- each of these turns of the transport may come after those before it
abbrev pub AllCome : Side → Log → List Turn → Type 0
AllCome side log [] = Unit {0}
AllCome side log (turn ∷ later) = (fits side log turn ≡ true) × AllCome side (log_after side log turn) later

-- the driver once its actions were collected
abbrev pub collected_now : DriverNow → DriverNow
collected_now d = with_work (λ w. record w { transport = record w.transport { actions = [] } }) d

-- what a driver answers to a turn of the transport: it is done, and these actions are collected
abbrev pub answer_now : Turn → DriverNow → Answer
answer_now turn d = record { reply = replies.Done; actions = (turn_now turn d).work.transport.actions }

-- what it answers to these turns
abbrev pub answers_now : List Turn → DriverNow → List Answer
answers_now [] d = []
answers_now (turn ∷ later) d = answer_now turn d ∷ answers_now later (collected_now (turn_now turn d))

-- a driver that begins answers every list of turns of the transport that may come as is due
abbrev pub AnswersTransport : Side → Type 0
AnswersTransport side = (all : List Turn) → AllCome side [] all → answers_now all (driver_at_first side) ≡ answers_to side all
