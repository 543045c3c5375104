-- A driver at rest works the moment of an entry; so it follows the log with each piece, and answers all turns of the transport as it should.
use Rattle.std.proofs.Common.{◌≡◌, [], List}
use Rattle.wt_follows.proofs.Leaving.{whole-piece-follows}
use Rattle.wt_follows.proofs.MomentEnds.{moment-follows}
use Rattle.wt_follows.proofs.OwnStep.{head_actions}
use Rattle.wt_follows.proofs.OwnRests.{own-rests}
use Rattle.wt_follows.proofs.PutFollows.{Moment}
use Rattle.wt_follows.proofs.TurnAnswers.{answers-reached}
use Rattle.wt_follows.specs.Answering.{AnswersTransport}
use Rattle.wt_follows.proofs.TurnFollows.{Pieces}
use Rattle.wt_follows.specs.Pieces.{FindsNothing}
use Rattle.wt_sessions.specs.Driver.{transport_view}
use Rattle.wt_sessions.specs.DriverState.{state_of}
use Rattle.wt_sessions.specs.Step.{after_entry}
use Rattle.wt_turn.specs.Log.{Log}
use Rattle.wt_turn.specs.declared.action.Action.{Action}
use Rattle.wt_wire.specs.declared.side.Side.{Side}

-- nothing of this end's control stream is to go out
at-rest : (side : Side) (log : Log) → FindsNothing (transport_view side log) (state_of side log) (state_of side log).progress.settings → head_actions side log ≡ []
unfolding state_of
at-rest side log q = q.idle

pub entry-moment : (side : Side) → Moment side
entry-moment side log e d position uncollected fits is runs q amid unready =
    moment-follows side log e fits is runs d position uncollected amid
    (own-rests side log (at-rest side log q) e d (after_entry (transport_view side log) e (state_of side log)) position uncollected amid q.unstopped) unready

-- a driver that follows the log follows it with a whole piece
pub pieces-follow : (side : Side) (old : List Action) → Pieces side old
pieces-follow side old d log id piece c lawful = whole-piece-follows side (entry-moment side) old id d log c lawful piece

-- the answers to turns of the transport, from the start, are the ones that are due
pub transport_answers : (side : Side) → AnswersTransport side
transport_answers side all come = answers-reached side (pieces-follow side) all come
