-- What the walks over a session's stream say.
use Rattle.std.specs.Prelude.{Bool, None, Option, Some, false, true, ℕ}
use Rattle.wt_proto.specs.SessionWalk.{session_at_end}
use Rattle.wt_proto.specs.declared.session_walk.Said.{Said}
use Rattle.wt_proto.specs.declared.session_walk.SessionWalk.{SessionWalk}
use Rattle.wt_proto.specs.SessionReader.{HeaderWalk, Waiting, Payload, Faulty}
use Rattle.wt_wire.specs.declared.error.ErrorCode.{ErrorCode}
use Rattle.wt_wire.specs.declared.side.StreamEnd.{StreamEnd}
use Rattle.wt_proto.specs.declared.session_walk.Said.TheVariants as said
use Rattle.wt_proto.specs.declared.session_walk.SessionWalk.TheVariants as walks
use Rattle.wt_wire.specs.declared.error.ErrorCode.TheVariants.{ClosedCriticalStream}
use Rattle.wt_wire.specs.declared.side.StreamEnd.TheVariants.{Fin, Reset, Running}

-- what frames said, as data
abbrev pub said_of : Said → HeaderWalk
said_of said.Waiting = Waiting
said_of (said.Payload size) = Payload size
said_of (said.Faulty code) = Faulty code

-- how long the payload is, where they said DATA
abbrev pub payload_in : HeaderWalk → Option ℕ
payload_in Waiting = None
payload_in (Payload size) = Some size
payload_in (Faulty code) = None

-- their fault
abbrev pub fault_in : HeaderWalk → Option ErrorCode
fault_in Waiting = None
fault_in (Payload size) = None
fault_in (Faulty code) = Some code

-- what the end makes of a session's stream that stands between two frames or inside one, and between two capsules or inside one
abbrev pub ended_between : StreamEnd → Bool → Bool → SessionWalk
ended_between Running frames capsules = walks.Running
ended_between Fin true capsules = session_at_end capsules
ended_between Fin false capsules = walks.Fault ClosedCriticalStream
ended_between (Reset code) frames capsules = walks.Fault ClosedCriticalStream
