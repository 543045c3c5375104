-- A handle may cross threads, as the box that it stands for may.
use mir.Raw.{raw}
use denote.Memory.{lone}
use denote.Builtin.{RawPtr}
use denote.Struct.Struct.{exits_of}
use denote.Struct.Owning.{shape, fields, to}
use denote.Param.Send.{IsSend, owning_send, struct_send, sendable}
use Rattle.std_alloc.proofs.SendSync.{quiet, lies}
use Rattle.std.proofs.Crossing.{frees}
use Rattle.wt_handle.specs.contracts.Handle.{the_row, the_type}
use Rattle.wt_handle.specs.contracts.State.{the_row as R}
use Rattle.wt_handle.proofs.State.TheSendSync.{the_send}

ps : IsSend RawPtr
ps = search sendable

pub send : IsSend the_row
send = let O = the_type in owning_send O (ps, tt) (λ d. (lies R the_send d.at d.value, frees.frees (record { memory = record { seal = tt } }) (raw (lone R.mir)) d.at))
    (λ k. quiet (to O) (exits_of k (fields O)) ((struct_send (shape O) (ps, tt)).leaving k))
