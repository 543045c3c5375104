use Rattle.std.proofs.Common.{is_some, refl}
use Rattle.wt_proto.proofs.ControlReading.{control_lawful}
use Rattle.wt_proto.specs.ControlWalk.{control_decides, control_unfinished}
use Rattle.wt_wire.specs.declared.side.StreamEnd.TheVariants.{Running}
use Rattle.wt_seam.proofs.ReadOn.{reading-stays}
use Rattle.wt_seam.proofs.settings.read_control.Goals as goal

pub read_all-requires : goal.read_all-requires
read_all-requires c = reading-stays control_decides control_lawful.steady (λ w. is_some w.fault) control_unfinished (λ s b. refl) (record c.args.reader.now { end = Running }) refl
