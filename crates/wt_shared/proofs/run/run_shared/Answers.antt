use Rattle.std.proofs.Common.{[], refl}
use Rattle.std.proofs.KnownBytes.{Appends-nil}
use Rattle.wt_shared.proofs.run.run_shared.Goals as goal

-- nothing was written
pub returns-in-Err-clause-part : goal.returns-in-Err-clause-part
returns-in-Err-clause-part g c = record { part = []; rest = _; whole = refl; appends = Appends-nil _ }
