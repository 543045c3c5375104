use Rattle.std.proofs.Common.{refl, subst, sym}
use Rattle.std.proofs.lemmas.Bool.{true≢false}
use Rattle.std.specs.Prelude.{[]}
use Rattle.wt_driver_laws.specs.Driving.{AtStart}
use Rattle.wt_core.proofs.Histories.{keeps-nothing}
use Rattle.wt_core.specs.Shakes.{Shake, ShakeIs, first_shake}
use Rattle.wt_core.proofs.machine.Core.new.Goals as goal
use Rattle.wt_wire.specs.declared.side.Side.{Side}
use Rattle.wt_wire.specs.declared.side.Side.TheVariants.{Client, Server}

at-first : (side : Side) → ShakeIs side [] (first_shake side)
at-first Client = record { unasked = refl; ended = refl; over = λ f. absurd (true≢false f) }
at-first Server = (refl, refl)

pub returns : goal.returns
returns c = keeps-nothing c.args.side _ (record {
  works = refl;
  first = refl;
  kept = record {
    driver = c.init.ensures.log;
    shake = subst (λ (s : Shake). ShakeIs c.args.side [] s) (sym c.new.ensures) (at-first c.args.side);
    sessions = c.new-2.ensures c.args.side;
    streams = c.new-3.ensures c.args.side;
    reached = AtStart;
  };
})
