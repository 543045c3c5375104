use Rattle.std.proofs.Common.{subst}
use Rattle.std.specs.Prelude.{IfOk}
use Rattle.wt_pair.proofs.pair.take_call.Goals as goal
use Rattle.wt_pair.specs.Keeping.{Becomes}
use Rattle.wt_pair.specs.Pair.{happens}
use Rattle.wt_pair.specs.declared.event.PairEvent.TheVariants as pair_events
use Rattle.wt_turn.specs.declared.call.Call.{Call}

pub returns : goal.returns
returns c = λ side p k.
    subst (λ (x : Call). IfOk c.take_turn.result (λ answer. Becomes side p (happens c.args.facts.now (pair_events.Call side x) p) answer c.take_turn.new.here c.take_turn.new.there)) c.in_ok-copy.ensures (c.take_turn.ensures side p k)
