use Rattle.std.proofs.Common.{refl}
use Rattle.wt_relay.proofs.CopyLaws.{across_set}
use Rattle.wt_relay.proofs.source.Source.set.Goals as goal

pub invariant_of-self : goal.invariant_of-self
invariant_of-self c = record {
  across = across_set c.args.self.now.member c.args.self.now.copies.items c.args.copy _ c.index_mut.result.now c.args.self.now.across c.index_mut.ensures.value refl;
  little = c.args.self.now.little;
}
