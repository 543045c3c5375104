use Rattle.std.proofs.Common.{arith, ap}
use Rattle.wt_proto.proofs.AdvanceLaws.{advance-skipping}
use Rattle.wt_seam.proofs.item_reader.ItemReader.skip_some.Goals as goal

pub returns : goal.returns
returns g c = record {
  advances = λ piece le. rw (← c.self.view_is) (advance-skipping g.G.Grammar.decides c.self.invariant.steady _ _ _ _ piece c.args.count c.self.invariant.proper (omega (arith, c.requires.some, c.requires.within, ap (λ p. p.skip) c.self.view_is)) (omega (arith, c.requires.within, ap (λ p. p.skip) c.self.view_is)) le);
}
