use Rattle.std.proofs.Common.{is_some, length, sym, ap, ◌∙◌, arith}
use Rattle.wt_proto.specs.Steady.{size_of_step}
use Rattle.wt_seam.proofs.Taking.{byte-long, kept-goes, kept-stops}
use Rattle.wt_seam.proofs.item_reader.ItemReader.keep.Goals as goal

pub overflow_sub-self : goal.overflow_sub-self
overflow_sub-self g c =
    let long = byte-long g.G.Grammar.decides c.self.invariant.steady c.self.inside.state c.self.inside.kept.items c.args.byte c.self.invariant.proper.waits c.as_slice.result.now c.in-Ok-Goes.size
    (c.as_slice.ensures.value ∙ c.in_ok-push.ensures.items) (ap (λ d. size_of_step d) (sym c.in-Ok-Goes.ensures ∙ c.in-Ok-Goes.field-0-is)) in
    omega (arith, long, ap length c.as_slice.ensures.value, ap length c.as_slice-in-Ok-Goes.ensures.value)

pub overflow_sub-self-in-Ok-Stops : goal.overflow_sub-self-in-Ok-Stops
overflow_sub-self-in-Ok-Stops g c =
    let long = byte-long g.G.Grammar.decides c.self.invariant.steady c.self.inside.state c.self.inside.kept.items c.args.byte c.self.invariant.proper.waits c.as_slice.result.now c.in-Ok-Stops.size
    (c.as_slice.ensures.value ∙ c.in_ok-push.ensures.items) (ap (λ d. size_of_step d) (sym c.in-Ok-Stops.ensures ∙ c.in-Ok-Stops.field-0-is)) in
    omega (arith, long, ap length c.as_slice.ensures.value, ap length c.as_slice-in-Ok-Stops.ensures.value)

pub returns-in-Ok-Goes-clause-advances : goal.returns-in-Ok-Goes-clause-advances
returns-in-Ok-Goes-clause-advances g c = λ later. rw (← c.self.view_is)
    (kept-goes g.G.Grammar.decides c.self.invariant.steady c.self.inside.state c.in-Ok-Goes.moved c.self.inside.stop c.self.inside.skip c.self.inside.kept.items c.as_slice.result.now c.clear.new.self.items c.args.byte c.in-Ok-Goes.size (length c.as_slice-in-Ok-Goes.result.now)
    c.self.invariant.proper (ap (λ p. p.skip) c.self.view_is ∙ c.requires.bare) (ap (λ p. is_some p.stop) c.self.view_is ∙ c.requires.goes)
    (c.as_slice.ensures.value ∙ c.in_ok-push.ensures.items) (sym c.in-Ok-Goes.ensures ∙ c.in-Ok-Goes.field-0-is)
    (ap length (c.as_slice-in-Ok-Goes.ensures.value ∙ sym c.as_slice.ensures.value)) c.clear.ensures.items later)

pub returns-in-Ok-Stops-clause-advances : goal.returns-in-Ok-Stops-clause-advances
returns-in-Ok-Stops-clause-advances g c = λ later. rw (← c.self.view_is)
    (kept-stops g.G.Grammar.decides c.self.invariant.steady c.self.inside.state c.self.inside.stop c.self.inside.skip c.self.inside.kept.items c.as_slice.result.now c.clear-in-Ok-Stops.new.self.items c.args.byte c.in-Ok-Stops.outcome c.in-Ok-Stops.size (length c.as_slice-in-Ok-Stops.result.now)
    c.self.invariant.proper (ap (λ p. p.skip) c.self.view_is ∙ c.requires.bare) (ap (λ p. is_some p.stop) c.self.view_is ∙ c.requires.goes)
    (c.as_slice.ensures.value ∙ c.in_ok-push.ensures.items) (sym c.in-Ok-Stops.ensures ∙ c.in-Ok-Stops.field-0-is)
    (ap length (c.as_slice-in-Ok-Stops.ensures.value ∙ sym c.as_slice.ensures.value)) c.clear-in-Ok-Stops.ensures.items later)
