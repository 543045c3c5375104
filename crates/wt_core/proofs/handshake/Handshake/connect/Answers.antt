use Rattle.std.proofs.Common.{◌∙◌, ◌≡◌, subst, sym, true}
use Rattle.wt_core.proofs.Shaking.{connect-answers}
use Rattle.wt_core.specs.Answering.{Shaken}
use Rattle.wt_core.proofs.handshake.Handshake.connect.Goals as goal
use Rattle.wt_sessions.specs.Answers.{may_call}
use Rattle.wt_turn.specs.declared.call.Call.{Call}
use Rattle.wt_turn.specs.declared.call.Call.TheVariants as calls

pub returns-clause-answers : goal.returns-clause-answers
returns-clause-answers c = λ side log collected f r is may.
    let o = c.from_parts-options.result in
    let same : (o.url, o.headers) ≡ c.in-Connect.options = λ i. ((c.from_parts-options.ensures.url ∙ c.in_ok-copy.ensures) i, (c.from_parts-options.ensures.headers ∙ c.in_ok-copy-2.ensures) i) in
    let call : calls.Connect (o.url, o.headers) c.in_ok-copy-3.field-0 c.in_ok-copy-4.field-0 ≡ c.args.call.now = (λ i. calls.Connect (same i) (c.in_ok-copy-3.ensures i) (c.in_ok-copy-4.ensures i)) ∙ sym c.in-Connect.is in
    subst (λ (x : Call). Shaken side log collected x c.begun.result c.begin.new.d c.begun.new.self) call
    (connect-answers (o.url, o.headers) c.in_ok-copy-3.field-0 c.in_ok-copy-4.field-0 c.in_ok-begun.begun c.args.d.now c.begin.new.d c.args.self.now c.begun.new.self c.begun.result c.begun.ensures.outcome c.begun.ensures.shake
    c.in_ok-begun.ensures.does c.in_ok-begun.ensures.goes_on side log collected f r is (subst (λ (x : Call). may_call side log x ≡ true) (sym call) may))
