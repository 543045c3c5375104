use Rattle.std.proofs.Common.{refl}
use Rattle.wt_core.proofs.Given.{closes}
use Rattle.wt_core.proofs.Stepping.{call-taken}
use Rattle.wt_core.proofs.machine.Core.endpoint.Goals as goal
use Rattle.wt_turn.specs.declared.call.Call.TheVariants as calls
use Rattle.wt_turn.specs.declared.reply.Reply.TheVariants as replies

pub returns-clause-answers : goal.returns-clause-answers
returns-clause-answers c = rw (← c.self.view_is) (
  refl,
  λ side log collected x may.
      call-taken side log collected _ x (calls.EndpointClose c.args.code c.args.reason.now) may refl replies.Done c.close.new.self _ _ (record { rows = λ s. refl; first = refl })
      (closes side log collected c.args.code c.args.reason.now c.in_ok-copy.field-0 _ c.close.new.self _ c.in_ok-copy.ensures c.in_ok-close.ensures.log c.rests.ensures x.driver x.reached x.streams may),
)
