use Rattle.std.proofs.Common.{◌∙◌, ap, refl, subst}
use Rattle.std.specs.Prelude.{[], IfOk}
use Rattle.wt_driver_laws.specs.Calling.{Did, Within}
use Rattle.wt_session.proofs.Acceptances.{if-ok}
use Rattle.wt_session.specs.Connects.{IsAsking, StillAsks}
use Rattle.wt_session.specs.Handshakes.{Asked}
use Rattle.wt_session.specs.Replies.{connecting_reply}
use Rattle.wt_sessions.specs.Effect.{head_left}
use Rattle.wt_sessions.specs.Handshake.{send_request}
use Rattle.wt_session.proofs.connecting.Connecting.ask.Goals as goal

pub returns-clause-does : goal.returns-clause-does
returns-clause-does c = subst (λ (v : Asked). IfOk c.poll-answer.result (λ a. Within c.args.d.now (λ side log collected. IsAsking v side log
    → Did side c.poll-answer.new.d collected (connecting_reply a) (send_request side log v.id [] (head_left log v.id v.head))))) c.new-asking.ensures c.poll-answer.ensures.does

pub returns-clause-goes_on : goal.returns-clause-goes_on
returns-clause-goes_on c = if-ok c.poll-answer.result (λ a h. λ side log collected f w x. record {
  later = c.poll-answer.new.self;
  is = refl;
  id = c.poll-answer.ensures.id ∙ ap (λ (v : Asked). v.id) c.new-asking.ensures;
  head = c.poll-answer.ensures.head ∙ ap (λ (v : Asked). v.head) c.new-asking.ensures;
  still = h side log collected f w x;
}) (subst (λ (v : Asked). IfOk c.poll-answer.result (λ a. Within c.args.d.now (λ side log collected. IsAsking v side log → StillAsks v c.poll-answer.new.self a side log))) c.new-asking.ensures c.poll-answer.ensures.goes_on)
