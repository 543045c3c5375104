use Rattle.wt_promise.proofs.Came.{payloads_came}
use Rattle.wt_promise.proofs.sides.payloads_came_in_order.Goals as goal

pub returns : goal.returns
returns c = record { came = payloads_came }
