use Rattle.std.proofs.Common.{arith, ◌≡◌, ◌∙◌, length}
use Rattle.std.proofs.lemmas.Grind.{common_steps}
use Rattle.wt_transport.specs.Step.{covered_now}
use Rattle.wt_transport.proofs.Results.{moved}
use Rattle.wt_transport.proofs.Refining.{refined_sent, send_refines}
use Rattle.wt_transport.proofs.transport.Transport.send.Goals as goal

pub returns-clause-log_count : goal.returns-clause-log_count
returns-clause-log_count c = λ side log position uncollected r.
    let e : c.covered-count.result ≡ length (covered_now c.args.self.now c.args.id c.args.bytes.now) = grind (arith, common_steps) in
    e ∙ refined_sent side c.args.self.now log position uncollected r c.args.id c.args.bytes.now c.requires

pub returns-clause-log : goal.returns-clause-log
returns-clause-log c = λ side log position uncollected r. moved _ (grind (arith, common_steps)) (send_refines side c.args.self.now log position uncollected r c.args.id c.args.bytes.now c.requires)
