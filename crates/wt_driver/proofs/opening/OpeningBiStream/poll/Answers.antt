use Rattle.std.proofs.Common.{true, ◌∙◌, ◌≡◌, ap}
use Rattle.wt_driver_laws.proofs.OpenPollLaws.{polled_halves_law, poll_bi_law, polls_still_law}
use Rattle.wt_driver_laws.proofs.PieceCalls.{polled_pieces}
use Rattle.wt_driver_laws.specs.Having.{OpeningStream}
use Rattle.wt_driver.proofs.Openings.{gave-none, gave-out, gave-up, if-ok-is}
use Rattle.wt_driver.proofs.Steps.{if-ok-then, ok-then-if}
use Rattle.wt_driver.proofs.opening.OpeningBiStream.poll.Goals as goal
use Rattle.wt_driver.proofs.opening.OpeningBiStream.poll.Goals.{in-Pending, in-Ready-Err, in-Ready-Ok}

pub returns-clause-polled : goal.returns-clause-polled
returns-clause-polled c =
    let stream : c.send.new.self.id ≡ c.args.self.now.id = ap (λ (o : OpeningStream). o.id) (c.in_ok-send.ensures.same ∙ c.self.view_is) in
    elim c.match-branch-2.branch [
      | in-Ready-Ok w ↦
          if-ok-is _ c.match-branch-2.result _ w.result-is
          (gave-out (w.sending.result, w.receiving.result) (c.args.self.now.id, c.args.self.now.id) c.self.view_is c.args.d.now c.send.new.d c.in_ok-send.field-0 c.send.new.self.left w.in-Ready-Ok.field-0 w.in-Ready-Ok.field-0-0 c.in_ok-send.ensures.polled w.in-Ready-Ok.is w.in-Ready-Ok.field-0-is ((λ i. ((w.sending.ensures ∙ stream) i, (w.receiving.ensures ∙ stream) i))))
      | in-Ready-Err w ↦
          if-ok-is _ c.match-branch-2.result _ w.result-is
          (gave-up (c.args.self.now.id, c.args.self.now.id) c.self.view_is c.args.d.now c.send.new.d c.in_ok-send.field-0 c.send.new.self.left w.in-Ready-Err.field-0 w.in-Ready-Err.error c.in_ok-send.ensures.polled w.in-Ready-Err.is w.in-Ready-Err.field-0-is)
      | in-Pending w ↦ if-ok-is _ c.match-branch-2.result _ w.result-is (gave-none (c.args.self.now.id, c.args.self.now.id) c.self.view_is c.args.d.now c.send.new.d c.in_ok-send.field-0 c.send.new.self.left c.in_ok-send.ensures.polled w.in-Pending.is)
    ]

pub returns-clause-does : goal.returns-clause-does
returns-clause-does c = if-ok-then c.match-branch-2.result (λ a e. poll_bi_law c.args.self.now a _ c.args.d.now _ e) (returns-clause-polled c)

pub returns-clause-goes_on : goal.returns-clause-goes_on
returns-clause-goes_on c = if-ok-then c.match-branch-2.result (λ a e. polls_still_law true (c.args.self.now.id, c.args.self.now.id) c.args.self.now c.send.new.self a c.args.d.now _ e) (returns-clause-polled c)

pub returns-clause-pieces : goal.returns-clause-pieces
returns-clause-pieces c = ok-then-if c.match-branch-2.result (λ a e. polled_pieces (c.args.self.now.id, c.args.self.now.id) c.args.self.now a _ c.args.d.now _ e) (returns-clause-polled c)

pub returns-clause-halves : goal.returns-clause-halves
returns-clause-halves c = if-ok-then c.match-branch-2.result (λ a e. polled_halves_law c.args.self.now a _ c.args.d.now _ e) (returns-clause-polled c)
