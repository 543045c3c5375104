use Rattle.std.proofs.Common.{sym, subst, ap, ◌∙◌}
use Rattle.std.proofs.lemmas.Result.{on_ok_weaker}
use Rattle.wt_proto.specs.StreamHeader.{header_bytes}
use Rattle.wt_transport.specs.Rules.{sending_half_now}
use Rattle.wt_seam.specs.Writing.{Pending, WritesPrefix, after_pending}
use Rattle.wt_seam.proofs.WriteLaws.{header_some, either_continues, writes_prefix}
use Rattle.wt_seam.proofs.outgoing.Outgoing.poll_header.Goals as goal

pub returns-clause-prefix : goal.returns-clause-prefix
returns-clause-prefix c =
    let half = sending_half_now c.args.t.now c.args.id in
    on_ok_weaker c.poll.result
    (λ e. subst (λ (p : Pending). WritesPrefix c.args.t.now.is_open half c.args.self.now p (header_bytes c.args.header)) (sym (e ∙ ap (λ p. after_pending c.args.t.now.is_open half p) c.in_ok-begin_header.ensures.write))
    (writes_prefix c.args.t.now.is_open half c.args.self.now (header_bytes c.args.header) (header_some c.args.header)))
    c.poll.ensures.write

pub returns-clause-still_going : goal.returns-clause-still_going
returns-clause-still_going c =
    either_continues c.poll.result c.args.t.now.is_open (sending_half_now c.args.t.now c.args.id) c.args.self.now c.begin_header.new.self c.poll.new.self (header_bytes c.args.header)
    c.in_ok-begin_header.ensures.write c.poll.ensures.write c.poll.ensures.kept
