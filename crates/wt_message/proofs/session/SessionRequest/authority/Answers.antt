use Rattle.wt_message.proofs.OptionLaws.{some_from_copied}
use Rattle.wt_message.proofs.RequestLaws.{has_authority}
use Rattle.wt_message.proofs.session.SessionRequest.authority.Goals as goal

pub unwrap-requires : goal.unwrap-requires
unwrap-requires c = some_from_copied c.get.result _ c.get.ensures (has_authority _ c.self.invariant)
