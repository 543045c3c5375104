use Rattle.std.proofs.Common.{◌∙◌, ap, subst}
use Rattle.wt_proto.specs.SessionReader.{SessionAdvances, SessionReader, session_said}
use Rattle.wt_proto.proofs.SessionFeedLaws.{taken-says}
use Rattle.wt_proto.proofs.session_walk.session_walk.Goals as goal

pub returns : goal.returns
returns c =
    c.into_outcome.ensures.value
    ∙ (ap session_said c.end.ensures.value
    ∙ taken-says c.take_piece.new.self c.args.bytes.now c.args.end c.in_ok-take_piece.field-0
    (subst (λ (r : SessionReader). SessionAdvances r c.take_piece.new.self c.args.bytes.now c.in_ok-take_piece.field-0) c.for_session-reader.ensures.value c.in_ok-take_piece.ensures.advances)
    c.in_ok-take_piece.ensures.all)
