use Rattle.std.proofs.Common.{Some, None}
use Rattle.std.proofs.lemmas.Str.Pattern.{split_parts}
use Rattle.wt_config.proofs.DigestReading.{one_piece, piece_front}
use Rattle.wt_config.proofs.digest.next_piece.Goals as goal

pub returns-in-Some : goal.returns-in-Some
returns-in-Some c =
    let parts = split_parts c.args.separator c.args.text.now (Some (c.in-Some.piece, c.in-Some.rest)) c.in-Some.ensures.cases c.requires in
    piece_front c.args.separator c.args.text.now _ _ parts.0 parts.1

pub returns-in-None : goal.returns-in-None
returns-in-None c =
    one_piece c.args.separator c.args.text.now (split_parts c.args.separator c.args.text.now None c.in-None.ensures.cases c.requires)
