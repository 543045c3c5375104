-- What answers come to, and the line that says it (this repository's own).
use Rattle.std.specs.Prelude.{ℕ, ◌++◌, Bool, true, false, List, length, codes, count_by, sum_by, Some}
use Rattle.std.specs.Fmt.{decimal}
use Rattle.wt_turn.specs.declared.answer.Answer.{Answer}
use Rattle.wt_turn.specs.declared.reply.Reply.{Reply}
use Rattle.wt_turn.specs.declared.reply.Reply.TheVariants as replies
use Rattle.wt_trace.specs.declared.summary.Summary.{Summary}

-- the reply gives a unidirectional stream
abbrev pub gives_uni : Reply → Bool
gives_uni (replies.Uni id) = true
gives_uni _ = false

-- how many bytes the reply gives
abbrev pub bytes_given : Reply → ℕ
bytes_given (replies.Read (Some piece)) = length piece
bytes_given _ = 0

-- what answers come to: how many streams were accepted, how many bytes were read, and how many turns were answered
abbrev pub summary_of : List Answer → Summary
summary_of answers = record {
  streams = count_by (λ answer. gives_uni answer.reply) answers;
  bytes = sum_by (λ answer. bytes_given answer.reply) answers;
  turns = length answers;
}

-- the line of a summary
abbrev pub summary_line : Summary → List ℕ
summary_line s = codes "streams " ++ decimal s.streams ++ codes " bytes " ++ decimal s.bytes ++ codes " turns " ++ decimal s.turns ++ codes "\n"
