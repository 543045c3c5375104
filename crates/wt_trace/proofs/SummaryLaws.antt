-- What answers come to adds up.
use Rattle.std.proofs.Common.{◌≡◌, ◌+◌, List, ◌++◌, arith, length-append}
use Rattle.std.proofs.lemmas.Grind.{common_steps}
use Rattle.wt_turn.specs.declared.answer.Answer.{Answer}
use Rattle.wt_trace.specs.Summary.{summary_of}

pub streams_add_up : (first later : List Answer) → (summary_of (first ++ later)).streams ≡ (summary_of first).streams + (summary_of later).streams
streams_add_up first later = grind (arith, common_steps)

pub bytes_add_up : (first later : List Answer) → (summary_of (first ++ later)).bytes ≡ (summary_of first).bytes + (summary_of later).bytes
bytes_add_up first later = grind (arith, common_steps)

pub turns_add_up : (first later : List Answer) → (summary_of (first ++ later)).turns ≡ (summary_of first).turns + (summary_of later).turns
turns_add_up first later = length-append first later
