use Rattle.std.proofs.Common.{◌≡◌, length}
use Rattle.wt_script.specs.Headers.{headers_from, headers_of_words}
use Rattle.wt_script.proofs.HeaderLaws.{left}
use Rattle.wt_script.proofs.script.headers.read_headers.Given as goal

abbrev pub invariant-loop-rest : goal.invariant-loop-rest
invariant-loop-rest l = headers_from l.headers (left l.rest) ≡ headers_of_words l.words

abbrev pub decreases-loop-rest : goal.decreases-loop-rest
decreases-loop-rest l = length (left l.rest)
