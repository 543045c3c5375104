use Rattle.std.proofs.Common.{◌≡◌, ◌≤◌, ◌+◌, length}
use Rattle.wt_script.specs.Drafts.{read_lines}
use Rattle.wt_script.specs.Words.{lines}
use Rattle.wt_script.proofs.draft.read_lines.Given as goal

abbrev pub invariant-loop-line : goal.invariant-loop-line
invariant-loop-line g l = record {
  joined : read_lines g.D.Draft.with_words g.D.Draft.at_end l.number l.draft (lines l.rest) ≡ read_lines g.D.Draft.with_words g.D.Draft.at_end 1 l.fn.draft (lines l.text);
  count_is : l.number + length l.rest ≤ length l.text + 1;
}

abbrev pub decreases-loop-line : goal.decreases-loop-line
decreases-loop-line g l = length l.rest
