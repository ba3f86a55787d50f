use Rattle.std.proofs.Common.{arith}
use Rattle.std.proofs.lemmas.Grind.{common_steps}
use Rattle.lwc_text.specs.Lines.{thread_line}
use Rattle.lwc_text.proofs.lines.thread_text.Goals as goal

-- said at once: the search that would come first fails late
pub returns : goal.returns
unfolding thread_line
returns c = grind (arith, common_steps)
