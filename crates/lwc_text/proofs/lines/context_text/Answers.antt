use Rattle.std.proofs.Common.{arith}
use Rattle.std.proofs.lemmas.Grind.{common_steps}
use Rattle.lwc_text.specs.Lines.{context_line}
use Rattle.lwc_text.proofs.lines.context_text.Goals as goal

-- said at once: the search that would come first fails late
pub returns : goal.returns
unfolding context_line
returns c = grind (arith, common_steps)
