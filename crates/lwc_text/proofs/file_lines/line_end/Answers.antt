use Rattle.std.proofs.Common.{◌∙◌, refl}
use Rattle.lwc_text.proofs.FileLines.{first_feed}
use Rattle.lwc_text.proofs.file_lines.line_end.Goals as goal

pub returns-clause-place : goal.returns-clause-place
returns-clause-place c = c.unwrap_or.ensures ∙ first_feed c.args.bytes.now c.memchr.result c.memchr.ensures _ refl
