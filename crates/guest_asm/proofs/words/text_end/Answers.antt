use Rattle.std.proofs.Common.{◌∙◌, refl}
use Rattle.guest_asm.proofs.Texts.{first_end}
use Rattle.guest_asm.proofs.words.text_end.Goals as goal

pub returns-clause-place : goal.returns-clause-place
returns-clause-place c = c.unwrap_or.ensures ∙ first_end c.args.bytes.now c.memchr2.result c.memchr2.ensures _ refl
