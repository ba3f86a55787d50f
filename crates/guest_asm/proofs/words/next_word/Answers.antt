use Rattle.std.proofs.Common.{arith}
use Rattle.guest_asm.proofs.Lexis.{next_is, next_none}
use Rattle.guest_asm.proofs.words.next_word.Goals as goal

pub returns-then-is_empty-clause-none : goal.returns-then-is_empty-clause-none
returns-then-is_empty-clause-none c = next_none c.args.text.now c.from_first_word-text.result.now c.from_first_word-text.ensures (grind arith)

pub returns-clause-some : goal.returns-clause-some
returns-clause-some c =
    rw (c.split_at.ensures.front, c.split_at.ensures.back, c.word_end.ensures.place) (next_is c.args.text.now c.from_first_word-text.result.now c.from_first_word-text.ensures (grind arith))
