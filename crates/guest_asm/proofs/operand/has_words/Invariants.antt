use Rattle.std.proofs.Common.{◌≡◌, ◌+◌, length}
use Rattle.guest_asm.specs.Lexis.{words}
use Rattle.guest_asm.proofs.operand.has_words.Given as goal

abbrev pub invariant-loop : goal.invariant-loop
invariant-loop l = l.counter + length (words l.rest) ≡ length (words l.text)
