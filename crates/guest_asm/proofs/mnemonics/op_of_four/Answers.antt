use Rattle.std.proofs.Common.{arith, sym}
use Rattle.std.proofs.lemmas.Bool.Decides.{nat_tests}
use Rattle.guest_asm.proofs.Finds.{no_op_of_four}
use Rattle.guest_asm.proofs.mnemonics.op_of_four.Goals as goal

pub returns-in_default-13 : goal.returns-in_default-13
returns-in_default-13 c =
    sym (no_op_of_four c.args.a c.args.b c.args.c c.args.d (grind (arith, nat_tests, c.in_default.is-0)) (grind (arith, nat_tests, c.in_default.is-0)) (grind (arith, nat_tests, c.in_default.is-0)) (grind (arith, nat_tests, c.in_default.is-0)))
