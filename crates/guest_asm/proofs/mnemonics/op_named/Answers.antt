use Rattle.std.proofs.Common.{arith, sym}
use Rattle.std.proofs.lemmas.Bool.Decides.{nat_tests}
use Rattle.guest_asm.proofs.Finds.{no_op_of_length}
use Rattle.guest_asm.proofs.mnemonics.op_named.Goals as goal

pub returns-in_default : goal.returns-in_default
returns-in_default c =
    sym (no_op_of_length c.args.word.now (grind (arith, nat_tests, c.in_default.len_below)) (grind (arith, nat_tests, c.in_default.len_below)) (grind (arith, nat_tests, c.in_default.len_below)))

pub returns-in_default-2 : goal.returns-in_default-2
returns-in_default-2 c =
    sym (no_op_of_length c.args.word.now (grind (arith, nat_tests, c.in_default.len_at_least)) (grind (arith, nat_tests, c.in_default.len_at_least)) (grind (arith, nat_tests, c.in_default.len_at_least)))
