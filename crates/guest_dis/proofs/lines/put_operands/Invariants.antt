use Rattle.std.proofs.Common.{◌≡◌, ◌++◌, drop, map}
use Rattle.std.specs.Prelude.{codes}
use Rattle.guest_isa.specs.Opcodes.{fields_of}
use Rattle.guest_dis.specs.Listing.{operand_for, operands_of, operands_after}
use Rattle.guest_dis.proofs.lines.put_operands.Given as goal

abbrev pub invariant-loop-field : goal.invariant-loop-field
invariant-loop-field l =
    l.out.items ++ operands_after l.separator (map (operand_for l.instr) (drop l.field-index (fields_of l.instr.op))) ≡ l.fn.out.items ++ operands_after (codes " ") (operands_of l.instr)
