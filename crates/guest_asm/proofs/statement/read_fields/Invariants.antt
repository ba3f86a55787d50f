use Rattle.std.proofs.Common.{◌≡◌, ◌+◌, drop, length}
use Rattle.guest_asm.specs.Lexis.{words}
use Rattle.guest_asm.specs.Statements.{with_fields, blank}
use Rattle.guest_asm.specs.Views.{immediate_in}
use Rattle.guest_asm.proofs.statement.read_fields.Given as goal

abbrev pub invariant-loop-field : goal.invariant-loop-field
invariant-loop-field l = record {
  read : with_fields (drop l.field-index l.fields) (words l.rest) (l.instr, immediate_in l.imm) ≡ with_fields l.fields (words l.text) (blank l.fn.op);
  count : l.field-index + length (words l.rest) ≡ length (words l.text);
}
