use Rattle.std.proofs.Common.{◌≡◌, ◌-◌, length, All}
use Rattle.guest_isa.specs.Instructions.{IsInstruction}
use Rattle.guest_image.specs.Reading.{list_at, next_instruction, instructions_at}
use Rattle.guest_image.proofs.lists.read_text.Given as goal

abbrev pub invariant-loop : goal.invariant-loop
invariant-loop l = record {
  read : list_at (next_instruction l.count) (l.count - l.counter) l.instructions.items l.reader ≡ instructions_at l.count l.fn.reader;
  count : length l.instructions.items ≡ l.counter;
  instructions : All IsInstruction l.instructions.items;
}
