use Rattle.std.proofs.Common.{◌≡◌, ◌++◌, take}
use Rattle.std.specs.List.{flat_map}
use Rattle.guest_isa.specs.Spelling.{spelling}
use Rattle.guest_asm.specs.Drafts.{instruction_with}
use Rattle.guest_asm.specs.Views.{coded_in, label_at}
use Rattle.guest_asm.proofs.draft.put_text.Given as goal

abbrev pub invariant-loop-instr : goal.invariant-loop-instr
invariant-loop-instr l =
    l.out.items ≡ l.fn.out.items ++ flat_map (λ i. spelling (instruction_with (label_at l.source.labels) (coded_in i))) (take l.instr-index l.source.text.items)
