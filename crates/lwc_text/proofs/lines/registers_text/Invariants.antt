use Rattle.std.proofs.Common.{◌≡◌, ◌++◌, take}
use Rattle.std.specs.Prelude.{codes, decimal}
use Rattle.std.specs.List.{flat_map}
use Rattle.std.specs.String.{string_bytes}
use Rattle.lwc_text.proofs.lines.registers_text.Given as goal

abbrev pub invariant-registers : goal.invariant-registers
invariant-registers l =
    string_bytes l.line ≡ codes "regs " ++ decimal l.fn.thread ++ flat_map (λ r. codes " " ++ decimal r) (take l.value-index l.registers)
