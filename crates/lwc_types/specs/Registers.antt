-- Registers before anything has run.
use Rattle.std.specs.Prelude.{ℕ, replicate}
use Rattle.lwc_types.specs.declared.regs.Regs.{Regs}

-- all registers 0, with the given instruction next
abbrev pub fresh_registers : ℕ → Regs
fresh_registers pc = record { r = replicate 16 0; pc = pc }
