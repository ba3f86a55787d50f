-- The registers of a context.
use Rattle.std.specs.Prelude.{List, Option}
use Rattle.lwc_types.specs.declared.regs.Regs.{Regs}

-- those that it begins with, and those that it keeps, at the place of each thread
pub record KeptRegisters : Type 0 where
  pub entry : Regs
  pub saved : List (Option Regs)
