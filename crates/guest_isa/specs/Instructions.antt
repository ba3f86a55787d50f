-- What an instruction is.
use Rattle.std.specs.Prelude.{ℕ, Bool, ◌^◌, ◌+◌, ◌-◌, ◌&&◌, nat_lt, ◌==◌, if◌then◌else◌, IsTrue, List, ◌<◌, ◌≤◌}
use Rattle.std.specs.Prelude.{length, All}
use Rattle.guest_isa.specs.declared.instr.Instr.{Instr}
use Rattle.guest_isa.specs.Opcodes.{form_of}

-- whether a field may have the number n: below the limit if the field is used, and else 0
abbrev pub fits : Bool → ℕ → ℕ → Bool
fits used limit n = if used then nat_lt n limit else n == 0

-- whether the fields fit the form of the operation: registers are below 16, and what is not used is 0
unfoldable pub is_instruction : Instr → Bool
is_instruction i =
    let form = form_of i.op in
    fits form.rd 16 i.rd && fits form.ra 16 i.ra && fits form.rb 16 i.rb && fits form.imm (2 ^ 32) i.imm

-- an instruction of the table
abbrev pub IsInstruction : Instr → Type 0
IsInstruction i = IsTrue (is_instruction i)

-- each field for a register is below 16, used or not, and imm has 32 bits
pub record HasFieldsInRange (i : Instr) : Type 0 where
  pub rd : i.rd < 16
  pub ra : i.ra < 16
  pub rb : i.rb < 16
  pub imm : i.imm < 2 ^ 32

-- imm read as a signed number of 32 bits, modulo 2^64
abbrev pub sx : ℕ → ℕ
sx imm = if nat_lt imm (2 ^ 31) then imm else imm + (2 ^ 64 - 2 ^ 32)

-- a text: 1 to 65536 instructions
pub record IsText (list : List Instr) : Type 0 where
  pub some : 1 ≤ length list
  pub bounded : length list ≤ 65536
  pub instructions : All IsInstruction list
