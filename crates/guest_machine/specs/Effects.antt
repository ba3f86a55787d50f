-- What private instructions do to the registers. Sums, differences and products are modulo 2^64.
use Rattle.std.specs.Prelude.{ℕ, ◌+◌, ◌-◌, ◌*◌, ◌/◌, ◌%◌, ◌^◌, ◌==◌, nat_lt, if◌then◌else◌, slice_index, slice_set}
use Rattle.std.specs.Prelude.{bit_and, bit_or, bit_xor}
use Rattle.guest_isa.specs.declared.op.Op.{Op}
use Rattle.guest_isa.specs.declared.op.Op.TheVariants.{Li, Lih, Mov, Add, Sub, Mul, Divu, Remu, And, Or, Xor, Shl}
use Rattle.guest_isa.specs.declared.op.Op.TheVariants.{Shr, Ltu, Eq, Addi, Jmp, Jz, Jnz, Jal, Jr}
use Rattle.guest_isa.specs.declared.instr.Instr.{Instr}
use Rattle.guest_isa.specs.Instructions.{sx}
use Rattle.lwc_types.specs.declared.regs.Regs.{Regs}
use Rattle.guest_machine.specs.declared.effect.Effect.{Effect}
use Rattle.guest_machine.specs.declared.effect.Effect.TheVariants.{Puts, Jumps, Links, Passes}

-- a divided by b, rounded down; the greatest number where b is 0
abbrev pub quotient : ℕ → ℕ → ℕ
quotient a b = if b == 0 then 2 ^ 64 - 1 else a / b

-- what is left of a; all of it where b is 0
abbrev pub remainder : ℕ → ℕ → ℕ
remainder a b = if b == 0 then a else a % b

-- the effect of each private operation, where rd, ra and rb hold d, a and b; a shared one is never asked for
abbrev pub effect_of : Op → ℕ → ℕ → ℕ → ℕ → Effect
effect_of Li d a b imm = Puts imm
effect_of Lih d a b imm = Puts (d % 2 ^ 32 + imm * 2 ^ 32)
effect_of Mov d a b imm = Puts a
effect_of Add d a b imm = Puts ((a + b) % 2 ^ 64)
effect_of Sub d a b imm = Puts ((a + (2 ^ 64 - b)) % 2 ^ 64)
effect_of Mul d a b imm = Puts ((a * b) % 2 ^ 64)
effect_of Divu d a b imm = Puts (quotient a b)
effect_of Remu d a b imm = Puts (remainder a b)
effect_of And d a b imm = Puts (bit_and a b)
effect_of Or d a b imm = Puts (bit_or a b)
effect_of Xor d a b imm = Puts (bit_xor a b)
effect_of Shl d a b imm = Puts ((a * 2 ^ (b % 64)) % 2 ^ 64)
effect_of Shr d a b imm = Puts (a / 2 ^ (b % 64))
effect_of Ltu d a b imm = Puts (if nat_lt a b then 1 else 0)
effect_of Eq d a b imm = Puts (if a == b then 1 else 0)
effect_of Addi d a b imm = Puts ((a + sx imm) % 2 ^ 64)
effect_of Jmp d a b imm = Jumps imm
effect_of Jz d a b imm = if a == 0 then Jumps imm else Passes
effect_of Jnz d a b imm = if a == 0 then Passes else Jumps imm
effect_of Jal d a b imm = Links imm
effect_of Jr d a b imm = Jumps a
effect_of _ d a b imm = Passes

-- the place after this one
abbrev pub next_pc : Regs → ℕ
next_pc s = (s.pc + 1) % 2 ^ 64

-- the registers after an effect on register rd and pc
abbrev pub after_effect : Effect → ℕ → Regs → Regs
after_effect (Puts n) rd s = record { r = slice_set s.r rd n; pc = next_pc s }
after_effect (Jumps n) rd s = record { r = s.r; pc = n }
after_effect (Links n) rd s = record { r = slice_set s.r rd (next_pc s); pc = n }
after_effect Passes rd s = record { r = s.r; pc = next_pc s }

-- the registers after a private instruction
unfoldable pub effect : Instr → Regs → Regs
effect i s =
    let register = slice_index s.r in
    after_effect (effect_of i.op (register i.rd) (register i.ra) (register i.rb) i.imm) i.rd s
