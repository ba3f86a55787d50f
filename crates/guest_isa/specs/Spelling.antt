-- The bytes of an instruction.
use Rattle.std.specs.Prelude.{ℕ, List, ◌∷◌, Option, Some, None, option_and_then, if◌then◌else◌}
use Rattle.std.specs.Int.{w32, to_le_bytes, from_le_bytes}
use Rattle.guest_isa.specs.declared.instr.Instr.{Instr}
use Rattle.guest_isa.specs.Opcodes.{number_of, op_of}
use Rattle.guest_isa.specs.Instructions.{is_instruction}

-- the eight bytes: the opcode, rd, ra, rb, and imm with its lowest byte first
abbrev pub spelling : Instr → List ℕ
spelling i = number_of i.op ∷ i.rd ∷ i.ra ∷ i.rb ∷ to_le_bytes w32 i.imm

-- the instruction with these fields, if it is one
abbrev pub checked : Instr → Option Instr
checked i = if is_instruction i then Some i else None

-- the instruction that eight bytes spell, if they spell one
unfoldable pub reading : List ℕ → Option Instr
reading (number ∷ rd ∷ ra ∷ rb ∷ imm) =
    let n = from_le_bytes w32 imm in
    option_and_then (λ op. checked (record { op = op; rd = rd; ra = ra; rb = rb; imm = n })) (op_of number)
reading _ = None
