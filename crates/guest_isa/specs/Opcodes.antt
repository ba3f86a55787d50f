-- The table of operations, and what follows from it.
use Rattle.std.specs.Prelude.{ℕ, Bool, true, false, Option, List, [], ◌∷◌, codes, find, ◌==◌, ◌||◌, nat_le}
use Rattle.guest_isa.specs.declared.op.Op.{Op}
use Rattle.guest_isa.specs.declared.op.Op.TheVariants.{Li, Lih, Mov, Add, Sub, Mul, Divu, Remu, And, Or, Xor, Shl}
use Rattle.guest_isa.specs.declared.op.Op.TheVariants.{Shr, Ltu, Eq, Addi, Jmp, Jz, Jnz, Jal, Jr, Ldb, Ldw, Stb, Stw}
use Rattle.guest_isa.specs.declared.op.Op.TheVariants.{Sys, Halt}
use Rattle.guest_isa.specs.declared.op.Field.{Field}
use Rattle.guest_isa.specs.declared.op.Field.TheVariants.{Rd, Ra, Rb, Imm}
use Rattle.guest_isa.specs.declared.op.Form.{Form}

-- a row of the table: the opcode, the mnemonic, and the fields that an instruction uses, in the order of its operands
pub record Row : Type 0 where
  pub opcode : ℕ
  pub mnemonic : List ℕ
  pub fields : List Field

abbrev pub row : ℕ → List ℕ → List Field → Row
row opcode mnemonic fields = record { opcode = opcode; mnemonic = mnemonic; fields = fields }

-- the table of operations
abbrev pub row_of : Op → Row
row_of Li = row 1 (codes "LI") (Rd ∷ Imm ∷ [])
row_of Lih = row 2 (codes "LIH") (Rd ∷ Imm ∷ [])
row_of Mov = row 3 (codes "MOV") (Rd ∷ Ra ∷ [])
row_of Add = row 4 (codes "ADD") (Rd ∷ Ra ∷ Rb ∷ [])
row_of Sub = row 5 (codes "SUB") (Rd ∷ Ra ∷ Rb ∷ [])
row_of Mul = row 6 (codes "MUL") (Rd ∷ Ra ∷ Rb ∷ [])
row_of Divu = row 7 (codes "DIVU") (Rd ∷ Ra ∷ Rb ∷ [])
row_of Remu = row 8 (codes "REMU") (Rd ∷ Ra ∷ Rb ∷ [])
row_of And = row 9 (codes "AND") (Rd ∷ Ra ∷ Rb ∷ [])
row_of Or = row 10 (codes "OR") (Rd ∷ Ra ∷ Rb ∷ [])
row_of Xor = row 11 (codes "XOR") (Rd ∷ Ra ∷ Rb ∷ [])
row_of Shl = row 12 (codes "SHL") (Rd ∷ Ra ∷ Rb ∷ [])
row_of Shr = row 13 (codes "SHR") (Rd ∷ Ra ∷ Rb ∷ [])
row_of Ltu = row 14 (codes "LTU") (Rd ∷ Ra ∷ Rb ∷ [])
row_of Eq = row 15 (codes "EQ") (Rd ∷ Ra ∷ Rb ∷ [])
row_of Addi = row 16 (codes "ADDI") (Rd ∷ Ra ∷ Imm ∷ [])
row_of Jmp = row 17 (codes "JMP") (Imm ∷ [])
row_of Jz = row 18 (codes "JZ") (Ra ∷ Imm ∷ [])
row_of Jnz = row 19 (codes "JNZ") (Ra ∷ Imm ∷ [])
row_of Jal = row 20 (codes "JAL") (Rd ∷ Imm ∷ [])
row_of Jr = row 21 (codes "JR") (Ra ∷ [])
row_of Ldb = row 32 (codes "LDB") (Rd ∷ Ra ∷ Imm ∷ [])
row_of Ldw = row 33 (codes "LDW") (Rd ∷ Ra ∷ Imm ∷ [])
row_of Stb = row 34 (codes "STB") (Rb ∷ Ra ∷ Imm ∷ [])
row_of Stw = row 35 (codes "STW") (Rb ∷ Ra ∷ Imm ∷ [])
row_of Sys = row 36 (codes "SYS") (Imm ∷ [])
row_of Halt = row 37 (codes "HALT") []

-- the opcode
abbrev pub number_of : Op → ℕ
number_of op = (row_of op).opcode

-- the mnemonic
abbrev pub mnemonic : Op → List ℕ
mnemonic op = (row_of op).mnemonic

-- the fields that an instruction of an operation uses, in the order of its operands
abbrev pub fields_of : Op → List Field
fields_of op = (row_of op).fields

-- every operation
abbrev pub ops : List Op
ops =
    Li ∷ Lih ∷ Mov ∷ Add ∷ Sub ∷ Mul ∷ Divu ∷ Remu ∷ And ∷ Or ∷ Xor ∷ Shl ∷ Shr ∷ Ltu ∷ Eq ∷ Addi
    ∷ Jmp ∷ Jz ∷ Jnz ∷ Jal ∷ Jr ∷ Ldb ∷ Ldw ∷ Stb ∷ Stw ∷ Sys ∷ Halt ∷ []

-- the operation with an opcode, if there is one
unfoldable pub op_of : ℕ → Option Op
op_of number = find (λ op. number_of op == number) ops

-- whether two fields are one
abbrev pub is_same : Field → Field → Bool
is_same Rd Rd = true
is_same Ra Ra = true
is_same Rb Rb = true
is_same Imm Imm = true
is_same _ _ = false

-- whether a field is among these
abbrev pub is_among : List Field → Field → Bool
is_among [] field = false
is_among (f ∷ fs) field = is_same f field || is_among fs field

-- which fields an instruction of an operation uses
abbrev pub form_of : Op → Form
form_of op =
    let used = is_among (fields_of op) in
    record { rd = used Rd; ra = used Ra; rb = used Rb; imm = used Imm }

-- private: it works on the thread's registers alone
abbrev pub is_private : Op → Bool
is_private op = nat_le (number_of op) 21

-- shared: a load, a store, a call or the halt
abbrev pub is_shared : Op → Bool
is_shared op = nat_le 32 (number_of op)

-- imm is a place in the text to which the instruction may jump
abbrev pub has_target : Op → Bool
has_target Jmp = true
has_target Jz = true
has_target Jnz = true
has_target Jal = true
has_target _ = false
