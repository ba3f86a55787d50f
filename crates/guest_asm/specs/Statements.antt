-- What one line says.
use Rattle.std.specs.Prelude.{ℕ, ◌%◌, ◌||◌, Bool, ◌==◌, ◌&&◌, nat_le, if◌then◌else◌, List, [], ◌∷◌, length, find}
use Rattle.std.specs.Prelude.{codes, Option, Some, None, Result, Ok, Err}
use Rattle.std.specs.List.{list_all}
use Rattle.std.specs.Result.{result_ok}
use Rattle.std.specs.Option.{unwrap_or}
use Rattle.std.specs.Str.{bytes_eq}
use Rattle.guest_image.specs.declared.image.Form.{Form}
use Rattle.guest_image.specs.declared.image.Form.TheVariants.{One, Two}
use Rattle.guest_isa.specs.declared.instr.Instr.{Instr}
use Rattle.guest_isa.specs.declared.op.Op.{Op}
use Rattle.guest_isa.specs.Opcodes.{fields_of, mnemonic, ops}
use Rattle.hex.specs.Hex.{decode_of, is_hex_digit}
use Rattle.guest_asm.specs.declared.error.SourceRule.{SourceRule}
use Rattle.guest_asm.specs.declared.error.SourceRule.TheVariants.{BadLine, BadOperand}
use Rattle.guest_isa.specs.declared.op.Field.{Field}
use Rattle.guest_isa.specs.declared.op.Field.TheVariants.{Rd, Ra, Rb, Imm}
use Rattle.guest_asm.specs.declared.parts.PageDraft.{PageDraft}
use Rattle.guest_asm.specs.declared.parts.FileDraft.{FileDraft}
use Rattle.guest_asm.specs.declared.parts.SlotDraft.{SlotDraft}
use Rattle.guest_asm.specs.Lexis.{words, is_name, labelled, text_of, is_plain}
use Rattle.guest_asm.specs.Numbers.{number_of, register_of}

-- a number, or the label that stands for one
pub data Immediate : Type 0 where
  Value : ℕ → Immediate
  Label : List ℕ → Immediate

-- an instruction and its immediate, or what a directive says
pub data Statement : Type 0 where
  Instruction : Instr → Immediate → Statement
  Uid : ℕ → Statement
  OfForm : Form → Statement
  Entry : Immediate → Statement
  Page : PageDraft → Statement
  File : FileDraft → Statement
  Slot : SlotDraft → Statement

-- whether earlier lines have `.uid` and `.form`, which may stand once
pub record Once : Type 0 where
  pub uid : Bool
  pub form : Bool

infixl 10 ◌>>=◌
-- a step after one that broke no rule
abbrev pub ◌>>=◌ : {A B : Type 0} → Result A SourceRule → (A → Result B SourceRule) → Result B SourceRule
(Ok x) >>= f = f x
(Err rule) >>= f = Err rule

-- an operand that has a form, or else the operand is bad
abbrev pub operand : {A : Type 0} → Option A → Result A SourceRule
operand None = Err BadOperand
operand (Some x) = Ok x

-- a number, or a name
abbrev pub immediate_by : List ℕ → Option ℕ → Result Immediate SourceRule
immediate_by word (Some n) = Ok (Value n)
immediate_by word None = if is_name word then Ok (Label word) else Err BadOperand

-- a number or a label
abbrev pub immediate_of : List ℕ → Result Immediate SourceRule
immediate_of word = immediate_by word (number_of word)

-- the operation with a mnemonic, if there is one
unfoldable pub op_named : List ℕ → Option Op
op_named word = find (λ op. bytes_eq (mnemonic op) word) ops

-- an instruction, and what its immediate is
abbrev pub Coded : Type 0
Coded = Instr × Immediate

-- an operation with nothing in its fields
abbrev pub blank : Op → Coded
blank op = (record { op = op; rd = 0; ra = 0; rb = 0; imm = 0 }, Value 0)

-- a word as the operand of a field
abbrev pub with_field : Field → List ℕ → Coded → Result Coded SourceRule
with_field Rd word made = operand (register_of word) >>= λ n. Ok (record made.0 { rd = n }, made.1)
with_field Ra word made = operand (register_of word) >>= λ n. Ok (record made.0 { ra = n }, made.1)
with_field Rb word made = operand (register_of word) >>= λ n. Ok (record made.0 { rb = n }, made.1)
with_field Imm word made = immediate_of word >>= λ n. Ok (made.0, n)

-- words as the operands of fields, one after another
unfoldable pub with_fields : List Field → List (List ℕ) → Coded → Result Coded SourceRule
with_fields [] _ made = Ok made
with_fields (field ∷ fields) [] made = Err BadLine
with_fields (field ∷ fields) (word ∷ more) made =
    with_field field word made >>= λ next. with_fields fields more next

-- an instruction, with one operand for each of its fields
unfoldable pub instruction_of : Op → List (List ℕ) → Result Statement SourceRule
instruction_of op operands =
    if length operands == length (fields_of op)
    then (with_fields (fields_of op) operands (blank op) >>= λ made. Ok (Instruction made.0 made.1))
    else Err BadLine

-- an instruction, if there is an operation
abbrev pub instruction_by : Option Op → List (List ℕ) → Result Statement SourceRule
instruction_by None operands = Err BadLine
instruction_by (Some op) operands = instruction_of op operands

-- `.uid N`
abbrev pub uid_of : List (List ℕ) → Result Statement SourceRule
uid_of (number ∷ []) = operand (number_of number) >>= λ n. Ok (Uid n)
uid_of _ = Err BadLine

-- the form of a number: 1 or 2
abbrev pub form_numbered : Option ℕ → Option Form
form_numbered None = None
form_numbered (Some n) = if n == 1 then Some One else (if n == 2 then Some Two else None)

-- `.form N`
abbrev pub form_of : List (List ℕ) → Result Statement SourceRule
form_of (number ∷ []) = operand (form_numbered (number_of number)) >>= λ f. Ok (OfForm f)
form_of _ = Err BadLine

-- `.entry N`
abbrev pub entry_of : List (List ℕ) → Result Statement SourceRule
entry_of (number ∷ []) = immediate_of number >>= λ n. Ok (Entry n)
entry_of _ = Err BadLine

-- whether a word is pairs of hexadecimal digits
abbrev pub is_hex : List ℕ → Bool
is_hex word = length word % 2 == 0 && list_all is_hex_digit word

-- whether a word is `-`, or hexadecimal of at most this many digits
abbrev pub is_bytes_text : ℕ → List ℕ → Bool
is_bytes_text most word =
    bytes_eq word (codes "-") || (is_hex word && nat_le (length word) most)

-- the bytes of hexadecimal, and none of `-`
unfoldable pub bytes_of : List ℕ → List ℕ
bytes_of word =
    if bytes_eq word (codes "-") then [] else unwrap_or (result_ok (decode_of word)) []

-- bytes in at most this many digits
abbrev pub bytes_operand : ℕ → List ℕ → Result (List ℕ) SourceRule
bytes_operand most word = if is_bytes_text most word then Ok (bytes_of word) else Err BadOperand

-- `.page P BYTES`: at most 4096 bytes
abbrev pub page_of : List (List ℕ) → Result Statement SourceRule
page_of (number ∷ bytes ∷ []) =
    operand (number_of number) >>= λ n. bytes_operand 8192 bytes >>= λ b.
    Ok (Page (record { number = n; bytes = b }))
page_of _ = Err BadLine

-- `.file OWNER PUBLIC BYTES`: bytes without a limit
abbrev pub file_of : List (List ℕ) → Result Statement SourceRule
file_of (owner ∷ public ∷ bytes ∷ []) =
    operand (number_of owner) >>= λ o. operand (number_of public) >>= λ p.
    bytes_operand (length bytes) bytes >>= λ b.
    Ok (File (record { owner = o; public = p; bytes = b }))
file_of _ = Err BadLine

-- `.slot S FILE`
abbrev pub slot_of : List (List ℕ) → Result Statement SourceRule
slot_of (slot ∷ file ∷ []) =
    operand (number_of slot) >>= λ s. operand (number_of file) >>= λ f.
    Ok (Slot (record { slot = s; file = f }))
slot_of _ = Err BadLine

-- the directive or instruction with a name; once says whether earlier lines have `.uid` and `.form`
unfoldable pub named : Once → List ℕ → List (List ℕ) → Result Statement SourceRule
named once name operands =
    if bytes_eq name (codes ".uid") then (if once.uid then Err BadLine else uid_of operands)
    else if bytes_eq name (codes ".form") then (if once.form then Err BadLine else form_of operands)
    else if bytes_eq name (codes ".entry") then entry_of operands
    else if bytes_eq name (codes ".page") then page_of operands
    else if bytes_eq name (codes ".file") then file_of operands
    else if bytes_eq name (codes ".slot") then slot_of operands
    else instruction_by (op_named name) operands

-- what words say, if there are any
abbrev pub statement_of : Once → List (List ℕ) → Result (Option Statement) SourceRule
statement_of once [] = Ok None
statement_of once (name ∷ operands) = named once name operands >>= λ s. Ok (Some s)

-- the label of a line, if it has one, and its statement, if it has one; or the rule that it breaks
unfoldable pub line_of : Once → List ℕ → Result (Option (List ℕ) × Option Statement) SourceRule
line_of once line =
    let text = text_of line in
    let parts = labelled text in
    if list_all is_plain text
    then (statement_of once (words parts.1) >>= λ s. Ok (parts.0, s))
    else Err BadLine
