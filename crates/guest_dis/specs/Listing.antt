-- The source of an image, without labels.
use Rattle.std.specs.Prelude.{ℕ, ◌<◌, ◌==◌, Bool, if◌then◌else◌, List, [], ◌∷◌, ◌++◌, length, map, All, codes, decimal}
use Rattle.std.specs.List.{flat_map}
use Rattle.lwc_types.specs.declared.file_image.FileImage.{FileImage}
use Rattle.guest_isa.specs.declared.instr.Instr.{Instr}
use Rattle.guest_image.specs.declared.image.Form.{Form}
use Rattle.guest_image.specs.declared.image.Form.TheVariants.{One, Two}
use Rattle.guest_image.specs.declared.image.Image.{Image}
use Rattle.guest_image.specs.declared.image.PageImage.{PageImage}
use Rattle.guest_image.specs.declared.image.SlotImage.{SlotImage}
use Rattle.hex.specs.Hex.{encode_lower}
use Rattle.guest_isa.specs.declared.op.Field.{Field}
use Rattle.guest_isa.specs.declared.op.Field.TheVariants.{Rd, Ra, Rb, Imm}
use Rattle.guest_isa.specs.Opcodes.{fields_of, mnemonic}

-- the operand of a field: a register, or a decimal
abbrev pub operand_for : Instr → Field → List ℕ
operand_for i Rd = codes "r" ++ decimal i.rd
operand_for i Ra = codes "r" ++ decimal i.ra
operand_for i Rb = codes "r" ++ decimal i.rb
operand_for i Imm = decimal i.imm

-- the operands of an instruction
abbrev pub operands_of : Instr → List (List ℕ)
operands_of i = map (operand_for i) (fields_of i.op)

-- operands, the first after a separator and each later one after a comma and a blank
abbrev pub operands_after : List ℕ → List (List ℕ) → List ℕ
operands_after separator [] = []
operands_after separator (w ∷ ws) = separator ++ (w ++ operands_after (codes ", ") ws)

-- an instruction: its mnemonic and its operands
abbrev pub instruction_line : Instr → List ℕ
instruction_line i = mnemonic i.op ++ (operands_after (codes " ") (operands_of i) ++ codes "\n")

-- bytes in lower-case hexadecimal, or `-` where there are none
abbrev pub bytes_text : List ℕ → List ℕ
bytes_text bytes = if length bytes == 0 then codes "-" else encode_lower bytes

-- a byte in front of bytes without trailing zeros; none, where it is a trailing zero
abbrev pub before_trimmed : ℕ → List ℕ → List ℕ
before_trimmed b [] = if b == 0 then [] else b ∷ []
before_trimmed b (c ∷ cs) = b ∷ c ∷ cs

-- bytes without trailing zeros
abbrev pub trimmed : List ℕ → List ℕ
trimmed [] = []
trimmed (b ∷ bs) = before_trimmed b (trimmed bs)

-- `.form 2` for form 2, and no line for form 1
abbrev pub form_line : Form → List ℕ
form_line One = []
form_line Two = codes ".form 2\n"

-- `.uid N`
abbrev pub uid_line : ℕ → List ℕ
uid_line n = codes ".uid " ++ (decimal n ++ codes "\n")

-- `.entry N`
abbrev pub entry_line : ℕ → List ℕ
entry_line n = codes ".entry " ++ (decimal n ++ codes "\n")

-- `.page P BYTES`
abbrev pub page_line : PageImage → List ℕ
page_line p =
    codes ".page " ++ (decimal p.number ++ (codes " " ++ (bytes_text (trimmed p.bytes) ++ codes "\n")))

-- 1 for a public file, and else 0
abbrev pub flag : Bool → ℕ
flag public = if public then 1 else 0

-- `.file OWNER PUBLIC BYTES`
abbrev pub file_line : FileImage → List ℕ
file_line f =
    codes ".file " ++ (decimal f.owner ++ (codes " " ++ (decimal (flag f.public)
    ++ (codes " " ++ (bytes_text f.bytes ++ codes "\n")))))

-- `.slot S FILE`
abbrev pub slot_line : SlotImage → List ℕ
slot_line s = codes ".slot " ++ (decimal s.slot ++ (codes " " ++ (decimal s.file ++ codes "\n")))

-- the form if it is 2, the uid, the entries, the instructions, the pages, the files and the slots, one a line
unfoldable pub listing : Image → List ℕ
listing image =
    form_line image.form ++ (uid_line image.uid ++ (flat_map entry_line image.entries
    ++ (flat_map instruction_line image.text ++ (flat_map page_line image.pages
    ++ (flat_map file_line image.files ++ flat_map slot_line image.slots)))))

-- the bytes of an image's pages and files are below 256
pub record HasBytes (image : Image) : Type 0 where
  pub pages : All (λ p. All (λ b. b < 256) p.bytes) image.pages
  pub files : All (λ f. All (λ b. b < 256) f.bytes) image.files
