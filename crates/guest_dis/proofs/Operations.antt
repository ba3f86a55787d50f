-- Each operation: its mnemonic and operands, as they are written and read.
use Rattle.std.proofs.Common.{◌≡◌, ℕ, ◌≤◌, ◌^◌, ◌*◌, Bool, true, false, List, [], ◌∷◌, ◌++◌, length, map, Option, Some, None, Ok, refl, sym, ap, ◌∙◌, arith, append_assoc, length-append}
use Rattle.std.specs.Prelude.{if◌then◌else◌, ◌==◌, ◌&&◌, codes}
use Rattle.std.specs.List.{list_all}
use Rattle.std.proofs.lemmas.List.{length-map}
use Rattle.std.proofs.lemmas.Bool.{and_parts}
use Rattle.std.proofs.lemmas.Bool.Decides.{nat_tests}
use Rattle.guest_isa.specs.declared.instr.Instr.{Instr}
use Rattle.guest_isa.specs.declared.op.Op.{Op}
use Rattle.guest_isa.specs.declared.op.Op.TheVariants.{Li, Lih, Mov, Add, Sub, Mul, Divu, Remu, And, Or, Xor, Shl, Shr, Ltu, Eq, Addi, Jmp, Jz, Jnz, Jal, Jr, Ldb, Ldw, Stb, Stw, Sys, Halt}
use Rattle.guest_isa.specs.Opcodes.{fields_of, form_of, mnemonic}
use Rattle.guest_isa.specs.Instructions.{IsInstruction, is_instruction, fits, HasFieldsInRange}
use Rattle.guest_isa.specs.declared.op.Field.{Field}
use Rattle.guest_isa.specs.declared.op.Field.TheVariants.{Rd, Ra, Rb, Imm}
use Rattle.guest_asm.specs.Statements.{Once, Coded, Value, Statement, Instruction, blank, named, op_named, instruction_of, with_fields, statement_of, line_of}
use Rattle.guest_asm.specs.Drafts.{instruction_with}
use Rattle.guest_dis.specs.Listing.{operand_for, operands_of, operands_after, instruction_line}
use Rattle.guest_asm.specs.Lexis.{lines, has_bytes, is_separator}
use Rattle.guest_dis.proofs.Bytes.{is_clean_word, Spaced, is_spaced, closed, words_of, line_with, line_again, lines_again}
use Rattle.guest_dis.proofs.Numerals.{number_of-decimal, register_of-register, decimal_clean, register_clean, decimal_short}

-- fields that are filled from an instruction, one after another
pub filled : Instr → List Field → Coded → Coded
filled i [] made = made
filled i (Rd ∷ fs) made = filled i fs (record made.0 { rd = i.rd }, made.1)
filled i (Ra ∷ fs) made = filled i fs (record made.0 { ra = i.ra }, made.1)
filled i (Rb ∷ fs) made = filled i fs (record made.0 { rb = i.rb }, made.1)
filled i (Imm ∷ fs) made = filled i fs (made.0, Value i.imm)

all_filled : (i : Instr) → HasFieldsInRange i → (fs : List Field) (made : Coded) → with_fields fs (map (operand_for i) fs) made ≡ Ok (filled i fs made)
unfolding with_fields filled
all_filled i small [] made = refl
all_filled i small (Rd ∷ fs) made = rw (register_of-register i.rd small.rd) (all_filled i small fs (record made.0 { rd = i.rd }, made.1))
all_filled i small (Ra ∷ fs) made = rw (register_of-register i.ra small.ra) (all_filled i small fs (record made.0 { ra = i.ra }, made.1))
all_filled i small (Rb ∷ fs) made = rw (register_of-register i.rb small.rb) (all_filled i small fs (record made.0 { rb = i.rb }, made.1))
all_filled i small (Imm ∷ fs) made = rw (number_of-decimal i.imm small.imm) (all_filled i small fs (made.0, Value i.imm))

-- the fields that an operation uses, and 0 in the others
abbrev pub used : Op → ℕ → ℕ → ℕ → ℕ → Coded
used op rd ra rb imm =
    let form = form_of op in (
      record { op = op; rd = if form.rd then rd else 0; ra = if form.ra then ra else 0; rb = if form.rb then rb else 0; imm = 0 },
      Value (if form.imm then imm else 0),
    )

-- what is so of every operation
pub record IsRead (op : Op) : Type 0 where
  pub clean : is_clean_word (mnemonic op) ≡ true
  pub short : length (mnemonic op) ≤ 4
  pub few : length (fields_of op) ≤ 3
  pub named_is : (u : Once) (ws : List (List ℕ)) → named u (mnemonic op) ws ≡ instruction_of op ws
  pub filled_is : (rd ra rb imm : ℕ) → filled (record { op = op; rd = rd; ra = ra; rb = rb; imm = imm }) (fields_of op) (blank op) ≡ used op rd ra rb imm

pub is_read : (op : Op) → IsRead op
unfolding named op_named filled
is_read Li = record { clean = refl; short = omega arith; few = omega arith; named_is = λ u ws. refl; filled_is = λ rd ra rb imm. refl }
is_read Lih = record { clean = refl; short = omega arith; few = omega arith; named_is = λ u ws. refl; filled_is = λ rd ra rb imm. refl }
is_read Mov = record { clean = refl; short = omega arith; few = omega arith; named_is = λ u ws. refl; filled_is = λ rd ra rb imm. refl }
is_read Add = record { clean = refl; short = omega arith; few = omega arith; named_is = λ u ws. refl; filled_is = λ rd ra rb imm. refl }
is_read Sub = record { clean = refl; short = omega arith; few = omega arith; named_is = λ u ws. refl; filled_is = λ rd ra rb imm. refl }
is_read Mul = record { clean = refl; short = omega arith; few = omega arith; named_is = λ u ws. refl; filled_is = λ rd ra rb imm. refl }
is_read Divu = record { clean = refl; short = omega arith; few = omega arith; named_is = λ u ws. refl; filled_is = λ rd ra rb imm. refl }
is_read Remu = record { clean = refl; short = omega arith; few = omega arith; named_is = λ u ws. refl; filled_is = λ rd ra rb imm. refl }
is_read And = record { clean = refl; short = omega arith; few = omega arith; named_is = λ u ws. refl; filled_is = λ rd ra rb imm. refl }
is_read Or = record { clean = refl; short = omega arith; few = omega arith; named_is = λ u ws. refl; filled_is = λ rd ra rb imm. refl }
is_read Xor = record { clean = refl; short = omega arith; few = omega arith; named_is = λ u ws. refl; filled_is = λ rd ra rb imm. refl }
is_read Shl = record { clean = refl; short = omega arith; few = omega arith; named_is = λ u ws. refl; filled_is = λ rd ra rb imm. refl }
is_read Shr = record { clean = refl; short = omega arith; few = omega arith; named_is = λ u ws. refl; filled_is = λ rd ra rb imm. refl }
is_read Ltu = record { clean = refl; short = omega arith; few = omega arith; named_is = λ u ws. refl; filled_is = λ rd ra rb imm. refl }
is_read Eq = record { clean = refl; short = omega arith; few = omega arith; named_is = λ u ws. refl; filled_is = λ rd ra rb imm. refl }
is_read Addi = record { clean = refl; short = omega arith; few = omega arith; named_is = λ u ws. refl; filled_is = λ rd ra rb imm. refl }
is_read Jmp = record { clean = refl; short = omega arith; few = omega arith; named_is = λ u ws. refl; filled_is = λ rd ra rb imm. refl }
is_read Jz = record { clean = refl; short = omega arith; few = omega arith; named_is = λ u ws. refl; filled_is = λ rd ra rb imm. refl }
is_read Jnz = record { clean = refl; short = omega arith; few = omega arith; named_is = λ u ws. refl; filled_is = λ rd ra rb imm. refl }
is_read Jal = record { clean = refl; short = omega arith; few = omega arith; named_is = λ u ws. refl; filled_is = λ rd ra rb imm. refl }
is_read Jr = record { clean = refl; short = omega arith; few = omega arith; named_is = λ u ws. refl; filled_is = λ rd ra rb imm. refl }
is_read Ldb = record { clean = refl; short = omega arith; few = omega arith; named_is = λ u ws. refl; filled_is = λ rd ra rb imm. refl }
is_read Ldw = record { clean = refl; short = omega arith; few = omega arith; named_is = λ u ws. refl; filled_is = λ rd ra rb imm. refl }
is_read Stb = record { clean = refl; short = omega arith; few = omega arith; named_is = λ u ws. refl; filled_is = λ rd ra rb imm. refl }
is_read Stw = record { clean = refl; short = omega arith; few = omega arith; named_is = λ u ws. refl; filled_is = λ rd ra rb imm. refl }
is_read Sys = record { clean = refl; short = omega arith; few = omega arith; named_is = λ u ws. refl; filled_is = λ rd ra rb imm. refl }
is_read Halt = record { clean = refl; short = omega arith; few = omega arith; named_is = λ u ws. refl; filled_is = λ rd ra rb imm. refl }

kept : (used : Bool) (limit n : ℕ) → fits used limit n ≡ true → (if used then n else 0) ≡ n
kept true limit n e = refl
kept false limit n e = grind (arith, nat_tests)

same_list : (n : ℕ) → (n == n) ≡ true
same_list n = grind (arith, nat_tests)

-- an instruction is read as its fields, and these make it again
abbrev pub coded_for : Instr → Coded
coded_for i = used i.op i.rd i.ra i.rb i.imm

pub instruction_again : (i : Instr) (labels : List ℕ → Option ℕ) → IsInstruction i → instruction_with labels (coded_for i) ≡ i
unfolding is_instruction
instruction_again i labels is =
    let form = form_of i.op in
    let upto_imm = and_parts (fits form.rd 16 i.rd && fits form.ra 16 i.ra && fits form.rb 16 i.rb) (fits form.imm (2 ^ 32) i.imm) is in
    let upto_rb = and_parts (fits form.rd 16 i.rd && fits form.ra 16 i.ra) (fits form.rb 16 i.rb) upto_imm.0 in
    let upto_ra = and_parts (fits form.rd 16 i.rd) (fits form.ra 16 i.ra) upto_rb.0 in
    let d = kept form.rd 16 i.rd upto_ra.0 in
    let a = kept form.ra 16 i.ra upto_ra.1 in
    let b = kept form.rb 16 i.rb upto_rb.1 in
    let n = kept form.imm (2 ^ 32) i.imm upto_imm.1 in
    rw (d, a, b, n) refl

-- ---- the line

-- words after separators, as operands are
spaced : List ℕ → List (List ℕ) → List Spaced
spaced separator [] = []
spaced separator (w ∷ ws) = (separator, w) ∷ spaced (codes ", ") ws

closed_spaced : (separator : List ℕ) (ws : List (List ℕ)) → operands_after separator ws ++ codes "\n" ≡ closed (spaced separator ws)
unfolding spaced
closed_spaced separator [] = refl
closed_spaced separator (w ∷ ws) =
    append_assoc separator (w ++ operands_after (codes ", ") ws) (codes "\n") ∙ ap (λ t. separator ++ t) (append_assoc w (operands_after (codes ", ") ws) (codes "\n") ∙ ap (λ t. w ++ t) (closed_spaced (codes ", ") ws))

words_spaced : (separator : List ℕ) (ws : List (List ℕ)) → words_of (spaced separator ws) ≡ ws
unfolding spaced
words_spaced separator [] = refl
words_spaced separator (w ∷ ws) = ap (λ (vs : List (List ℕ)). w ∷ vs) (words_spaced (codes ", ") ws)

all_spaced : (separator : List ℕ) (ws : List (List ℕ)) → (has_bytes separator && list_all is_separator separator) ≡ true → list_all is_clean_word ws ≡ true → list_all is_spaced (spaced separator ws) ≡ true
unfolding spaced
all_spaced separator [] e all = refl
all_spaced separator (w ∷ ws) e all =
    let both = and_parts (is_clean_word w) (list_all is_clean_word ws) all in
    rw (e, both.0) (all_spaced (codes ", ") ws refl both.1)

clean_operands : (i : Instr) → HasFieldsInRange i → (fs : List Field) → list_all is_clean_word (map (operand_for i) fs) ≡ true
clean_operands i small [] = refl
clean_operands i small (Rd ∷ fs) = rw (register_clean i.rd small.rd) (clean_operands i small fs)
clean_operands i small (Ra ∷ fs) = rw (register_clean i.ra small.ra) (clean_operands i small fs)
clean_operands i small (Rb ∷ fs) = rw (register_clean i.rb small.rb) (clean_operands i small fs)
clean_operands i small (Imm ∷ fs) = rw (decimal_clean i.imm small.imm) (clean_operands i small fs)

-- a line that is read as a statement, whatever follows it
pub record IsLine (u : Once) (line : List ℕ) (s : Statement) : Type 0 where
  pub says : line_of u line ≡ Ok (None, Some s)
  pub first : (rest : List ℕ) → lines (line ++ rest) ≡ line ∷ lines rest

-- the statement of an instruction
abbrev pub instruction_for : Instr → Statement
instruction_for i = Instruction (coded_for i).0 (coded_for i).1

statement_again : (i : Instr) → HasFieldsInRange i → (u : Once) → statement_of u (mnemonic i.op ∷ operands_of i) ≡ Ok (Some (instruction_for i))
unfolding instruction_of
statement_again i small u =
    let op = is_read i.op in
    let count : (length (operands_of i) == length (fields_of i.op)) ≡ true = ap (λ n. n == length (fields_of i.op)) (length-map (fields_of i.op) (operand_for i)) ∙ same_list (length (fields_of i.op)) in
    let made : with_fields (fields_of i.op) (operands_of i) (blank i.op) ≡ Ok (used i.op i.rd i.ra i.rb i.imm) = all_filled i small (fields_of i.op) (blank i.op) ∙ ap Ok (op.filled_is i.rd i.ra i.rb i.imm) in
    rw (op.named_is u (operands_of i), count, made) refl

pub instruction_is : (u : Once) (i : Instr) → HasFieldsInRange i → IsLine u (instruction_line i) (instruction_for i)
instruction_is u i small =
    let name = mnemonic i.op in
    let ws = operands_of i in
    let xs = spaced (codes " ") ws in
    let clean = (is_read i.op).clean in
    let all : list_all is_spaced xs ≡ true = all_spaced (codes " ") ws refl (clean_operands i small (fields_of i.op)) in
    let line : instruction_line i ≡ line_with name xs = ap (λ t. name ++ t) (closed_spaced (codes " ") ws) in
    record {
      says = ap (line_of u) line ∙ line_again u name xs clean all ∙ rw (words_spaced (codes " ") ws, statement_again i small u) refl;
      first = λ rest. ap (λ l. lines (l ++ rest)) line ∙ lines_again name xs rest clean all ∙ ap (λ (l : List ℕ). l ∷ lines rest) (sym line);
    }

-- ---- its length

operands_short : (i : Instr) → HasFieldsInRange i → (separator : List ℕ) → length separator ≤ 2 → (fs : List Field) → length (operands_after separator (map (operand_for i) fs)) ≤ 13 * length fs
operands_short i small separator short [] = omega arith
operands_short i small separator short (f ∷ fs) =
    let later = operands_short i small (codes ", ") (omega arith) fs in
    omega (arith, later, short, one f, length-append separator (operand_for i f ++ operands_after (codes ", ") (map (operand_for i) fs)), length-append (operand_for i f) (operands_after (codes ", ") (map (operand_for i) fs)))
  where
    one : (f : Field) → length (operand_for i f) ≤ 11
    one Rd = omega (arith, decimal_short i.rd (omega (arith, small.rd)))
    one Ra = omega (arith, decimal_short i.ra (omega (arith, small.ra)))
    one Rb = omega (arith, decimal_short i.rb (omega (arith, small.rb)))
    one Imm = omega (arith, decimal_short i.imm small.imm)

pub instruction_short : (i : Instr) → HasFieldsInRange i → length (instruction_line i) ≤ 44
instruction_short i small =
    let op = is_read i.op in
    let tail = operands_after (codes " ") (operands_of i) in
    omega (arith, op.short, op.few, operands_short i small (codes " ") (omega arith) (fields_of i.op), length-append (mnemonic i.op) (tail ++ codes "\n"), length-append tail (codes "\n"))
