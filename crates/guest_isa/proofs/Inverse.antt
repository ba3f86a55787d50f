-- What is spelled is read back, and what is read is spelled so.
use Rattle.std.proofs.Common.{◌≡◌, ℕ, suc, ◌<◌, ◌==◌, Bool, true, false, cond, List, [], ◌∷◌, length, get_or, Option, Some, None, refl, sym, inl, inr, find, All, arith}
use Rattle.std.specs.Prelude.{◌≢◌, IfSome, IfNone, option_and_then}
use Rattle.std.specs.Int.{w32, to_le_bytes, from_le_bytes}
use Rattle.std.proofs.lemmas.Bool.{cases_lt, eqb-true}
use Rattle.std.proofs.lemmas.Nat.{le_bytes_4, from_le_bytes-to_le_bytes_4}
use Rattle.std.proofs.lemmas.List.{get_or_past}
use Rattle.std.proofs.lemmas.List.Elements.{All-get_or}
use Rattle.guest_isa.specs.declared.op.Op.{Op}
use Rattle.guest_isa.specs.declared.op.Op.TheVariants.{Li}
use Rattle.guest_isa.specs.declared.instr.Instr.{Instr}
use Rattle.guest_isa.specs.Opcodes.{number_of, op_of, ops}
use Rattle.guest_isa.specs.Instructions.{is_instruction, IsInstruction}
use Rattle.guest_isa.proofs.Fields.{in_range}
use Rattle.guest_isa.specs.Spelling.{spelling, reading, checked}

-- each opcode names its operation
op_of-number_of : (op : Op) → op_of (number_of op) ≡ Some op
unfolding op_of
op_of-number_of Li = refl
op_of-number_of _ = refl

-- what is found passes the test
passes_first : {X : Type 0} (test : X → Bool) (y : X) (ys : List X) (x : X) (b : Bool) → test y ≡ b → (find test ys ≡ Some x → test x ≡ true) → cond b (Some y) (find test ys) ≡ Some x → test x ≡ true
passes_first test y ys x true is later e = let same : y ≡ x = cc in rw (← same) is
passes_first test y ys x false is later e = later e

passes : {X : Type 0} (test : X → Bool) (xs : List X) (x : X) → find test xs ≡ Some x → test x ≡ true
passes test [] x e = absurd cc
passes test (y ∷ ys) x e = passes_first test y ys x (test y) refl (passes test ys x) e

-- the operation with an opcode has that opcode
number_of-op_of : (number : ℕ) (op : Op) → op_of number ≡ Some op → number_of op ≡ number
unfolding op_of
number_of-op_of number op e = eqb-true _ _ (passes (λ o. number_of o == number) ops op e)

checked_ok : (i : Instr) → IsInstruction i → checked i ≡ Some i
checked_ok i is = rw is refl

checked-some : (i j : Instr) → checked i ≡ Some j → IsInstruction j × (i ≡ j)
checked-some i j e = by_test i j (is_instruction i) refl e
  where
    by_test : (i j : Instr) (b : Bool) → is_instruction i ≡ b → cond b (Some i) None ≡ Some j → IsInstruction j × (i ≡ j)
    by_test i j true is e = let same : i ≡ j = cc in (rw (← same) is, same)
    by_test i j false is e = absurd cc

-- what is spelled is read back
pub reading-spelling : (i : Instr) → IsInstruction i → reading (spelling i) ≡ Some i
unfolding reading
reading-spelling i is = rw (op_of-number_of i.op, from_le_bytes-to_le_bytes_4 i.imm (in_range i is).imm) (checked_ok i is)

abbrev pub IsBytes : List ℕ → Type 0
IsBytes bytes = (k : ℕ) → get_or bytes k 0 < 256

-- what is read is an instruction, and is spelled so
pub spelling-reading : (bytes : List ℕ) (i : Instr) → length bytes ≡ 8 → IsBytes bytes → reading bytes ≡ Some i → IsInstruction i × (bytes ≡ spelling i)
unfolding reading
spelling-reading [] i eight fits e = absurd (omega arith)
spelling-reading (number ∷ []) i eight fits e = absurd cc
spelling-reading (number ∷ rd ∷ []) i eight fits e = absurd cc
spelling-reading (number ∷ rd ∷ ra ∷ []) i eight fits e = absurd cc
spelling-reading (number ∷ rd ∷ ra ∷ rb ∷ imm) i eight fits e = by_op (op_of number) refl e
  where
    by_op : (o : Option Op) → op_of number ≡ o → option_and_then (λ op. checked (record { op = op; rd = rd; ra = ra; rb = rb; imm = from_le_bytes w32 imm })) o ≡ Some i → IsInstruction i × (number ∷ rd ∷ ra ∷ rb ∷ imm ≡ spelling i)
    by_op None is e = absurd cc
    by_op (Some op) is e =
        let both = checked-some (record { op = op; rd = rd; ra = ra; rb = rb; imm = from_le_bytes w32 imm }) i e in
        let first : number_of op ≡ number = number_of-op_of number op is in
        let last : to_le_bytes w32 (from_le_bytes w32 imm) ≡ imm = le_bytes_4 imm (from_le_bytes w32 imm) (omega arith) (λ k. fits (suc (suc (suc (suc k))))) refl in
        (both.0, rw (← both.1, first, last) refl)

pub is_found : (bytes : List ℕ) (r : Option Instr) → length bytes ≡ 8 → IsBytes bytes → r ≡ reading bytes → IfSome r (λ i. IsInstruction i × (bytes ≡ spelling i))
is_found bytes None eight fits e = tt
is_found bytes (Some i) eight fits e = spelling-reading bytes i eight fits (sym e)

pub is_none : (bytes : List ℕ) (r : Option Instr) → r ≡ reading bytes → IfNone r ((i : Instr) → IsInstruction i → bytes ≢ spelling i)
is_none bytes None e = λ i is same. let found : reading bytes ≡ Some i = rw same (reading-spelling i is) in cc
is_none bytes (Some i) e = tt

pub IsBytes-from_all : (bytes : List ℕ) → All (λ b. b < 256) bytes → IsBytes bytes
IsBytes-from_all bytes all k =
    elim (cases_lt k (length bytes)) [
      | inl within ↦ All-get_or (λ b. b < 256) bytes k 0 within all
      | inr past ↦ rw (get_or_past bytes k 0 past) (omega arith)
    ]
