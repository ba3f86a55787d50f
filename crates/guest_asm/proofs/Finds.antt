-- Words that are no mnemonics, and names that are no directives.
use Rattle.std.proofs.Common.{◌≡◌, ℕ, Bool, true, false, not, List, [], ◌∷◌, None, length, refl, sym, ap, ◌∙◌, arith, find}
use Rattle.std.specs.Prelude.{◌||◌, ◌==◌, slice_index}
use Rattle.std.specs.Cmp.Lexicographic.{same_text}
use Rattle.std.specs.List.{list_all}
use Rattle.std.specs.Str.{bytes_eq}
use Rattle.std.proofs.lemmas.Bool.Decides.{nat_tests}
use Rattle.std.proofs.lemmas.Bool.{and_parts, false≢true}
use Rattle.guest_isa.specs.declared.op.Op.{Op}
use Rattle.guest_isa.specs.Opcodes.{mnemonic, ops}
use Rattle.guest_asm.specs.Statements.{Once, instruction_by, named, op_named}

-- a name that passes a test which a word does not pass
apart_by : (word : List ℕ) (q : List ℕ → Bool) → q word ≡ false → (name : List ℕ) (t : Bool) → bytes_eq name word ≡ t → q name ≡ true → t ≡ false
apart_by word q fails name false is passes = refl
apart_by word q fails name true is passes = absurd (false≢true (sym fails ∙ ap q (sym (same_text name word (sym is))) ∙ passes))

none_among : (word : List ℕ) (q : List ℕ → Bool) → q word ≡ false → (among : List Op) → list_all (λ op. q (mnemonic op)) among ≡ true → find (λ op. bytes_eq (mnemonic op) word) among ≡ None
none_among word q fails [] all = refl
none_among word q fails (op ∷ more) all =
    let parts = and_parts (q (mnemonic op)) (list_all (λ o. q (mnemonic o)) more) all in
    rw (apart_by word q fails (mnemonic op) (bytes_eq (mnemonic op) word) refl parts.0) (none_among word q fails more parts.1)

no_op : (word : List ℕ) (q : List ℕ → Bool) → q word ≡ false → list_all (λ op. q (mnemonic op)) ops ≡ true → op_named word ≡ None
unfolding op_named
no_op word q fails all = none_among word q fails ops all

same_number : (n : ℕ) → (n == n) ≡ true
same_number n = grind (arith, nat_tests)

-- each mnemonic has two, three or four letters
pub no_op_of_length : (word : List ℕ) → (2 == length word) ≡ false → (3 == length word) ≡ false → (4 == length word) ≡ false → op_named word ≡ None
no_op_of_length word two three four = no_op word (λ name. not (length name == length word)) (rw (same_number (length word)) refl) (rw (two, three, four) refl)

-- those of four begin with four of the letters
pub no_op_of_four : (a b c d : ℕ) → (65 == a) ≡ false → (68 == a) ≡ false → (82 == a) ≡ false → (72 == a) ≡ false → op_named (a ∷ b ∷ c ∷ d ∷ []) ≡ None
no_op_of_four a b c d e0 e1 e2 e3 =
    no_op (a ∷ b ∷ c ∷ d ∷ []) (λ name. not (length name == 4) || not (slice_index name 0 == a)) (rw (same_number a) refl) (rw (e0, e1, e2, e3) refl)

-- and none with a dot
pub no_dotted_op : (word : List ℕ) → slice_index word 0 ≡ 46 → op_named word ≡ None
no_dotted_op word dot = no_op word (λ name. not (slice_index name 0 == 46)) (rw dot refl) refl

-- each directive does
pub no_directive : (once : Once) (name : List ℕ) (operands : List (List ℕ)) → (slice_index name 0 == 46) ≡ false → named once name operands ≡ instruction_by (op_named name) operands
unfolding named
no_directive once [] operands plain = refl
no_directive once (b ∷ bs) operands plain = rw plain refl
