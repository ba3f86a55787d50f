-- Words that are put into fields one after another.
use Rattle.std.proofs.Common.{◌≡◌, ℕ, suc, ◌+◌, ◌<◌, List, [], ◌∷◌, length, drop, get_or, Result, Ok, Err, refl, sym, ◌∙◌, arith, drop-cons}
use Rattle.guest_asm.specs.declared.error.SourceRule.{SourceRule}
use Rattle.guest_asm.specs.declared.error.SourceRule.TheVariants.{BadLine}
use Rattle.guest_isa.specs.declared.op.Field.{Field}
use Rattle.guest_asm.specs.Statements.{Coded, with_field, with_fields}

-- how far a loop over fields has come: total is what all fields and words give
module _ (fields : List Field) (i : ℕ) (words : List (List ℕ)) (made : Coded) (total : Result Coded SourceRule) (lt : i < length fields) (so_far : with_fields (drop i fields) words made ≡ total) (d : Field) where
  pub no_word : words ≡ [] → total ≡ Err BadLine
  unfolding with_fields
  no_word e = sym so_far ∙ rw (e, drop-cons fields i d) refl

  pub wrong_word : (word : List ℕ) (more : List (List ℕ)) (rule : SourceRule) → words ≡ word ∷ more → with_field (get_or fields i d) word made ≡ Err rule → total ≡ Err rule
  unfolding with_fields
  wrong_word word more rule e failed = sym so_far ∙ rw (e, drop-cons fields i d, failed) refl

  pub next_field : (word : List ℕ) (more : List (List ℕ)) (next : Coded) → words ≡ word ∷ more → with_field (get_or fields i d) word made ≡ Ok next → with_fields (drop (i + 1) fields) more next ≡ total
  unfolding with_fields
  next_field word more next e put =
      let k : i + 1 ≡ suc i = omega arith in
      sym (let one : with_fields (drop i fields) words made ≡ with_fields (drop (suc i) fields) more next = rw (e, drop-cons fields i d, put) refl in rw k (sym so_far ∙ one))

pub all_put : (fields : List Field) (i : ℕ) (words : List (List ℕ)) (made : Coded) (total : Result Coded SourceRule) → drop i fields ≡ [] → with_fields (drop i fields) words made ≡ total → total ≡ Ok made
unfolding with_fields
all_put fields i words made total e so_far = sym so_far ∙ rw e refl
