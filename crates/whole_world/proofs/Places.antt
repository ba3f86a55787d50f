-- What a list has at each place after one of its places is written.
use Rattle.std.proofs.Common.{◌≡◌, ℕ, zero, suc, ◌+◌, ◌<◌, ◌≤◌, ◌≢◌, List, length, get_or, refl, ap, ◌∙◌, map, below_more, arith, eqb, cond}
use Rattle.std.specs.Prelude.{replicate}
use Rattle.std.specs.List.{range_with_len}
use Rattle.std.proofs.Math.ListN.{set}
use Rattle.std.proofs.lemmas.Grind.{common_steps}
use Rattle.std.proofs.lemmas.List.{get_or-set_same, get_or-set_other}
use Rattle.lwc_types.proofs.Small.{filled_from}

-- the written value there, and the old ones elsewhere
pub place_after_set : {A : Type 0} (xs : List A) (i : ℕ) (v : A) (j : ℕ) (d : A) → i < length xs → get_or (set xs i v) j d ≡ cond (eqb j i) v (get_or xs j d)
place_after_set xs i v j d h = grind (arith, common_steps)

-- copies of one value have it everywhere, where it is the default too
pub place_of_replicate : {A : Type 0} (count : ℕ) (v : A) (j : ℕ) → get_or (replicate count v) j v ≡ v
place_of_replicate zero v j = refl
place_of_replicate (suc count) v zero = refl
place_of_replicate (suc count) v (suc j) = place_of_replicate count v j

-- a list is written from its front on: each place below i has what f makes of the old number there, and the others have the old ones
pub record IsWrittenBelow (f : ℕ → ℕ → ℕ) (old : List ℕ) (i : ℕ) (xs : List ℕ) : Type 0 where
  pub below : (k : ℕ) → k < i → get_or xs k 0 ≡ f k (get_or old k 0)
  pub above : (k : ℕ) → i ≤ k → get_or xs k 0 ≡ get_or old k 0

-- one more place is written
pub written_more : (f : ℕ → ℕ → ℕ) (old : List ℕ) (i : ℕ) (xs ys : List ℕ) (b : ℕ) → IsWrittenBelow f old i xs → i < length xs →
    ys ≡ set xs i b → b ≡ f i (get_or xs i 0) → IsWrittenBelow f old (i + 1) ys
written_more f old i xs ys b before there is made = record {
  below = below_more (λ k. get_or ys k 0 ≡ f k (get_or old k 0)) i
      (λ k h. let other : k ≢ i = omega arith in ap (λ l. get_or l k 0) is ∙ get_or-set_other xs i k b 0 other ∙ before.below k h)
      (ap (λ l. get_or l i 0) is ∙ get_or-set_same xs i b 0 there ∙ made ∙ ap (f i) (before.above i (omega arith)));
  above = λ k h. let other : k ≢ i = omega arith in ap (λ l. get_or l k 0) is ∙ get_or-set_other xs i k b 0 other ∙ before.above k (omega arith);
}

-- once all places are written
pub written_all : (f : ℕ → ℕ → ℕ) (old : List ℕ) (i : ℕ) (xs : List ℕ) → IsWrittenBelow f old i xs → length xs ≡ length old → length old ≤ i →
    xs ≡ map (λ k. f k (get_or old k 0)) (range_with_len 0 (length old))
written_all f old i xs written whole all =
    filled_from (λ k. f k (get_or old k 0)) 0 (length old) xs whole (λ k h. written.below k (omega arith) ∙ ap (λ n. f n (get_or old n 0)) (omega arith))
