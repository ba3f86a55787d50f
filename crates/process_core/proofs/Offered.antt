-- The proposal of the next turn of a stay.
use Rattle.std.proofs.Common.{◌≡◌, ℕ, zero, suc, List, Option, None, Some, All, IfSome, slice_get, take, refl, sym, subst, arith}
use Rattle.std.specs.Prelude.{option_map, option_to_list}
use Rattle.std.proofs.lemmas.List.Elements.{All-take}
use Rattle.std.proofs.lemmas.Option.{get_or_from_slice_get, slice_get_within}

some_holds : {A : Type 0} (P : A → Type 0) (r : Option A) (xs : List A) (n k : ℕ) → r ≡ slice_get (take n xs) k → All P xs → IfSome r P
some_holds P None xs n k is all = tt
some_holds P (Some a) xs n k is all =
    let there : slice_get (take n xs) k ≡ Some a = sym is in
    subst P (get_or_from_slice_get (take n xs) k a a there) (All-take P n xs all k a (slice_get_within (take n xs) k a there))

-- what holds of all holds of the one that is found among the first ones
pub offered_holds : {A : Type 0} (P : A → Type 0) (xs : List A) (n k : ℕ) → All P xs → IfSome (slice_get (take n xs) k) P
offered_holds P xs n k all = some_holds P (slice_get (take n xs) k) xs n k refl all

-- what holds of the one that is there holds of all in the list of it
pub all_there : {A B : Type 0} (P : B → Type 0) (f : A → B) (o : Option A) → IfSome o (λ a. P (f a)) → All P (option_to_list (option_map f o))
all_there P f None is i d below = absurd (omega arith)
all_there P f (Some a) is zero d below = is
all_there P f (Some a) is (suc i) d below = absurd (omega arith)

-- what holds of what is found holds of the one that shows it
pub shown_holds : {A B : Type 0} (P : B → Type 0) (f : A → B) (o : Option A) (found : Option B) → option_map f o ≡ found → IfSome found P → IfSome o (λ a. P (f a))
shown_holds P f None found is holds = tt
shown_holds P f (Some a) found is holds = subst (λ x. IfSome x P) (sym is) holds
