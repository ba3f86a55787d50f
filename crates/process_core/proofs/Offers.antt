-- What a turn adds to a history, and lists that agree at each place.
use Rattle.std.proofs.Common.{◌≡◌, ◌+◌, ◌<◌, ◌==◌, ℕ, suc, cond, List, [], ◌∷◌, ◌++◌, length, get_or, map, refl, ap, ◌∙◌, arith, length-append}
use Rattle.std.proofs.lemmas.List.Sums.{sum_by-append}
use Rattle.kernel_core.proofs.Others.{steps-one}
use Rattle.kernel_core.specs.Histories.{GoesOn, steps_by}

steps-append : (t : ℕ) (xs ys : List ℕ) → steps_by t (xs ++ ys) ≡ steps_by t xs + steps_by t ys
steps-append t xs ys = sum_by-append (λ s. cond (s == t) 1 0) xs ys

-- a history that goes on has one more step of the thread
pub one_more : (t : ℕ) (before after : List ℕ) → GoesOn t before after → steps_by t after ≡ steps_by t before + 1
one_more t before after on =
    let whole : steps_by t after ≡ steps_by t (before ++ (on.others ++ t ∷ [])) = ap (steps_by t) on.after_is in
    omega (arith, whole, steps-append t before (on.others ++ t ∷ []), steps-append t on.others (t ∷ []), steps-one t, on.none)

-- and is longer
pub longer : (t : ℕ) (before after : List ℕ) → GoesOn t before after → length before < length after
longer t before after on =
    omega (arith, ap length on.after_is, length-append before (on.others ++ t ∷ []), length-append on.others (t ∷ []))

-- lists that agree at each place
pub same_map : {A B : Type 0} (f : A → B) (ys xs : List A) → length ys ≡ length xs → ((i : ℕ) (d : A) → i < length xs → f (get_or ys i d) ≡ f (get_or xs i d)) → map f ys ≡ map f xs
same_map f [] [] long each = refl
same_map f [] (x ∷ xs) long each = absurd (omega arith)
same_map f (y ∷ ys) [] long each = absurd (omega arith)
same_map f (y ∷ ys) (x ∷ xs) long each =
    ap (λ n. n ∷ map f ys) (each 0 x (omega arith)) ∙ ap (λ l. f x ∷ l) (same_map f ys xs (omega arith) (λ i d below. each (suc i) d (omega arith)))
