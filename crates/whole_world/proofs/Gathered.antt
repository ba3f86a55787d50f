-- What is gathered over a list and over its places.
use Rattle.std.proofs.Common.{◌≡◌, ℕ, suc, ◌+◌, ◌*◌, ◌≤◌, List, [], ◌∷◌, ◌++◌, length, get_or, refl, sym, ap, ◌∙◌, arith, append_assoc, length-append}
use Rattle.std.specs.Prelude.{All}
use Rattle.std.specs.List.{flat_map, range_with_len}
use Rattle.std.proofs.lemmas.List.{length_push}
use Rattle.std.proofs.Math.Seq.{get_or-append_seam}

flat_map_from : {X A : Type 0} (f : X → List A) (front xs : List X) (d : X) (first : ℕ) → length front ≡ first →
    flat_map (λ n. f (get_or (front ++ xs) n d)) (range_with_len first (length xs)) ≡ flat_map f xs
flat_map_from f front [] d first at = refl
flat_map_from f front (x ∷ xs) d first at =
    let same : (front ++ x ∷ []) ++ xs ≡ front ++ x ∷ xs = append_assoc front (x ∷ []) xs in
    let here : get_or (front ++ x ∷ xs) first d ≡ x = ap (λ n. get_or (front ++ x ∷ xs) n d) (sym at) ∙ get_or-append_seam front x xs d in
    let later : flat_map (λ n. f (get_or ((front ++ x ∷ []) ++ xs) n d)) (range_with_len (first + 1) (length xs)) ≡ flat_map f xs =
    flat_map_from f (front ++ x ∷ []) xs d (first + 1) (length_push front x ∙ ap (λ n. n + 1) at) in
    ap (λ y. f y ++ flat_map (λ n. f (get_or (front ++ x ∷ xs) n d)) (range_with_len (first + 1) (length xs))) here
    ∙ ap (λ l. f x ++ flat_map (λ n. f (get_or l n d)) (range_with_len (first + 1) (length xs))) (sym same)
    ∙ ap (λ l. f x ++ l) later

-- what is gathered over the places of a list is what is gathered over the list
pub flat_map-places : {X A : Type 0} (f : X → List A) (xs : List X) (d : X) → flat_map (λ n. f (get_or xs n d)) (range_with_len 0 (length xs)) ≡ flat_map f xs
flat_map-places f xs d = flat_map_from f [] xs d 0 refl

-- what holds of each element holds of the first and of the others
pub first_of_all : {X : Type 0} (P : X → Type 0) (x : X) (xs : List X) → All P (x ∷ xs) → P x
first_of_all P x xs all = all 0 x (omega arith)

pub others_of_all : {X : Type 0} (P : X → Type 0) (x : X) (xs : List X) → All P (x ∷ xs) → All P xs
others_of_all P x xs all = λ k d within. all (suc k) d (omega arith)

-- joined lists have at most as many elements as the product of the number of lists and the most of one
pub length-flat_map-le : {X A : Type 0} (f : X → List A) (most : ℕ) (xs : List X) → All (λ x. length (f x) ≤ most) xs → length (flat_map f xs) ≤ length xs * most
length-flat_map-le f most [] each = omega arith
length-flat_map-le f most (x ∷ xs) each =
    let first : length (f x) ≤ most = first_of_all (λ y. length (f y) ≤ most) x xs each in
    let others : length (flat_map f xs) ≤ length xs * most = length-flat_map-le f most xs (others_of_all (λ y. length (f y) ≤ most) x xs each) in
    omega (arith, length-append (f x) (flat_map f xs), first, others)
