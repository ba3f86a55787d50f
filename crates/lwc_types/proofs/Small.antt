-- Small facts of options, choices, lists and ranges.
use Rattle.std.proofs.Common.{◌≡◌, ◌≢◌, ◌⊎◌, ⊎_elim, inl, inr, ◌<◌, ◌≤◌, ◌+◌, ◌-◌, ℕ, zero, suc, add-zero, Bool, true, false, Option, Some, None, List, [], ◌∷◌, refl, ap, sym, subst, ◌∙◌, cond, get_or, length, map, set, replicate, arith}
use Rattle.std.specs.Prelude.{◌&&◌, ◌||◌, not, unwrap_or}
use Rattle.std.specs.List.{Contains, cons_option, count_by, position, position_or_len, range_with_len, sum_by}
use Rattle.std.specs.Option.{option_map}
use Rattle.std.specs.Ordering.{is_eq}
use Rattle.std.specs.declared.cmp.Ordering.{Ordering}
use Rattle.std.specs.declared.cmp.Ordering.TheVariants.{Less, Equal, Greater}
use Rattle.std.proofs.lemmas.Bool.{cases_lt}
use Rattle.std.proofs.lemmas.List.{get_or-replicate, get_or_past, length-replicate}
use Rattle.std.proofs.lemmas.List.FromFn.{length-range_with_len}
use Rattle.std.proofs.lemmas.List.Sums.{count_by-le-length, prefix_len-le-length, sum_by-cons}
use Rattle.lwc_types.specs.declared.name.Name.{Name}
use Rattle.lwc_types.specs.declared.page.TheConstants.{PAGE_BYTES}
use Rattle.lwc_types.specs.Names.{name_cmp}
use Rattle.lwc_types.specs.Pages.{zero_bytes, zero_page}
use Rattle.lwc_types.proofs.Orders.{name_cmp-IsAntisymmetric}

pub or_len : (p : ℕ → Bool) (xs : List ℕ) (o : Option ℕ) → o ≡ position p xs → unwrap_or o (length xs) ≡ position_or_len p xs
or_len p xs o e = let le = prefix_len-le-length (λ x. not (p x)) xs in grind arith

pub both-true : (a b : Bool) → (a && b) ≡ true → (a ≡ true) × (b ≡ true)
both-true true b h = (refl, h)
both-true false b h = absurd cc

-- a sum that is more than 0 has a term that is
pub sum-some : {X : Type 0} (f : X → ℕ) (xs : List X) (d : X) → 0 < sum_by f xs → (k : ℕ) × ((k < length xs) × (0 < f (get_or xs k d)))
sum-some f [] d some = absurd (omega (arith, some))
sum-some f (x ∷ xs) d some =
    let split = sum_by-cons f x xs in
    ⊎_elim
    (λ here. (0, (omega arith, here)))
    (λ none.
    let tail = sum-some f xs d (omega (arith, some, split, none)) in
    (suc tail.0, (omega (arith, tail.1.0), tail.1.1)))
    (cases_lt 0 (f x))

pub map-same : {X Y : Type 0} (f g : X → Y) (xs : List X) (d : X) → ((j : ℕ) → j < length xs → f (get_or xs j d) ≡ g (get_or xs j d)) → map f xs ≡ map g xs
map-same f g [] d h = refl
map-same f g (x ∷ xs) d h =
    let head = h 0 (omega arith) in
    let tail = map-same f g xs d (λ j lt. h (suc j) (omega (arith, lt))) in
    λ i. head i ∷ tail i

pub mapped_choice : {A B : Type 0} (f : A → B) (b : Bool) (x : A) (o : Option A) → option_map f (cond b (Some x) o) ≡ cond b (Some (f x)) (option_map f o)
mapped_choice f true x o = refl
mapped_choice f false x o = refl

-- no more of a range are counted than it has
pub count_of_range : (p : ℕ → Bool) (first count : ℕ) → count_by p (range_with_len first count) ≤ count
count_of_range p first count = subst (λ n. count_by p (range_with_len first count) ≤ n) (length-range_with_len first count) (count_by-le-length p (range_with_len first count))

pub set-map_same : {X Y : Type 0} (f g : X → Y) (xs : List X) (i : ℕ) (y : Y) (d : X) → ((j : ℕ) → j < length xs → j ≢ i → f (get_or xs j d) ≡ g (get_or xs j d)) → set (map f xs) i y ≡ set (map g xs) i y
set-map_same f g [] i y d h = refl
set-map_same f g (x ∷ xs) zero y d h = ap (λ ys. y ∷ ys) (map-same f g xs d (λ j lt. h (suc j) (omega (arith, lt)) (λ is. absurd (omega (arith, is)))))
set-map_same f g (x ∷ xs) (suc k) y d h =
    let head = h 0 (omega arith) (λ is. absurd (omega (arith, is))) in
    let tail = set-map_same f g xs k y d (λ j lt off. h (suc j) (omega (arith, lt)) (λ is. off (omega (arith, is)))) in
    λ i. head i ∷ tail i

-- a list that has f at each place, counted from a number on
pub filled_from : (f : ℕ → ℕ) (a n : ℕ) (xs : List ℕ) → length xs ≡ n → ((k : ℕ) → k < n → get_or xs k 0 ≡ f (a + k)) → xs ≡ map f (range_with_len a n)
filled_from f a zero [] all each = refl
filled_from f a (suc n) [] all each = absurd (omega arith)
filled_from f a zero (x ∷ xs) all each = absurd (omega arith)
filled_from f a (suc n) (x ∷ xs) all each =
    let first : x ≡ f a = each 0 (omega arith) ∙ ap f (add-zero a) in
    let rest : xs ≡ map f (range_with_len (a + 1) n) =
    filled_from f (a + 1) n xs (omega arith) (λ k h. each (suc k) (omega arith) ∙ ap f (omega arith)) in
    λ i. first i ∷ rest i

-- two tests that pass together are the same
pub same_bool : (a b : Bool) → (a ≡ true → b ≡ true) → (b ≡ true → a ≡ true) → a ≡ b
same_bool true b to from = sym (to refl)
same_bool false true to from = from refl
same_bool false false to from = refl

pub or_assoc : (a b c : Bool) → ((a || b) || c) ≡ (a || (b || c))
or_assoc true b c = refl
or_assoc false b c = refl

pub same_some : {A : Type 0} (x y : A) → Some x ≡ Some y → x ≡ y
same_some x y e = cc

-- what is gathered of a list has what is gathered of its end
pub gathered_later : {Y : Type 0} (o : Option Y) (ys : List Y) (y : Y) → Contains ys y → Contains (cons_option o ys) y
gathered_later None ys y there = there
gathered_later (Some z) ys y there = (suc there.0, omega (arith, there.1), there.2)

pub gathered_either : {Y : Type 0} (o : Option Y) (ys : List Y) (y : Y) → Contains (cons_option o ys) y → (o ≡ Some y) ⊎ Contains ys y
gathered_either None ys y there = inr there
gathered_either (Some z) ys y (zero, within, is) = inl (ap Some is)
gathered_either (Some z) ys y (suc k, within, is) = inr (k, omega (arith, within), is)

pub nothing_found : (b : Bool) (n : ℕ) → cond b (Some n) None ≡ None → b ≡ false
nothing_found true n e = cc
nothing_found false n e = refl

pub steps_left : (p end : ℕ) → p < end → suc (end - (p + 1)) ≡ end - p
steps_left p end within = omega arith

pub zero_in_zeros : (count j : ℕ) → ◌≡◌ {A = ℕ} (get_or (replicate count 0) j 0) 0
zero_in_zeros zero j = refl
zero_in_zeros (suc count) zero = refl
zero_in_zeros (suc count) (suc j) = zero_in_zeros count j

-- each of them is 0
pub zeros_at : (j : ℕ) → ◌≡◌ {A = ℕ} (get_or zero_page j 0) 0
unfolding zero_page zero_bytes
zeros_at j = zero_in_zeros PAGE_BYTES j

pub equal_of : (r : Ordering) → is_eq r ≡ true → r ≡ Equal
equal_of Less e = cc
equal_of Equal e = refl
equal_of Greater e = cc

pub set-again : {X : Type 0} (xs : List X) (i : ℕ) (x y : X) → set (set xs i x) i y ≡ set xs i y
set-again [] zero x y = refl
set-again [] (suc i) x y = refl
set-again (z ∷ xs) zero x y = refl
set-again (z ∷ xs) (suc i) x y = ap (λ ys. z ∷ ys) (set-again xs i x y)

-- a test answers alike at names that tie
pub alike : (p : Name → Bool) (c x : Name) → name_cmp c x ≡ Equal → p x ≡ p c
alike p c x tied = ap p (sym (name_cmp-IsAntisymmetric c x tied))

pub map-replicate : {X Y : Type 0} (f : X → Y) (n : ℕ) (x : X) → map f (replicate n x) ≡ replicate n (f x)
map-replicate f zero x = refl
map-replicate f (suc n) x = ap (λ ys. f x ∷ ys) (map-replicate f n x)

pub at-new : {X : Type 0} (n i : ℕ) (x : X) → get_or (replicate n x) i x ≡ x
at-new n i x = ⊎_elim (λ lt. get_or-replicate n i x x lt) (λ past. get_or_past (replicate n x) i x (let long = length-replicate n x in omega (arith, long, past))) (cases_lt i n)
