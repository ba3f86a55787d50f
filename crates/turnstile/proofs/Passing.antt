-- Lists of passes.
use Rattle.std.proofs.Common.{◌≡◌, ◌⊎◌, ◌+◌, ◌<◌, ◌==◌, ℕ, zero, suc, Bool, true, false, List, [], ◌∷◌, ◌++◌, length, get_or, map, Some, refl, ap, subst, ◌∙◌, inl, inr, ⊎_elim, arith, length-append, eq-eqb, eqb-true, lt-ltb, set, length-set, get_or-set_same, get_or-set_other, slice_get, sym}
use Rattle.std.specs.Prelude.{All, Contains, IsSome}
use Rattle.std.specs.List.{position, prefix_len}
use Rattle.std.specs.Prelude.{not}
use Rattle.std.proofs.Math.ListN.{length-map}
use Rattle.std.proofs.lemmas.List.{get_or-append-add}
use Rattle.std.proofs.lemmas.List.Quantifiers.{position-Some}
use Rattle.std.proofs.lemmas.List.{get_or-map}
use Rattle.std.proofs.lemmas.Option.{slice_get-get_or}
use lib.Seq.{map-set, set-get_or}
use mathlib.Core.Logic.{dite}
use native.Mathlib.Decide.{ℕ_discrete}
use Rattle.std.specs.List.Sorted.{IsPermutation}
use Rattle.std.proofs.lemmas.List.Sorted.{All-permutation, Contains-permutation}
use Rattle.turnstile.specs.declared.views.Joined.{Joined}
use Rattle.turnstile.specs.Passes.{Lock, Held, IsPassOf, AreAllOf, HoldAllOf, joined_of, IsNewPass, fresh_pass}

-- what a list contains, a longer one contains
pub contains_behind : {A : Type 0} (xs ys : List A) (x : A) → Contains ys x → Contains (xs ++ ys) x
contains_behind xs ys x has = (length xs + has.0, omega (arith, length-append xs ys, has.1), get_or-append-add xs ys has.0 x ∙ has.2)

-- a mapped list contains what its elements are mapped to
pub map_contains : {A B : Type 0} (f : A → B) (xs : List A) → All (λ x. Contains (map f xs) (f x)) xs
map_contains f [] k d below = absurd (omega arith)
map_contains f (x ∷ xs) zero d below = (0, omega arith, refl)
map_contains f (x ∷ xs) (suc k) d below = let has = map_contains f xs k d (omega arith) in (suc has.0, omega (arith, has.1), has.2)

-- each pass of the list is kept behind those that were
pub All-kept : {P : Type 0} (f : P → Joined) (js : List Joined) (ps : List P) → All (λ p. Contains (js ++ map f ps) (f p)) ps
All-kept f js ps k d below = contains_behind js (map f ps) _ (map_contains f ps k d below)

-- a list mapped to itself
pub map-self : {A : Type 0} (xs : List A) → map (λ x. x) xs ≡ xs
map-self [] = refl
map-self (x ∷ xs) = ap (λ ys. x ∷ ys) (map-self xs)

module _ {A : Type 0} (f : A → ℕ) (n : ℕ) where
  -- how many stand before the number
  abbrev others : List A → ℕ
  others xs = prefix_len (λ y. not (f y == n)) xs

  -- the first element has the number, or the rest is searched
  found_at : (x : A) (xs : List A) (b : Bool) → (f x == n) ≡ b → Contains (map f (x ∷ xs)) n → (Contains (map f xs) n → others xs < length xs) → others (x ∷ xs) < length (x ∷ xs)
  found_at x xs true is has rest = rw is (omega arith)
  found_at x xs false is (zero, below, here) rest = absurd (let no_test : (f x == n) ≡ true = eq-eqb (f x) n here in cc)
  found_at x xs false is (suc k, below, here) rest = rw is (let later = rest (k, omega arith, here) in omega arith)

  -- the number stands among those that the list is mapped to, so not all of it is before the number
  pub found : (xs : List A) → Contains (map f xs) n → others xs < length xs
  found [] has = absurd (let below = has.1 in omega arith)
  found (x ∷ xs) has = found_at x xs (f x == n) refl has (found xs)

  -- so it has a place
  pub position_found : (xs : List A) → Contains (map f xs) n → IsSome (position (λ x. f x == n) xs)
  position_found xs has = rw (lt-ltb (others xs) (length xs) (found xs has)) refl

-- what stands at the place of the number has it
pub position_has : {A : Type 0} (f : A → ℕ) (n : ℕ) (xs : List A) (i : ℕ) (x : A) → position (λ y. f y == n) xs ≡ Some i → x ≡ get_or xs i x → f x ≡ n
position_has f n xs i x is at = let test = (position-Some (λ y. f y == n) xs i x is).1 in ap f at ∙ eqb-true (f (get_or xs i x)) n test

-- what holds of all holds of what the list contains
pub at_contained : {A : Type 0} (P : A → Type 0) (xs : List A) (x : A) → All P xs → Contains xs x → P x
at_contained P xs x all has = subst P has.2 (all has.0 x has.1)

-- a number among those that a list is mapped to is that of an element
pub map_contained : {A : Type 0} (f : A → ℕ) (xs : List A) (n : ℕ) → Contains (map f xs) n → (x : A) × Contains xs x × (f x ≡ n)
map_contained f [] n has = absurd (let below = has.1 in omega arith)
map_contained f (x ∷ xs) n (zero, below, is) = (x, (0, omega arith, refl), is)
map_contained f (x ∷ xs) n (suc k, below, is) = let later = map_contained f xs n (k, omega arith, is) in let at = later.1 in (later.0, (suc at.0, omega (arith, at.1), at.2), later.2)

-- and the other way
pub contains_map : {A : Type 0} (f : A → ℕ) (xs : List A) (x : A) → Contains xs x → Contains (map f xs) (f x)
contains_map f xs x has = (has.0, omega (arith, has.1, length-map xs f), get_or-map f xs has.0 x (f x) has.1 ∙ ap f has.2)

-- what a list contains is its first element, or one of the rest
contains_split : {A : Type 0} (x y : A) (xs : List A) → Contains (y ∷ xs) x → (y ≡ x) ⊎ Contains xs x
contains_split x y xs (zero, below, is) = inl is
contains_split x y xs (suc k, below, is) = inr (k, omega arith, is)

-- all the passes are the first and the others
module _ {N P : Type 0} (held : P → Held N) (t : Lock N) (ps : List P) (first : P) (rest : List P) (whole : HoldAllOf held t ps) (parts : IsPermutation ps (first ∷ rest)) where
  -- each is the turnstile's
  ours : All (λ p. IsPassOf t (held p)) (first ∷ rest)
  ours = All-permutation (λ p. IsPassOf t (held p)) ps (first ∷ rest) parts whole.ours

  pub first_ours : IsPassOf t (held first)
  first_ours = ours 0 first (omega arith)

  pub rest_ours : All (λ p. IsPassOf t (held p)) rest
  rest_ours k d below = ours (suc k) d (omega arith)

  -- each number but the first's is among the others
  pub among_rest : (held first).number ≡ 0 → (n : ℕ) → 0 < n → n < t.seats → (p : P) × Contains rest p × ((held p).number ≡ n)
  among_rest zeroth n above below =
      let at = map_contained (λ (p : P). (held p).number) ps n (whole.every n below) in
      let split = contains_split at.0 first rest (Contains-permutation ps (first ∷ rest) at.0 parts at.1) in
      ⊎_elim (λ (is : first ≡ at.0). let same : (held first).number ≡ (held at.0).number = ap (λ (p : P). (held p).number) is in absurd (omega (arith, at.2))) (λ (has : Contains rest at.0). (at.0, has, at.2)) split

  -- each number but the first's is kept, where all the others are
  pub kept_numbers : (js : List Joined) → All (λ p. Contains js (joined_of (held p))) rest → (held first).number ≡ 0 → (made : ℕ) → made ≡ t.seats → (n : ℕ) → 0 < n → n < made → Contains (map (λ (j : Joined). j.number) js) n
  kept_numbers js kept zeroth made all n above below =
      let at = among_rest zeroth n above (omega arith) in
      let joined = at_contained (λ (p : P). Contains js (joined_of (held p))) rest at.0 kept at.1 in
      subst (λ (k : ℕ). Contains (map (λ (j : Joined). j.number) js) k) at.2 (contains_map (λ (j : Joined). j.number) js (joined_of (held at.0)) joined)

module _ {N : Type 0} (t : Lock N) (ps : List (Held N)) where
  -- the passes that `new` gave are all
  pub all_new : length ps ≡ t.seats → ((i : ℕ) (p : Held N) → slice_get ps i ≡ Some p → IsNewPass t i p) → AreAllOf t ps
  all_new many new = record {
    ours = λ k d below. (new k (get_or ps k d) (slice_get-get_or ps k d below)).0;
    every = λ n below. let inside : n < length ps = omega arith in let d = fresh_pass t.table t.name 0 in (
      n,
      omega (arith, length-map ps (λ p. p.number)),
      get_or-map (λ (p : Held N). p.number) ps n d n inside ∙ (new n (get_or ps n d) (slice_get-get_or ps n d inside)).1,
    );
  }

  -- a pass may change, if it stays the turnstile's and keeps its number
  pub all_after : (i : ℕ) (p : Held N) → i < length ps → IsPassOf t p → p.number ≡ (get_or ps i p).number → AreAllOf t ps → AreAllOf t (set ps i p)
  all_after i p inside ours same all = record {
    ours = λ k d below. dite (ℕ_discrete k i) (λ here. subst (λ (q : Held N). IsPassOf t q) (sym (ap (λ (j : ℕ). get_or (set ps i p) j d) here ∙ get_or-set_same ps i p d inside)) ours)
        (λ there. subst (λ (q : Held N). IsPassOf t q) (sym (get_or-set_other ps i k p d there)) (all.ours k d (let long = length-set ps i p in omega arith)));
    every = λ n below. subst (λ (numbers : List ℕ). Contains numbers n) (sym numbers_stay) (all.every n below);
  }
    where
      numbers_stay : map (λ (q : Held N). q.number) (set ps i p) ≡ map (λ (q : Held N). q.number) ps
      numbers_stay = map-set (λ (q : Held N). q.number) ps i p ∙ ap (set (map (λ (q : Held N). q.number) ps) i) (same ∙ sym (get_or-map (λ (q : Held N). q.number) ps i p 0 inside)) ∙ set-get_or (map (λ (q : Held N). q.number) ps) i 0

-- passes that were dealt are new
pub dealt : {N : Type 0} (t : Lock N) (ps : List (Held N)) → slice_get ps 0 ≡ Some (record (fresh_pass t.table t.name 0) { made = t.seats })
    → ((i : ℕ) (p : Held N) → 0 < i → slice_get ps i ≡ Some p → p ≡ fresh_pass t.table t.name i) → (i : ℕ) (p : Held N) → slice_get ps i ≡ Some p → IsNewPass t i p
dealt {N} t ps first others zero p at = let both : Some (record (fresh_pass t.table t.name 0) { made = t.seats }) ≡ Some p = sym first ∙ at in
    let is : record (fresh_pass t.table t.name 0) { made = t.seats } ≡ p = cc in subst (λ (q : Held N). IsNewPass t 0 q) is ((refl, refl, λ _. refl), refl, refl, refl)
dealt {N} t ps first others (suc i) p at = subst (λ (q : Held N). IsNewPass t (suc i) q) (sym (others (suc i) p (omega arith) at)) ((refl, refl, λ is. absurd (omega arith)), refl, refl, refl)
