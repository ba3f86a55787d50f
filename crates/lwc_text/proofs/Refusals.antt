-- The first of some refusals, in the order of numbers.
use Rattle.std.proofs.Common.{◌≡◌, ℕ, zero, suc, ◌+◌, ◌≤◌, ◌<◌, Bool, true, false, List, [], ◌∷◌, Option, Some, None, Ok, Err, refl, ap, ◌∙◌, arith, eqb}
use Rattle.std.proofs.lemmas.Bool.Decides.{nat_tests}
use Rattle.std.specs.List.{cons_option, filter_map, range_with_len}
use Rattle.lwc_types.specs.Outcomes.{Refusal, unless_refused}
use Rattle.lwc_text.specs.declared.fault.InputRule.{InputRule}

-- where nothing is refused from a number on, there is no refusal
pub none_refused : (refusal : ℕ → Option (Refusal InputRule)) (a n : ℕ) → ((i : ℕ) → a ≤ i → i < a + n → refusal i ≡ None) → filter_map refusal (range_with_len a n) ≡ []
none_refused refusal a zero none = refl
none_refused refusal a (suc n) none =
    ap (λ o. cons_option o (filter_map refusal (range_with_len (a + 1) n))) (none a (omega arith) (omega arith))
    ∙ none_refused refusal (a + 1) n (λ i low high. none i (omega arith) (omega arith))

first_by : {X : Type 0} (b : Bool) (refusal : ℕ → Option (Refusal InputRule)) (x : X) (a n at : ℕ) (r : Refusal InputRule) → eqb a at ≡ b → a ≤ at → ((i : ℕ) → a ≤ i → i < at → refusal i ≡ None) → refusal at ≡ Some r →
    (a + 1 ≤ at → unless_refused x (filter_map refusal (range_with_len (a + 1) n)) ≡ Err r) → unless_refused x (filter_map refusal (range_with_len a (suc n))) ≡ Err r
first_by true refusal x a n at r is low none here later =
    let same : a ≡ at = grind (arith, nat_tests) in
    ap (λ o. unless_refused x (cons_option o (filter_map refusal (range_with_len (a + 1) n)))) (ap refusal same ∙ here)
first_by false refusal x a n at r is low none here later =
    let less : a < at = grind (arith, nat_tests) in
    ap (λ o. unless_refused x (cons_option o (filter_map refusal (range_with_len (a + 1) n)))) (none a (omega arith) less) ∙ later (omega arith)

-- where nothing is refused before a number, the refusal there is the first
pub first_refused : {X : Type 0} (refusal : ℕ → Option (Refusal InputRule)) (x : X) (a n at : ℕ) (r : Refusal InputRule) → a ≤ at → at < a + n → ((i : ℕ) → a ≤ i → i < at → refusal i ≡ None) →
    refusal at ≡ Some r → unless_refused x (filter_map refusal (range_with_len a n)) ≡ Err r
first_refused refusal x a zero at r low high none here = absurd (omega arith)
first_refused refusal x a (suc n) at r low high none here =
    first_by (eqb a at) refusal x a n at r refl low none here
    (λ less. first_refused refusal x (a + 1) n at r less (omega arith) (λ i above below. none i (omega arith) below) here)

pub unless_none : {X : Type 0} (x : X) (found : List (Refusal InputRule)) → found ≡ [] → unless_refused x found ≡ Ok x
unless_none x found none = ap (unless_refused x) none

-- where a value was read, nothing was refused
pub read_by : {X : Type 0} (x y : X) (found : List (Refusal InputRule)) → unless_refused y found ≡ Ok x → (found ≡ []) × (y ≡ x)
read_by x y [] is = (refl, cc)
read_by x y (r ∷ found) is = absurd (cc)

none_here : (here : Option (Refusal InputRule)) (rest : List (Refusal InputRule)) → cons_option here rest ≡ [] → (here ≡ None) × (rest ≡ [])
none_here None rest none = (refl, none)
none_here (Some r) rest none = absurd (cc)

nothing_by : (refusal : ℕ → Option (Refusal InputRule)) (a i : ℕ) (b : Bool) → eqb a i ≡ b → a ≤ i → refusal a ≡ None → (a + 1 ≤ i → refusal i ≡ None) → refusal i ≡ None
nothing_by refusal a i true is low here later = let same : i ≡ a = grind (arith, nat_tests) in ap refusal same ∙ here
nothing_by refusal a i false is low here later = later (grind (arith, nat_tests))

-- where there is no refusal, nothing is refused
pub nothing_refused : (refusal : ℕ → Option (Refusal InputRule)) (a n : ℕ) → filter_map refusal (range_with_len a n) ≡ [] → (i : ℕ) → a ≤ i → i < a + n → refusal i ≡ None
nothing_refused refusal a zero none i low high = absurd (omega arith)
nothing_refused refusal a (suc n) none i low high =
    let both = none_here (refusal a) (filter_map refusal (range_with_len (a + 1) n)) none in
    nothing_by refusal a i (eqb a i) refl low both.0 (λ less. nothing_refused refusal (a + 1) n both.1 i less (omega arith))

clear_by : (refusal : ℕ → Option (Refusal InputRule)) (at i : ℕ) (b : Bool) → eqb i at ≡ b → i < at + 1 → refusal at ≡ None → (i < at → refusal i ≡ None) → refusal i ≡ None
clear_by refusal at i true is below here before = let same : i ≡ at = grind (arith, nat_tests) in ap refusal same ∙ here
clear_by refusal at i false is below here before = before (grind (arith, nat_tests))

-- where nothing is refused before a number nor at it, nothing is before the next one
pub clear_next : (refusal : ℕ → Option (Refusal InputRule)) (at : ℕ) → ((i : ℕ) → i < at → refusal i ≡ None) → refusal at ≡ None → (i : ℕ) → i < at + 1 → refusal i ≡ None
clear_next refusal at before here i below = clear_by refusal at i (eqb i at) refl below here (before i)
