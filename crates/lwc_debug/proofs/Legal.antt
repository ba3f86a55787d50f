-- Kept steps, and legal histories.
use Rattle.std.proofs.Common.{◌≡◌, ◌≤◌, ◌<◌, All, ℕ, zero, suc, refl, sym, ap, subst, ◌∙◌, Bool, true, false, cond, Some, List, [], ◌∷◌, length, arith}
use Rattle.std.specs.Prelude.{slice_get, take, unwrap_or}
use Rattle.std.proofs.lemmas.List.Elements.{All-cons, All-head, All-nil, All-tail}
use Rattle.kernel_core.proofs.Runs.{kept_twice}
use Rattle.kernel_core.specs.Histories.{IsLegal}
use Rattle.kernel_core.specs.Machine.{Machine, is_ended}
use Rattle.kernel_core.specs.Runs.{kept, run}
use Rattle.kernel_core.specs.Step.{step}

-- no more steps are kept than there are
kept_few : (m : Machine) (steps : List ℕ) → length (kept m steps) ≤ length steps
kept_few m [] = omega arith
kept_few m (t ∷ ts) = by (is_ended m t) (kept_few m ts) (kept_few (step m t) ts)
  where
    by : (b : Bool) → length (kept m ts) ≤ length ts → length (kept (step m t) ts) ≤ length ts → length (cond b (kept m ts) (t ∷ kept (step m t) ts)) ≤ length (t ∷ ts)
    by true here later = omega (arith, here)
    by false here later = omega (arith, later)

tail : (s t : ℕ) (xs ys : List ℕ) → s ∷ xs ≡ t ∷ ys → xs ≡ ys
tail s t xs ys same = ap rest same
  where
    rest : List ℕ → List ℕ
    rest [] = []
    rest (x ∷ zs) = zs

-- the first step of a legal history is made, and the rest is legal after it
first_made : (m : Machine) (t : ℕ) (ts : List ℕ) → IsLegal m (t ∷ ts) → (is_ended m t ≡ false) × IsLegal (step m t) ts
first_made m t ts legal = by (is_ended m t) refl legal
  where
    by : (b : Bool) → is_ended m t ≡ b → cond b (kept m ts) (t ∷ kept (step m t) ts) ≡ t ∷ ts → (is_ended m t ≡ false) × IsLegal (step m t) ts
    by true is same = let few = kept_few m ts in let many : length (kept m ts) ≡ suc (length ts) = ap length same in absurd (omega (arith, few, many))
    by false is same = (is, tail t t _ _ same)

pub goes_on : (m : Machine) (steps : List ℕ) (i t : ℕ) → IsLegal m steps → slice_get steps i ≡ Some t → is_ended (run m (take i steps)) t ≡ false
goes_on m [] i t legal found = cc
goes_on m (s ∷ ss) zero t legal found = subst (λ n. is_ended m n ≡ false) (ap (λ o. unwrap_or o s) found) (first_made m s ss legal).0
goes_on m (s ∷ ss) (suc i) t legal found = goes_on (step m s) ss i t (first_made m s ss legal).1 found

-- what holds of all steps holds of those that are kept
kept_hold : (P : ℕ → Type 0) (m : Machine) (steps : List ℕ) → All P steps → All P (kept m steps)
kept_hold P m [] each = All-nil P
kept_hold P m (t ∷ ts) each = by (is_ended m t) (kept_hold P m ts (All-tail P t ts each)) (kept_hold P (step m t) ts (All-tail P t ts each))
  where
    by : (b : Bool) → All P (kept m ts) → All P (kept (step m t) ts) → All P (cond b (kept m ts) (t ∷ kept (step m t) ts))
    by true here later = here
    by false here later = All-cons P t (kept (step m t) ts) (All-head P t ts each) later

-- the steps that are kept of a schedule
module _ (m : Machine) (schedule steps : List ℕ) (is : steps ≡ kept m schedule) where
  pub keeps_legal : IsLegal m steps
  keeps_legal = ap (kept m) is ∙ kept_twice m schedule ∙ sym is

  pub keeps_few : length steps ≤ length schedule
  keeps_few = omega (arith, ap length is, kept_few m schedule)

  pub keeps_threads : (count : ℕ) → All (λ t. t < count) schedule → All (λ t. t < count) steps
  keeps_threads count each = subst (All (λ t. t < count)) (sym is) (kept_hold (λ t. t < count) m schedule each)

pub ruleset keeping = (keeps_legal, keeps_few, keeps_threads)
