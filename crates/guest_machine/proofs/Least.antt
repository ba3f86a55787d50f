-- The least number that passes a test.
use Rattle.std.proofs.Common.{◌≡◌, ℕ, zero, suc, ◌<◌, ◌≤◌, Bool, true, false, cond, ◌⊎◌, inl, inr, refl, ap, arith}
use Rattle.guest_machine.specs.Advances.{least}

pub least_is : (n : ℕ) (test : ℕ → Bool) (j : ℕ) → j ≤ n → ((k : ℕ) → k < j → test k ≡ false) → (test j ≡ true) ⊎ (j ≡ n) → least n test ≡ j
unfolding least
least_is zero test j le below at = omega arith
least_is (suc n) test zero le below (inl passes) = rw passes refl
least_is (suc n) test zero le below (inr last) = absurd cc
least_is (suc n) test (suc j) le below at =
    let later : least n (λ k. test (suc k)) ≡ j = least_is n (λ k. test (suc k)) j (omega arith) (λ k lt. below (suc k) (omega arith)) (elim at [ inl passes ↦ inl passes | inr last ↦ inr (omega arith) ]) in
    rw (below 0 (omega arith)) (ap suc later)

pub record IsLeast (n : ℕ) (test : ℕ → Bool) (j : ℕ) : Type 0 where
  pub within : j ≤ n
  pub below : (k : ℕ) → k < j → test k ≡ false
  pub at : (test j ≡ true) ⊎ (j ≡ n)

least_later : (n : ℕ) (test : ℕ → Bool) (b : Bool) → test 0 ≡ b → IsLeast n (λ k. test (suc k)) (least n (λ k. test (suc k))) → IsLeast (suc n) test (cond b 0 (suc (least n (λ k. test (suc k)))))
least_later n test true is later = record { within = omega arith; below = λ k lt. absurd (omega arith); at = inl is }
least_later n test false is later =
    record {
      within = omega (arith, later.within);
      below = below_later n test (least n (λ k. test (suc k))) is later.below;
      at = elim later.at [ inl passes ↦ inl passes | inr last ↦ inr (ap suc last) ];
    }
  where
    below_later : (n : ℕ) (test : ℕ → Bool) (j : ℕ) → test 0 ≡ false → ((k : ℕ) → k < j → test (suc k) ≡ false) → (k : ℕ) → k < suc j → test k ≡ false
    below_later n test j is below zero lt = is
    below_later n test j is below (suc k) lt = below k (omega arith)

pub least_is_least : (n : ℕ) (test : ℕ → Bool) → IsLeast n test (least n test)
unfolding least
least_is_least zero test = record { within = omega arith; below = λ k lt. absurd (omega arith); at = inr refl }
least_is_least (suc n) test = least_later n test (test 0) refl (least_is_least n (λ k. test (suc k)))
