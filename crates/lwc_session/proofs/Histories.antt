-- The steps of one worker, one after another.
use Rattle.std.proofs.Common.{◌≡◌, ◌+◌, ◌-◌, ◌≤◌, ℕ, zero, suc, Bool, true, false, cond, List, [], ◌∷◌, ◌++◌, Option, None, Some, refl, replicate, sym, ap, ◌∙◌, arith}
use Rattle.std.specs.Option.{option_or}
use Rattle.guest_image.specs.declared.image.PageImage.{PageImage}
use Rattle.kernel_core.proofs.Runs.{run_kept}
use Rattle.kernel_core.specs.Machine.{Machine, is_ended}
use Rattle.kernel_core.specs.Runs.{kept, run}
use Rattle.kernel_core.specs.Step.{step}
use Rattle.lwc_text.proofs.Replays.{kept-push}
use Rattle.lwc_session.specs.Served.{left_by, left_in}

-- one step more at the end of many alike
pub one_more : (n : ℕ) → replicate {A = ℕ} (suc n) 0 ≡ replicate {A = ℕ} n 0 ++ 0 ∷ []
one_more zero = refl
one_more (suc n) = ap (λ (l : List ℕ). 0 ∷ l) (one_more n)

-- a worker that has ended makes no more of its steps
pub rests : (m : Machine) (n j : ℕ) → kept m (replicate {A = ℕ} n 0) ≡ replicate {A = ℕ} n 0 → is_ended (run m (replicate {A = ℕ} n 0)) 0 ≡ true → kept m (replicate {A = ℕ} (n + j) 0) ≡ replicate {A = ℕ} n 0
rests m n zero legal ended = ap (λ (k : ℕ). kept m (replicate {A = ℕ} k 0)) (omega arith) ∙ legal
rests m n (suc j) legal ended =
    let here = rests m n j legal ended in
    let next : n + suc j ≡ suc (n + j) = omega arith in
    ap (λ (k : ℕ). kept m (replicate {A = ℕ} k 0)) next
    ∙ ap (kept m) (one_more (n + j)) ∙ kept-push m (replicate {A = ℕ} (n + j) 0) 0
    ∙ ap (λ (l : List ℕ). cond (is_ended (run m l) 0) l (l ++ 0 ∷ [])) here
    ∙ ap (λ (b : Bool). cond b (replicate {A = ℕ} n 0) (replicate {A = ℕ} n 0 ++ 0 ∷ [])) ended

-- one that has not ended makes one step more
pub goes_on : (m : Machine) (n : ℕ) → kept m (replicate {A = ℕ} n 0) ≡ replicate {A = ℕ} n 0 → is_ended (run m (replicate {A = ℕ} n 0)) 0 ≡ false → kept m (replicate {A = ℕ} (suc n) 0) ≡ replicate {A = ℕ} (suc n) 0
goes_on m n legal not_ended =
    ap (kept m) (one_more n) ∙ kept-push m (replicate {A = ℕ} n 0) 0
    ∙ ap (λ (l : List ℕ). cond (is_ended (run m l) 0) l (l ++ 0 ∷ [])) legal
    ∙ ap (λ (b : Bool). cond b (replicate {A = ℕ} n 0) (replicate {A = ℕ} n 0 ++ 0 ∷ [])) not_ended
    ∙ sym (one_more n)

-- the pages that steps leave, with one step more
pub left_more : (m : Machine) (ts : List ℕ) (t : ℕ) (before : Option (List PageImage)) →
    left_in m (ts ++ t ∷ []) before ≡ option_or (left_by (run m ts)) (left_in m ts before)
left_more m [] t before = refl
left_more m (s ∷ ts) t before = left_more (step m s) ts t (option_or (left_by m) before)

-- steps of worker 0, all of which are kept
pub record AreMade (m : Machine) (steps : List ℕ) : Type 0 where
  pub count : ℕ
  pub alike : steps ≡ replicate {A = ℕ} count 0
  pub legal : kept m (replicate {A = ℕ} count 0) ≡ replicate {A = ℕ} count 0
