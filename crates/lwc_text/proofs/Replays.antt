-- Runs of a schedule, one step after another.
use Rattle.std.proofs.Common.{◌≡◌, ◌≤◌, ◌+◌, ℕ, Bool, true, false, cond, List, [], ◌∷◌, ◌++◌, length, take, get_or, ◌<◌, ◌-◌, refl, sym, ap, ◌∙◌, arith}
use Rattle.std.proofs.lemmas.List.{take_more}
use Rattle.kernel_core.specs.Kernel.{History, machine_of, stepped}
use Rattle.kernel_core.specs.Machine.{Machine, is_ended}
use Rattle.kernel_core.specs.Runs.{run, kept}
use Rattle.kernel_core.specs.Start.{Inputs, start}
use Rattle.kernel_core.specs.Step.{step}
use Rattle.lwc_text.specs.Report.{report_after, report_of_schedule}

skips : (m : Machine) (s : ℕ) (xs : List ℕ) → is_ended m s ≡ true → kept m (s ∷ xs) ≡ kept m xs
skips m s xs e = ap (λ b. cond b (kept m xs) (s ∷ kept (step m s) xs)) e

keeps : (m : Machine) (s : ℕ) (xs : List ℕ) → is_ended m s ≡ false → kept m (s ∷ xs) ≡ s ∷ kept (step m s) xs
keeps m s xs e = ap (λ b. cond b (kept m xs) (s ∷ kept (step m s) xs)) e

cons-cond : (b : Bool) (s : ℕ) (xs ys : List ℕ) → s ∷ cond b xs ys ≡ cond b (s ∷ xs) (s ∷ ys)
cons-cond true s xs ys = refl
cons-cond false s xs ys = refl

-- the kept steps with one more, unless its thread has ended by then
abbrev with_step : Machine → ℕ → List ℕ → List ℕ
with_step m t ks = cond (is_ended (run m ks) t) ks (ks ++ t ∷ [])

push_by : (m : Machine) (s : ℕ) (ts : List ℕ) (t : ℕ) → kept m (ts ++ t ∷ []) ≡ with_step m t (kept m ts) → kept (step m s) (ts ++ t ∷ []) ≡ with_step (step m s) t (kept (step m s) ts) →
    (b : Bool) → is_ended m s ≡ b → kept m (s ∷ (ts ++ t ∷ [])) ≡ with_step m t (kept m (s ∷ ts))
push_by m s ts t here there true e = skips m s (ts ++ t ∷ []) e ∙ here ∙ ap (with_step m t) (sym (skips m s ts e))
push_by m s ts t here there false e =
    keeps m s (ts ++ t ∷ []) e ∙ ap (λ l. s ∷ l) there
    ∙ cons-cond (is_ended (run (step m s) (kept (step m s) ts)) t) s (kept (step m s) ts) (kept (step m s) ts ++ t ∷ [])
    ∙ ap (with_step m t) (sym (keeps m s ts e))

-- one more step is kept unless its thread has ended by then
pub kept-push : (m : Machine) (ts : List ℕ) (t : ℕ) → kept m (ts ++ t ∷ []) ≡ cond (is_ended (run m (kept m ts)) t) (kept m ts) (kept m ts ++ t ∷ [])
kept-push m [] t = refl
kept-push m (s ∷ ts) t = push_by m s ts t (kept-push m ts t) (kept-push (step m s) ts t) (is_ended m s) refl

-- the first i steps of a schedule have been made
pub record HasRun (before now : History) (schedule : List ℕ) (i : ℕ) : Type 0 where
  pub inputs : now.inputs ≡ before.inputs
  pub steps : now.steps ≡ kept (start before.inputs) (take i schedule)
  pub room : length schedule ≤ now.room + i

-- a history with one more step
abbrev one_more : History → ℕ → History
one_more h t = record h { steps = h.steps ++ t ∷ []; room = h.room - 1 }

module _ (before now next : History) (schedule : List ℕ) (i t : ℕ) (so_far : HasRun before now schedule i) (inside : i < length schedule) (is : t ≡ get_or schedule i 0) where
  -- the steps that are kept with the next one
  kept_next : kept (start before.inputs) (take (i + 1) schedule) ≡ cond (is_ended (machine_of now) t) now.steps (now.steps ++ t ∷ [])
  unfolding machine_of
  kept_next =
      ap (kept (start before.inputs)) (take_more schedule i 0 inside ∙ ap (λ x. take i schedule ++ x ∷ []) (sym is))
      ∙ kept-push (start before.inputs) (take i schedule) t
      ∙ ap (with_step (start before.inputs) t) (sym so_far.steps)
      ∙ ap (λ inputs. with_step (start inputs) t now.steps) (sym so_far.inputs)

  run_by : (b : Bool) → is_ended (machine_of now) t ≡ b → next ≡ cond b now (one_more now t) → (is_ended (machine_of now) t ≡ false → next.room + 1 ≡ now.room) → HasRun before next schedule (i + 1)
  run_by true e moves room = record {
    inputs = ap (λ h. h.inputs) moves ∙ so_far.inputs;
    steps = ap (λ h. h.steps) moves ∙ sym (kept_next ∙ ap (λ b. cond b now.steps (now.steps ++ t ∷ [])) e);
    room = (let same : next.room ≡ now.room = ap (λ h. h.room) moves in omega (arith, so_far.room, same));
  }
  run_by false e moves room = record {
    inputs = ap (λ h. h.inputs) moves ∙ so_far.inputs;
    steps = ap (λ h. h.steps) moves ∙ sym (kept_next ∙ ap (λ b. cond b now.steps (now.steps ++ t ∷ [])) e);
    room = omega (arith, so_far.room, room e);
  }

  -- one more step of a schedule has been made
  pub runs_on : next ≡ stepped now t → (is_ended (machine_of now) t ≡ false → next.room + 1 ≡ now.room) → HasRun before next schedule (i + 1)
  unfolding stepped
  runs_on moves room = run_by (is_ended (machine_of now) t) refl moves room

-- the report of a history is the text of its inputs and the schedule
pub text_is : (h : History) (inputs : Inputs) (schedule text : List ℕ) → h.inputs ≡ inputs → h.steps ≡ kept (start inputs) schedule → text ≡ report_after h.inputs h.steps → text ≡ report_of_schedule inputs schedule
unfolding report_of_schedule
text_is h inputs schedule text given made is =
    is ∙ ap (λ (x : Inputs). report_after x h.steps) given ∙ ap (λ steps. report_after inputs steps) made
