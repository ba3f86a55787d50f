-- The steps of a schedule under guards, one after another.
use Rattle.std.proofs.Common.{◌≡◌, ◌≤◌, ◌+◌, ◌-◌, ◌<◌, ℕ, Bool, true, false, cond, List, [], ◌∷◌, ◌++◌, length, take, get_or, refl, sym, ap, ◌∙◌, arith}
use Rattle.std.proofs.lemmas.List.{take_more}
use Rattle.guest_image.specs.declared.image.Image.{Image}
use Rattle.kernel_core.specs.Kernel.{History}
use Rattle.kernel_core.specs.Machine.{is_ended}
use Rattle.kernel_core.specs.Start.{Inputs, inputs_of, thread_count, threads_for}
use Rattle.kernel_core.specs.declared.settings.Job.{Job}
use Rattle.kernel_core.specs.declared.settings.Job.TheVariants as job
use Rattle.kernel_core.specs.declared.settings.Settings.{Settings}
use Rattle.lwc_guard.proofs.Steadying.{longer}
use Rattle.lwc_guard.specs.Reports.{begun}
use Rattle.lwc_guard.specs.Steady.{state_of, stepped_guarded}
use Rattle.lwc_guard.specs.Steps.{Guarded, kept_guarded, guarded_step, run_guarded}

-- the kept steps with one more, unless its thread has ended by then
abbrev with_step : Guarded → ℕ → List ℕ → List ℕ
with_step s t ks = cond (is_ended (run_guarded s ks).machine t) ks (ks ++ t ∷ [])

cons-cond : (b : Bool) (s : ℕ) (xs ys : List ℕ) → s ∷ cond b xs ys ≡ cond b (s ∷ xs) (s ∷ ys)
cons-cond true s xs ys = refl
cons-cond false s xs ys = refl

push_by : (s : Guarded) (u : ℕ) (ts : List ℕ) (t : ℕ) → kept_guarded s (ts ++ t ∷ []) ≡ with_step s t (kept_guarded s ts) →
    kept_guarded (guarded_step s u) (ts ++ t ∷ []) ≡ with_step (guarded_step s u) t (kept_guarded (guarded_step s u) ts) →
    (b : Bool) → is_ended s.machine u ≡ b → kept_guarded s (u ∷ (ts ++ t ∷ [])) ≡ with_step s t (kept_guarded s (u ∷ ts))
push_by s u ts t here there true e =
    ap (λ b. cond b (kept_guarded s (ts ++ t ∷ [])) (u ∷ kept_guarded (guarded_step s u) (ts ++ t ∷ []))) e ∙ here
    ∙ ap (with_step s t) (sym (ap (λ b. cond b (kept_guarded s ts) (u ∷ kept_guarded (guarded_step s u) ts)) e))
push_by s u ts t here there false e =
    ap (λ b. cond b (kept_guarded s (ts ++ t ∷ [])) (u ∷ kept_guarded (guarded_step s u) (ts ++ t ∷ []))) e ∙ ap (λ l. u ∷ l) there
    ∙ cons-cond (is_ended (run_guarded (guarded_step s u) (kept_guarded (guarded_step s u) ts)).machine t) u (kept_guarded (guarded_step s u) ts) (kept_guarded (guarded_step s u) ts ++ t ∷ [])
    ∙ ap (with_step s t) (sym (ap (λ b. cond b (kept_guarded s ts) (u ∷ kept_guarded (guarded_step s u) ts)) e))

kept-push : (s : Guarded) (ts : List ℕ) (t : ℕ) → kept_guarded s (ts ++ t ∷ []) ≡ with_step s t (kept_guarded s ts)
kept-push s [] t = refl
kept-push s (u ∷ ts) t = push_by s u ts t (kept-push s ts t) (kept-push (guarded_step s u) ts t) (is_ended s.machine u) refl

-- the first i steps of a schedule have been made
pub record HasRun (before now : History) (schedule : List ℕ) (i : ℕ) : Type 0 where
  pub inputs : now.inputs ≡ before.inputs
  pub steps : now.steps ≡ kept_guarded (begun before.inputs) (take i schedule)
  pub room : length schedule ≤ now.room + i

module _ (before now next : History) (schedule : List ℕ) (i t : ℕ) (so_far : HasRun before now schedule i) (inside : i < length schedule) (is : t ≡ get_or schedule i 0) where
  kept_next : kept_guarded (begun before.inputs) (take (i + 1) schedule) ≡ cond (is_ended (state_of now).machine t) now.steps (now.steps ++ t ∷ [])
  unfolding state_of
  kept_next =
      ap (kept_guarded (begun before.inputs)) (take_more schedule i 0 inside ∙ ap (λ x. take i schedule ++ x ∷ []) (sym is))
      ∙ kept-push (begun before.inputs) (take i schedule) t
      ∙ ap (with_step (begun before.inputs) t) (sym so_far.steps)
      ∙ ap (λ (inputs : Inputs). with_step (begun inputs) t now.steps) (sym so_far.inputs)

  run_by : (b : Bool) → is_ended (state_of now).machine t ≡ b → next ≡ cond b now (longer now t) → (b ≡ false → 0 < now.room) → HasRun before next schedule (i + 1)
  run_by true e moves some = record {
    inputs = ap (λ (h : History). h.inputs) moves ∙ so_far.inputs;
    steps = ap (λ (h : History). h.steps) moves ∙ sym (kept_next ∙ ap (λ b. cond b now.steps (now.steps ++ t ∷ [])) e);
    room = (let same : next.room ≡ now.room = ap (λ (h : History). h.room) moves in omega (arith, so_far.room, same));
  }
  run_by false e moves some = record {
    inputs = ap (λ (h : History). h.inputs) moves ∙ so_far.inputs;
    steps = ap (λ (h : History). h.steps) moves ∙ sym (kept_next ∙ ap (λ b. cond b now.steps (now.steps ++ t ∷ [])) e);
    room = (let same : next.room ≡ now.room - 1 = ap (λ (h : History). h.room) moves in omega (arith, so_far.room, same, some refl));
  }

  -- one more step of a schedule has been made
  pub runs_on : next ≡ stepped_guarded now t → HasRun before next schedule (i + 1)
  unfolding stepped_guarded
  runs_on moves = run_by (is_ended (state_of now).machine t) refl moves (λ going. omega (arith, so_far.room, inside))

-- the number of threads of a run
pub count-is : (image : Image) (settings : Settings) → settings.job ≡ job.Run → thread_count (inputs_of image [] settings) ≡ length image.entries
unfolding thread_count
count-is image settings run = ap (λ (j : Job). threads_for image j) run
