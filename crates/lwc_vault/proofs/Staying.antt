-- No descriptor ever opens the vault, in a run from a start with one.
use Rattle.std.proofs.Common.{◌≡◌, ◌≢◌, inl, inr, ℕ, ◌+◌, ◌≤◌, refl, sym, ap, subst, ◌∙◌, Bool, true, false, cond, ltb, Some, None, List, [], ◌∷◌, length, arith}
use Rattle.std.proofs.lemmas.Bool.{false≢true, ltb-true}
use Rattle.std.specs.Prelude.{slice_get}
use Rattle.guest_call.specs.Guest.{descriptor_for}
use Rattle.guest_image.specs.Limits.{pages_of}
use Rattle.guest_image.specs.declared.image.Form.{Form}
use Rattle.guest_image.specs.declared.image.Form.TheVariants.{One, Two}
use Rattle.guest_image.specs.declared.image.Vault.{Vault}
use Rattle.confinement.proofs.Confining.{confined, ready_thread}
use Rattle.confinement.proofs.Left.{empty_lacks, no_key}
use Rattle.kernel_core.proofs.HomeStart.{ready_start}
use Rattle.kernel_core.proofs.ReadyMachines.{ready_machine}
use Rattle.kernel_core.proofs.ReadyRuns.{ready_run}
use Rattle.kernel_core.proofs.VaultReady.{no_descriptor}
use Rattle.kernel_core.specs.Kernel.{CanOpen}
use Rattle.kernel_core.specs.Machine.{Machine}
use Rattle.kernel_core.specs.Ready.{IsReady, IsRunnable, WhileRunning}
use Rattle.kernel_core.specs.Runs.{run}
use Rattle.kernel_core.specs.Start.{Inputs, first_name, serve_at, start, start_world, vault_name, vault_so_far, with_vault, world_for}
use Rattle.kernel_core.specs.Step.{step}
use Rattle.kernel_core.specs.declared.thread.Thread.{Thread}
use Rattle.lwc_base.specs.Capabilities.{empty_cap, has_key}
use Rattle.lwc_base.specs.Cells.{slot_at, value_at, value_of}
use Rattle.lwc_base.specs.World.{World, is_live}
use Rattle.lwc_base.specs.declared.descriptor.Cap.{Cap}
use Rattle.lwc_base.specs.declared.descriptor.Descriptor.TheVariants.{Ctx, Empty}
use Rattle.lwc_base.specs.Life.{is_of}
use Rattle.lwc_base.proofs.Lookups.{context-dead}
use Rattle.lwc_base.proofs.Slots.{put_slot-reads}
use Rattle.lwc_types.specs.declared.key.TheConstants.{SLOTS}
use Rattle.lwc_types.specs.declared.fault.ThreadStatus.{ThreadStatus}
use Rattle.lwc_types.specs.declared.fault.ThreadStatus.TheVariants.{Running}
use Rattle.lwc_types.specs.declared.key.Key.TheVariants.{Slot}
use Rattle.lwc_types.specs.declared.limits.TheConstants.{MOST_PAGES}
use Rattle.lwc_types.specs.declared.name.Name.{Name}
use Rattle.lwc_vault.proofs.Telling.{ActOutside}
use Rattle.lwc_vault.specs.Blanks.{ActsOutside, IsShutWorld}
use Rattle.lwc_vault.specs.Secrets.{StandOutside, StandsOutside, beside}
use Rattle.world_views.specs.Outside.{IsShut, LacksKeys}

-- a context that is not live has no descriptor
none_of_dead : (w : World) (e : Name) (n : ℕ) (cap : Cap) → is_live w e ≡ false → slot_at w e n ≡ Ctx vault_name cap → ⊥
unfolding value_at
none_of_dead w e n cap dead is =
    let none : slot_at w e n ≡ Empty = ap (λ x. value_of w (Slot n) (x.cell (Slot n))) (context-dead w e dead) in
    let no : Ctx vault_name cap ≡ Empty = sym is ∙ none in cc

module _ (inputs : Inputs) where
  -- a thread that runs has a job of its own
  some_job : (k t : ℕ) (m : Machine) (x : Thread) → IsReady inputs k m → slice_get m.threads t ≡ Some x → x.status ≡ Running → x.job ≢ 0
  some_job k t m x ready found runs none =
      let runnable : IsRunnable m.environment.world x = subst (λ (s : ThreadStatus). WhileRunning s (IsRunnable m.environment.world x)) runs (ready_thread inputs k t m x ready found).runs in
      omega (arith, runnable.some_job, none)

  -- a step opens no vault
  pub step-shut : (k t : ℕ) (m : Machine) → IsReady inputs k m → IsShutWorld m.environment.world → IsShutWorld (step m t).environment.world
  step-shut k t m ready shut e n cap slot is key there = by (is_live (step m t).environment.world e) refl
    where
      by : (b : Bool) → is_live (step m t).environment.world e ≡ b → has_key cap key ≡ false
      by true live =
          no_key m t (step m t) (confined inputs k m t ready) e vault_name n cap key live slot is there
          (λ x calls same. some_job k t m x ready calls.found calls.running (sym (ap (λ (c : Name). c.job) same)))
          (λ f i old within stands. shut f i old within stands key there)
      by false dead = absurd (none_of_dead (step m t).environment.world e n cap dead is)

  pub ready_next : (k t : ℕ) (m : Machine) → IsReady inputs k m → IsReady inputs (k + 1) (step m t)
  ready_next k t m ready = ready_run inputs k (t ∷ []) m ready

  pub run-shut : (k : ℕ) (m : Machine) (ts : List ℕ) → IsReady inputs k m → IsShutWorld m.environment.world → IsShutWorld (run m ts).environment.world
  run-shut k m [] ready shut = shut
  run-shut k m (t ∷ ts) ready shut = run-shut (k + 1) (step m t) ts (ready_next k t m ready) (step-shut k t m ready shut)

  some_page : (form : Form) → (1 ≤ pages_of form) × (pages_of form ≤ MOST_PAGES)
  some_page One = (omega arith, omega arith)
  some_page Two = (omega arith, omega arith)

  -- who does not stand in the vault is outside it
  pub outside-at : (k t : ℕ) (m : Machine) → IsReady inputs k m → IsShutWorld m.environment.world → StandsOutside m t → ActsOutside m t
  unfolding descriptor_for
  outside-at k t m ready shut stands x found runs = record {
    context = stands x found;
    new = λ same. some_job k t m x ready found runs (ap (λ (n : Name). n.job) same);
    shut = no_opening;
    pages = subst (λ (n : ℕ). (1 ≤ n) × (n ≤ MOST_PAGES)) (sym (ap (λ size. size.pages) ready.size)) (some_page inputs.image.form);
  }
    where
      opening : (n : ℕ) (cap : Cap) (b : Bool) → ltb n SLOTS ≡ b → cond b (slot_at m.environment.world x.context n) Empty ≡ Ctx vault_name cap → LacksKeys cap
      opening n cap true within is = shut x.context n cap (ltb-true n SLOTS within) is
      opening n cap false past is = cc

      no_opening : IsShut vault_name x.context m.environment.world
      no_opening n cap is = opening n cap (ltb n SLOTS) refl is

  pub act-outside : (k : ℕ) (m : Machine) (ts : List ℕ) → IsReady inputs k m → IsShutWorld m.environment.world → StandOutside m ts → ActOutside m ts
  act-outside k m [] ready shut stand = tt
  act-outside k m (t ∷ ts) ready shut stand = (
    outside-at k t m ready shut stand.0,
    act-outside (k + 1) (step m t) ts (ready_next k t m ready) (step-shut k t m ready shut) stand.1,
  )

module _ (inputs : Inputs) (v : Vault) (can : CanOpen (beside inputs v)) where
  abbrev world_there : World
  world_there = with_vault (start_world inputs.image inputs.settings.frames) v

  none_before : (e : Name) (n : ℕ) (cap : Cap) → slot_at (vault_so_far (start_world inputs.image inputs.settings.frames) v.entry v.pages) e n ≡ Ctx vault_name cap → ⊥
  none_before e n cap is = by (is_live (vault_so_far (start_world inputs.image inputs.settings.frames) v.entry v.pages) e) refl
    where
      by : (b : Bool) → is_live (vault_so_far (start_world inputs.image inputs.settings.frames) v.entry v.pages) e ≡ b → ⊥
      by true live =
          false≢true (sym (no_descriptor inputs.image can.image v can.vault.vault inputs.settings.frames can.fits vault_name e n live) ∙ ap (is_of vault_name) is)
      by false dead = none_of_dead _ e n cap dead is

  shut_there : IsShutWorld world_there
  unfolding with_vault
  shut_there e n cap slot is key there =
      elim (put_slot-reads (vault_so_far (start_world inputs.image inputs.settings.frames) v.entry v.pages) first_name 63 (Ctx vault_name empty_cap) e n) [
        | inl same ↦ absurd (none_before e n cap (sym same ∙ is))
        | inr put ↦ let same : Ctx vault_name cap ≡ Ctx vault_name empty_cap = sym is ∙ put.0 in
            let none : cap ≡ empty_cap = cc in ap (λ c. has_key c key) none ∙ empty_lacks key
      ]

  pub start-shut : IsShutWorld (start (beside inputs v)).environment.world
  unfolding start
  start-shut = subst (λ job. IsShutWorld (with_vault (world_for inputs.image inputs.settings.frames job) v)) (sym can.vault.run) shut_there

-- no descriptor opens the vault after any steps
pub stays-shut : (inputs : Inputs) (v : Vault) (steps : List ℕ) → CanOpen (beside inputs v) → IsShutWorld (run (start (beside inputs v)) steps).environment.world
stays-shut inputs v steps can = run-shut (beside inputs v) 0 (start (beside inputs v)) steps (ready_start (beside inputs v) can) (start-shut inputs v can)

pub acts-outside : (inputs : Inputs) (v : Vault) (steps : List ℕ) (t : ℕ) → CanOpen (beside inputs v) → StandsOutside (run (start (beside inputs v)) steps) t →
    ActsOutside (run (start (beside inputs v)) steps) t
acts-outside inputs v steps t can stands =
    outside-at (beside inputs v) _ t (run (start (beside inputs v)) steps) (ready_machine (beside inputs v) steps can)
    (stays-shut inputs v steps can) stands

-- a run's start is no serve
pub no_serve : (inputs : Inputs) (v : Vault) → CanOpen (beside inputs v) → (start (beside inputs v)).serve ≡ None
unfolding start
no_serve inputs v can = ap (λ job. serve_at job inputs.settings.budget (length inputs.requests)) can.vault.run

pub all-outside : (inputs : Inputs) (v : Vault) (steps : List ℕ) → CanOpen (beside inputs v) → StandOutside (start (beside inputs v)) steps → ActOutside (start (beside inputs v)) steps
all-outside inputs v steps can stand =
    act-outside (beside inputs v) 0 (start (beside inputs v)) steps (ready_start (beside inputs v) can) (start-shut inputs v can) stand
