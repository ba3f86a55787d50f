-- No thread stands in the vault before an accepted switch to it.
use Rattle.std.proofs.Common.{◌≡◌, ℕ, zero, suc, ◌+◌, Option, Some, None, List, [], ◌∷◌, refl, sym, ap, subst, ◌∙◌, arith}
use Rattle.std.specs.Prelude.{map, slice_get}
use Rattle.std.specs.List.{enumerate_from}
use Rattle.confinement.proofs.Standing.{NotIn, no_thread_moves, stands_elsewhere}
use Rattle.confinement.specs.May.{IsGiven}
use Rattle.guest_image.specs.declared.image.Vault.{Vault}
use Rattle.kernel_core.proofs.HomeStart.{ready_start}
use Rattle.kernel_core.proofs.ReadyRuns.{ready_run}
use Rattle.kernel_core.specs.Kernel.{CanOpen}
use Rattle.kernel_core.specs.Machine.{Machine, Serve}
use Rattle.kernel_core.specs.Ready.{IsReady}
use Rattle.kernel_core.specs.Start.{Inputs, first_name, first_thread, first_threads, start, threads_at, vault_name}
use Rattle.kernel_core.specs.Step.{step}
use Rattle.kernel_core.specs.declared.settings.Job.{Job}
use Rattle.kernel_core.specs.declared.settings.Job.TheVariants.{Run}
use Rattle.kernel_core.specs.declared.thread.Thread.{Thread}
use Rattle.lwc_types.specs.declared.name.Name.{Name}
use Rattle.lwc_vault.proofs.Staying.{no_serve}
use Rattle.lwc_vault.proofs.Telling.{stays_run}
use Rattle.lwc_vault.specs.Secrets.{Enters, NoneEnters, StandOutside, beside}

module _ (inputs : Inputs) where
  -- a step that does not enter the vault leaves it without threads
  none_after : (k t : ℕ) (m : Machine) → IsReady inputs k m → m.serve ≡ None → NotIn m vault_name → (Enters m t → ⊥) → NotIn (step m t) vault_name
  none_after k t m ready run others enters = by (slice_get m.threads t) refl
    where
      no_serves : (P : Type 0) (s : Serve) → m.serve ≡ Some s → P
      no_serves P s is = let none : None ≡ Some s = sym run ∙ is in absurd cc

      by : (o : Option Thread) → slice_get m.threads t ≡ o → NotIn (step m t) vault_name
      by None none = no_thread_moves m t vault_name none others
      by (Some x) found =
          stands_elsewhere inputs k m t ready x found vault_name others
          (λ d cap calls given same. enters (x, calls, (cap, subst (λ (n : Name). IsGiven m x n cap) same given)))
          (λ s is. no_serves _ s is) (λ idle s is. no_serves _ s is)

  never_inside : (k : ℕ) (m : Machine) (ts : List ℕ) → IsReady inputs k m → m.serve ≡ None → NotIn m vault_name → NoneEnters m ts → StandOutside m ts
  never_inside k m [] ready run others none = tt
  never_inside k m (t ∷ ts) ready run others none = (
    others t,
    never_inside (k + 1) (step m t) ts (ready_run inputs k (t ∷ []) m ready) (stays_run m t run) (none_after k t m ready run others none.0) none.1,
  )

-- the threads of a run's start stand in its first context
first_stand : (budget i : ℕ) (entries : List ℕ) (u : ℕ) (z : Thread) → slice_get (map (λ (e : ℕ × ℕ). first_thread budget e.0 e.1) (enumerate_from i entries)) u ≡ Some z → z.context ≡ first_name
first_stand budget i [] u z is = absurd cc
first_stand budget i (e ∷ es) zero z is = let one : first_thread budget i e ≡ z = cc in ap (λ (x : Thread). x.context) (sym one)
first_stand budget i (e ∷ es) (suc u) z is = first_stand budget (i + 1) es u z is

pub none_at_first : (inputs : Inputs) (v : Vault) → CanOpen (beside inputs v) → NotIn (start (beside inputs v)) vault_name
unfolding start first_threads
none_at_first inputs v can u z found same =
    let at : slice_get (threads_at inputs.image inputs.settings.budget Run) u ≡ Some z =
    ap (λ (job : Job). slice_get (threads_at inputs.image inputs.settings.budget job) u) (sym can.vault.run) ∙ found in
    let there : first_name ≡ vault_name = sym (first_stand inputs.settings.budget 0 inputs.image.entries u z at) ∙ same in
    let place : 0 ≡ 1 = ap (λ (n : Name). n.k) there in omega (arith, place)

pub outside_by_switches : (inputs : Inputs) (v : Vault) (steps : List ℕ) → CanOpen (beside inputs v) → NoneEnters (start (beside inputs v)) steps → StandOutside (start (beside inputs v)) steps
outside_by_switches inputs v steps can none =
    never_inside (beside inputs v) 0 (start (beside inputs v)) steps (ready_start (beside inputs v) can) (no_serve inputs v can) (none_at_first inputs v can) none
