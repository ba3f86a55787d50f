-- A step that ends its thread by a fault, but for the one of a budget that is used up, changes nothing but the thread.
use Rattle.std.proofs.Common.{◌≡◌, ◌≢◌, ◌⊎◌, inl, inr, ℕ, Bool, true, false, cond, eqb, Some, refl, sym, subst, ◌∙◌}
use Rattle.std.specs.Prelude.{slice_get}
use Rattle.std.specs.Int.{w64, to_le_bytes}
use Rattle.guest_isa.specs.declared.instr.Instr.{Instr}
use Rattle.guest_isa.specs.declared.op.Op.{Op}
use Rattle.guest_isa.specs.declared.op.Op.TheVariants.{Halt, Ldb, Ldw, Stb, Stw, Sys}
use Rattle.guest_machine.specs.Advances.{advanced}
use Rattle.guest_machine.specs.declared.progress.Next.{Next}
use Rattle.guest_machine.specs.declared.progress.Next.TheVariants.{BadPc, Pause, Shared}
use Rattle.kernel_core.proofs.Others.{step_leaves}
use Rattle.kernel_core.specs.Machine.{Environment, Machine}
use Rattle.kernel_core.specs.Refused.{advanced_thread}
use Rattle.kernel_core.specs.Step.{Outcome, advance_outcome, answered, create_outcome, guest_calls, is_aligned, next_outcome, overlay_outcome, plain_outcome, plainly, restrict_outcome, shared_outcome, status_with, step, store_outcome, stored_outcome, switch_outcome, switched, syscall_outcome, word_outcome}
use Rattle.kernel_core.specs.declared.calling.TheConstants.{LW_CREATE, LW_OVERLAY, LW_RESTRICT, LW_SWITCH, LW_SYSCALL}
use Rattle.kernel_core.specs.declared.thread.Thread.{Thread}
use Rattle.lwc_base.specs.declared.answer.Answer.{Answer}
use Rattle.lwc_base.specs.declared.answer.Answer.TheVariants as answers
use Rattle.lwc_base.specs.declared.answer.Moved.{Moved}
use Rattle.lwc_base.specs.declared.answer.Moved.TheVariants as moved
use Rattle.lwc_base.specs.Cells.{value_at}
use Rattle.lwc_base.specs.Modes.{IsKey}
use Rattle.lwc_base.specs.Store.{Absent, Done, Full, ReadOnly, Piece, Stored, store}
use Rattle.lwc_base.specs.World.{World, context, is_live}
use Rattle.lwc_types.specs.declared.fault.Fault.{Fault}
use Rattle.lwc_types.specs.declared.fault.Fault.TheVariants.{Budget}
use Rattle.lwc_types.specs.declared.fault.ThreadStatus.{ThreadStatus}
use Rattle.lwc_types.specs.declared.fault.ThreadStatus.TheVariants as status
use Rattle.lwc_types.specs.declared.name.Name.{Name}
use Rattle.lwc_syscall.specs.declared.answer.CallAnswer.{CallAnswer}
use Rattle.lwc_syscall.specs.declared.answer.CallAnswer.TheVariants as ends
use Rattle.confinement.proofs.Confining.{Leaves, leaves_reaped}
use Rattle.confinement.proofs.Steps.{outcome_of, step_reaps}
use Rattle.confinement.specs.Faults.{EndsAlone}
use Rattle.confinement.specs.May.{world_of}

-- an outcome leaves what threads have in common, or its thread has no fault
abbrev IsHarmless : Environment → Outcome → Type 0
IsHarmless e o = (o.environment ≡ e) ⊎ ((f : Fault) → o.thread.status ≢ status.Faulted f)

-- a thread that runs, or has ended by itself, has no fault
no_fault : (s : ThreadStatus) → (s ≡ status.Running) ⊎ ((code : ℕ) × (s ≡ status.Done code)) → (f : Fault) → s ≢ status.Faulted f
no_fault s (inl runs) f is = let no : status.Running ≡ status.Faulted f = sym runs ∙ is in cc
no_fault s (inr done) f is = let no : status.Done done.0 ≡ status.Faulted f = sym done.1 ∙ is in cc

chosen_harmless : (e : Environment) (b : Bool) (first second : Outcome) → IsHarmless e first → IsHarmless e second → IsHarmless e (cond b first second)
chosen_harmless e true first second p q = p
chosen_harmless e false first second p q = q

module _ (e : Environment) (y : Thread) (runs : y.status ≡ status.Running) where
  answered_harmless : (a : Answer) → (answered y a).status ≡ status.Running
  answered_harmless (answers.Done regs) = runs
  answered_harmless (answers.Refused r) = runs

  switched_harmless : (a : Moved) → (switched y a).status ≡ status.Running
  switched_harmless (moved.To d regs) = runs
  switched_harmless (moved.Refused r) = runs

  plainly_harmless : (a : CallAnswer) → ((plainly y a).status ≡ status.Running) ⊎ ((code : ℕ) × ((plainly y a).status ≡ status.Done code))
  plainly_harmless (ends.Value value) = inl runs
  plainly_harmless (ends.Exit code) = inr (code, refl)
  plainly_harmless (ends.Refused r) = inl runs

  stored_harmless : (s : Stored) → IsHarmless e (stored_outcome e y s)
  stored_harmless Absent = inl refl
  stored_harmless ReadOnly = inl refl
  stored_harmless Full = inl refl
  stored_harmless (Done v) = inr (no_fault _ (inl runs))

  store_harmless : (piece : Piece) → IsHarmless e (store_outcome e y piece)
  unfolding store_outcome
  store_harmless piece = chosen_harmless e _ _ _ (stored_harmless (store e.world y.context y.job piece)) (inl refl)

  word_harmless : (at value : ℕ) → IsHarmless e (word_outcome e y at value)
  word_harmless at value = chosen_harmless e (is_aligned at) _ _ (store_harmless (record { at = at; bytes = to_le_bytes w64 value })) (inl refl)

  call_harmless : (number t : ℕ) → IsHarmless e (guest_calls number t e y)
  unfolding guest_calls
  call_harmless number t =
      chosen_harmless e (eqb number LW_CREATE) (create_outcome e y) _ (inr (no_fault _ (inl (answered_harmless _))))
      (chosen_harmless e (eqb number LW_SWITCH) (switch_outcome t e y) _ (inr (no_fault _ (inl (switched_harmless _))))
      (chosen_harmless e (eqb number LW_RESTRICT) (restrict_outcome e y) _ (inr (no_fault _ (inl (answered_harmless _))))
      (chosen_harmless e (eqb number LW_OVERLAY) (overlay_outcome e y) _ (inr (no_fault _ (inl (answered_harmless _))))
      (chosen_harmless e (eqb number LW_SYSCALL) (syscall_outcome e y) (plain_outcome number e y) (inr (no_fault _ (plainly_harmless _))) (inr (no_fault _ (plainly_harmless _)))))))

  shared_harmless : (t : ℕ) (i : Instr) (op : Op) → IsHarmless e (shared_outcome guest_calls t e y i op)
  unfolding shared_outcome
  shared_harmless t i Ldb = inl refl
  shared_harmless t i Ldw = inl refl
  shared_harmless t i Stb = store_harmless _
  shared_harmless t i Stw = word_harmless _ _
  shared_harmless t i Sys = call_harmless i.imm t
  shared_harmless t i Halt = inl refl
  shared_harmless t i _ = inl refl

  next_harmless : (t : ℕ) (next : Next) → IsHarmless e (next_outcome guest_calls t e y next)
  unfolding next_outcome
  next_harmless t Pause = inl refl
  next_harmless t BadPc = inl refl
  next_harmless t (Shared i) = shared_harmless t i i.op

-- the last step of a budget gives a fault that is none of these, and no other one
counted_fault : (left : ℕ) (s : ThreadStatus) (f : Fault) → f ≢ Budget → status_with left s ≡ status.Faulted f → s ≡ status.Faulted f
counted_fault left status.Running f other is = by_left (eqb left 0) is
  where
    by_left : (b : Bool) → cond b (status.Faulted Budget) status.Running ≡ status.Faulted f → status.Running ≡ status.Faulted f
    by_left true is = let same : Budget ≡ f = cc in absurd (other (sym same))
    by_left false is = is
counted_fault left status.Idle f other is = is
counted_fault left (status.Done code) f other is = is
counted_fault left (status.Faulted g) f other is = is

module _ (m : Machine) (t : ℕ) (x : Thread) (found : slice_get m.threads t ≡ Some x) (runs : x.status ≡ status.Running) (f : Fault) (other : f ≢ Budget)
    (faults : (outcome_of m t x).thread.status ≡ status.Faulted f) where
  pub environment_stays : (outcome_of m t x).environment ≡ m.environment
  unfolding advance_outcome
  environment_stays = elim (next_harmless m.environment (advanced_thread m x) runs t (advanced m.text x.regs).next) [
    | inl same ↦ same
    | inr none ↦ absurd (none f (counted_fault _ _ f other faults))
  ]

  left : Leaves (world_of m) (world_of (step m t))
  left =
      let reaps = step_reaps m t x found runs in
      subst (λ (e : Environment). Leaves e.world (world_of (step m t))) environment_stays
      (subst (λ (v : World). Leaves (outcome_of m t x).environment.world v) (sym reaps.1) (leaves_reaped (outcome_of m t x).environment.world reaps.0))

  pub contexts_stay : (e : Name) → is_live (world_of (step m t)) e ≡ true → context (world_of (step m t)) e ≡ context (world_of m) e
  contexts_stay = left.contexts

  pub values_stay : (e : Name) → is_live (world_of (step m t)) e ≡ true → (k : _) → IsKey (world_of m).size.pages k → value_at (world_of (step m t)) e k ≡ value_at (world_of m) e k
  values_stay e live k key = left.values e k key live

-- a step leaves other threads, and ends its own alone
pub ends_alone : (m : Machine) (t : ℕ) → EndsAlone m (step m t) t
ends_alone m t = record {
  others = step_leaves m t;
  contexts = λ x e by. contexts_stay m t x by.found by.running by.fault by.other by.ends e;
  values = λ x e k by live. values_stay m t x by.found by.running by.fault by.other by.ends e live k;
}
