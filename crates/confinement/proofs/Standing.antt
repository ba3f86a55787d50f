-- In which context a thread stands after its step.
use Rattle.std.proofs.Common.{◌≡◌, ◌≢◌, ◌⊎◌, inl, inr, ℕ, zero, suc, Bool, true, false, cond, eqb, Option, None, Some, List, [], ◌∷◌, refl, ap, sym, subst, ◌∙◌, length, arith}
use Rattle.std.specs.Prelude.{nat_lt, slice_get, slice_set}
use Rattle.std.specs.Int.{w64, to_le_bytes}
use Rattle.std.proofs.lemmas.Bool.Decides.{nat_tests}
use Rattle.guest_isa.specs.declared.instr.Instr.{Instr}
use Rattle.guest_isa.specs.declared.op.Op.{Op}
use Rattle.guest_isa.specs.declared.op.Op.TheVariants.{Ldb, Ldw, Stb, Stw, Sys, Halt}
use Rattle.guest_machine.specs.Advances.{advanced}
use Rattle.guest_machine.specs.declared.progress.Next.{Next}
use Rattle.guest_machine.specs.declared.progress.Next.TheVariants.{Shared, Pause, BadPc}
use Rattle.kernel_core.specs.Machine.{Environment, Machine, Serve, has_ended, home_of}
use Rattle.kernel_core.specs.Ready.{IsReady}
use Rattle.kernel_core.specs.Refused.{advanced_thread, refusal_of, refusal_to_move}
use Rattle.kernel_core.specs.Start.{Inputs}
use Rattle.kernel_core.specs.Step.{AfterStep, Outcome, advance_outcome, after_outcome, after_thread, answered, begin_next, create_outcome, finish, guest_calls, is_aligned, loaded, next_outcome, only, overlay_outcome, plain_outcome, plainly, restrict_outcome, settled, shared_outcome, step, step_by, store_outcome, stored_outcome, switch_outcome, switched, syscall_outcome, thread_outcome, unchanged, with_status, word_outcome, woken}
use Rattle.kernel_core.specs.declared.calling.TheConstants.{LW_CREATE, LW_OVERLAY, LW_RESTRICT, LW_SWITCH, LW_SYSCALL}
use Rattle.kernel_core.specs.declared.thread.Thread.{Thread}
use Rattle.lwc_base.specs.declared.answer.Answer.{Answer}
use Rattle.lwc_base.specs.declared.answer.Answer.TheVariants as answers
use Rattle.lwc_base.specs.declared.answer.Moved.{Moved}
use Rattle.lwc_base.specs.declared.answer.Moved.TheVariants as moved
use Rattle.lwc_base.specs.declared.descriptor.Cap.{Cap}
use Rattle.lwc_base.specs.Store.{Absent, Done, Full, ReadOnly, Piece, Stored, store}
use Rattle.lwc_base.specs.World.{World, is_live}
use Rattle.lwc_types.specs.declared.fault.ThreadStatus.{ThreadStatus}
use Rattle.lwc_types.specs.declared.fault.ThreadStatus.TheVariants as status
use Rattle.lwc_types.specs.declared.name.Name.{Name}
use Rattle.lwc_switch.specs.Switch.{switch}
use Rattle.lwc_syscall.specs.declared.answer.CallAnswer.{CallAnswer}
use Rattle.lwc_syscall.specs.declared.answer.CallAnswer.TheVariants as ends
use Rattle.snapshot_host.specs.Begin.{request_context}
use Rattle.confinement.proofs.Confining.{ready_thread}
use Rattle.confinement.proofs.Steps.{at_switch, outcome_of}
use Rattle.confinement.specs.May.{IsGiven, MakesCall, regs_at, world_of}

-- where a thread stands after its step: where it stood, or where an accepted switch goes
abbrev pub Stands : Machine → ℕ → Thread → Name → Type 0
Stands m t x d = (d ≡ x.context) ⊎ ((cap : Cap) × MakesCall m t x LW_SWITCH × IsGiven m x d cap)

-- no thread stands in a context
abbrev pub NotIn : Machine → Name → Type 0
NotIn m c = (u : ℕ) (z : Thread) → slice_get m.threads u ≡ Some z → z.context ≢ c

answered_stands : (y : Thread) (a : Answer) → (answered y a).context ≡ y.context
answered_stands y (answers.Done regs) = refl
answered_stands y (answers.Refused r) = refl

plainly_stands : (y : Thread) (a : CallAnswer) → (plainly y a).context ≡ y.context
plainly_stands y (ends.Value value) = refl
plainly_stands y (ends.Exit code) = refl
plainly_stands y (ends.Refused r) = refl

loaded_stands : (y : Thread) (d : ℕ) (found : Option ℕ) → (loaded y d found).context ≡ y.context
loaded_stands y d None = refl
loaded_stands y d (Some value) = refl

stored_stands : (e : Environment) (y : Thread) (s : Stored) → (stored_outcome e y s).thread.context ≡ y.context
stored_stands e y Absent = refl
stored_stands e y ReadOnly = refl
stored_stands e y Full = refl
stored_stands e y (Done v) = refl

chosen_stands : (b : Bool) (first second : Outcome) (d : Name) → first.thread.context ≡ d → second.thread.context ≡ d → (cond b first second).thread.context ≡ d
chosen_stands true first second d p q = p
chosen_stands false first second d p q = q

store_stands : (e : Environment) (y : Thread) (piece : Piece) → (store_outcome e y piece).thread.context ≡ y.context
unfolding store_outcome
store_stands e y piece = chosen_stands _ _ _ _ (stored_stands e y (store e.world y.context y.job piece)) refl

word_stands : (e : Environment) (y : Thread) (at value : ℕ) → (word_outcome e y at value).thread.context ≡ y.context
word_stands e y at value = chosen_stands (is_aligned at) _ _ _ (store_stands e y (record { at = at; bytes = to_le_bytes w64 value })) refl

-- no other call moves its thread
other_stands : (number t : ℕ) (e : Environment) (y : Thread) → eqb number LW_SWITCH ≡ false → (guest_calls number t e y).thread.context ≡ y.context
unfolding guest_calls
other_stands number t e y other =
    chosen_stands (eqb number LW_CREATE) (create_outcome e y) _ _ (answered_stands y _)
    (ap (λ b. (cond b (switch_outcome t e y) (cond (eqb number LW_RESTRICT) (restrict_outcome e y) (cond (eqb number LW_OVERLAY) (overlay_outcome e y)
    (cond (eqb number LW_SYSCALL) (syscall_outcome e y) (plain_outcome number e y))))).thread.context) other
    ∙ chosen_stands (eqb number LW_RESTRICT) (restrict_outcome e y) _ _ (answered_stands y _)
    (chosen_stands (eqb number LW_OVERLAY) (overlay_outcome e y) _ _ (answered_stands y _)
    (chosen_stands (eqb number LW_SYSCALL) (syscall_outcome e y) _ _ (plainly_stands y _) (plainly_stands y _))))

pub set_cases : (xs : List Thread) (t u : ℕ) (y z : Thread) → slice_get (slice_set xs t y) u ≡ Some z → (z ≡ y) ⊎ (slice_get xs u ≡ Some z)
set_cases [] t u y z is = inr is
set_cases (x ∷ xs) zero zero y z is = inl cc
set_cases (x ∷ xs) zero (suc u) y z is = inr is
set_cases (x ∷ xs) (suc t) zero y z is = inr is
set_cases (x ∷ xs) (suc t) (suc u) y z is = set_cases xs t u y z is

-- a thread that is set stands elsewhere, and so do the others
set_not_in : (m : Machine) (c : Name) (t : ℕ) (after : AfterStep) → NotIn m c → after.thread.context ≢ c → NotIn (after_outcome m t (Some after)) c
set_not_in m c t after others differs u z found = elim (set_cases m.threads t u after.thread z found) [
  | inl same ↦ λ is. differs (ap (λ (x : Thread). x.context) (sym same) ∙ is)
  | inr old ↦ others u z old
]

module _ (inputs : Inputs) (steps : ℕ) (m : Machine) (t : ℕ) (ready : IsReady inputs steps m) (x : Thread) (found : slice_get m.threads t ≡ Some x) where
  abbrev w : World
  w = world_of m

  abbrev y : Thread
  y = advanced_thread m x

  live : is_live w x.context ≡ true
  live = (ready_thread inputs steps t m x ready found).live

  -- where an accepted switch goes
  to_target : (makes : refusal_of LW_SWITCH t m.environment y ≡ None → MakesCall m t x LW_SWITCH) (a : Moved) → (switch w x.context t (regs_at m x)).0 ≡ a → Stands m t x (switched y a).context
  unfolding refusal_of
  to_target makes (moved.Refused r) is = inl refl
  to_target makes (moved.To d regs) is =
      let calls = makes (ap refusal_to_move is) in
      let went = at_switch m t x found ready.sound ready.named ready.files live calls in
      let same : went.0 ≡ d = let both : moved.To went.0 went.1 ≡ moved.To d regs = sym went.2 ∙ is in cc in
      inr (went.3.cap, calls, subst (λ (n : Name). IsGiven m x n went.3.cap) same went.3.had)

  switch_stands : (refusal_of LW_SWITCH t m.environment y ≡ None → MakesCall m t x LW_SWITCH) → Stands m t x (guest_calls LW_SWITCH t m.environment y).thread.context
  unfolding guest_calls
  switch_stands makes = to_target makes (switch w x.context t (regs_at m x)).0 refl

  call_stands : (number : ℕ) → (refusal_of number t m.environment y ≡ None → MakesCall m t x number) → Stands m t x (guest_calls number t m.environment y).thread.context
  call_stands number makes =
      elim (eqb number LW_SWITCH) as (λ b. eqb number LW_SWITCH ≡ b → Stands m t x (guest_calls number t m.environment y).thread.context) [
        | true ↦ λ is.
            let one : LW_SWITCH ≡ number = grind (arith, nat_tests) in
            subst (λ n. (refusal_of n t m.environment y ≡ None → MakesCall m t x n) → Stands m t x (guest_calls n t m.environment y).thread.context) one switch_stands makes
        | false ↦ λ is. inl (other_stands number t m.environment y is)
      ] refl

  shared_stands : x.status ≡ status.Running → (i : Instr) → (advanced m.text x.regs).next ≡ Shared i → (op : Op) → i.op ≡ op → Stands m t x (shared_outcome guest_calls t m.environment y i op).thread.context
  unfolding shared_outcome
  shared_stands running i next Ldb is = inl (loaded_stands y i.rd _)
  shared_stands running i next Ldw is = inl (loaded_stands y i.rd _)
  shared_stands running i next Stb is = inl (store_stands m.environment y _)
  shared_stands running i next Stw is = inl (word_stands m.environment y _ _)
  shared_stands running i next Sys is = call_stands i.imm (λ accepted. record { instr = i; found = found; running = running; next = next; op = is; number = refl; accepted = accepted })
  shared_stands running i next Halt is = inl refl
  shared_stands running i next _ is = inl refl

  next_stands : x.status ≡ status.Running → (next : Next) → (advanced m.text x.regs).next ≡ next → Stands m t x (next_outcome guest_calls t m.environment y next).thread.context
  unfolding next_outcome
  next_stands running Pause is = inl refl
  next_stands running BadPc is = inl refl
  next_stands running (Shared i) is = shared_stands running i is i.op refl

  pub outcome_stands : x.status ≡ status.Running → Stands m t x (outcome_of m t x).thread.context
  unfolding advance_outcome
  outcome_stands running = next_stands running (advanced m.text x.regs).next refl

  -- a step leaves a context without threads, if it goes neither there nor, in a serve, to a home or a request's context that it is
  module _ (c : Name) (others : NotIn m c) (goes : (d : Name) (cap : Cap) → MakesCall m t x LW_SWITCH → IsGiven m x d cap → d ≢ c) (home : (s : Serve) → m.serve ≡ Some s → home_of t ≢ c)
      (begins : x.status ≡ status.Idle → (s : Serve) → m.serve ≡ Some s → request_context s.next ≢ c) where
    elsewhere : (d : Name) → Stands m t x d → d ≢ c
    elsewhere d (inl stays) is = others t x found (sym stays ∙ is)
    elsewhere d (inr went) is = goes d went.0 went.1 went.2 is

    settled_elsewhere : x.status ≡ status.Running → (o : Option Serve) → m.serve ≡ o → (settled t o (outcome_of m t x)).thread.context ≢ c
    settled_elsewhere running None is = elsewhere _ (outcome_stands running)
    settled_elsewhere running (Some s) is = by_end (has_ended (outcome_of m t x).thread.status)
      where
        by_end : (b : Bool) → (cond b (finish t s (outcome_of m t x)) (only (Some s) (outcome_of m t x))).thread.context ≢ c
        by_end true = home s is
        by_end false = elsewhere _ (outcome_stands running)

    woken_elsewhere : x.status ≡ status.Idle → (o : Option Serve) → m.serve ≡ o → (woken t o m.environment x).thread.context ≢ c
    woken_elsewhere idle None is = others t x found
    woken_elsewhere idle (Some s) is = by_next (nat_lt s.next (length m.environment.channels.requests))
      where
        by_next : (b : Bool) → (cond b (begin_next t s m.environment) (only (Some s) (unchanged m.environment (with_status x (status.Done 0))))).thread.context ≢ c
        by_next true = begins idle s is
        by_next false = others t x found

    by_status : (s : ThreadStatus) → x.status ≡ s → NotIn (after_outcome m t (thread_outcome guest_calls t m.environment m.serve m.text x s)) c
    by_status status.Running is = set_not_in m c t (settled t m.serve (outcome_of m t x)) others (settled_elsewhere is m.serve refl)
    by_status status.Idle is = set_not_in m c t (woken t m.serve m.environment x) others (woken_elsewhere is m.serve refl)
    by_status (status.Done code) is = others
    by_status (status.Faulted f) is = others

    pub stands_elsewhere : NotIn (step m t) c
    unfolding step_by
    stands_elsewhere = subst (λ (o : Option Thread). NotIn (after_thread guest_calls m t o) c) (sym found) (by_status x.status refl)

-- a step of no thread moves none
pub no_thread_moves : (m : Machine) (t : ℕ) (c : Name) → slice_get m.threads t ≡ None → NotIn m c → NotIn (step m t) c
unfolding step_by
no_thread_moves m t c none others = subst (λ (o : Option Thread). NotIn (after_thread guest_calls m t o) c) (sym none) others
