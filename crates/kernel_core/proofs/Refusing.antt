-- A call that is refused changes nothing but its thread.
use Rattle.std.proofs.Common.{◌≡◌, ◌⊎◌, inl, inr, ℕ, ◌-◌, ◌<◌, refl, ap, ◌∙◌, Bool, true, false, cond, eqb, Option, Some, None, List, arith}
use Rattle.std.specs.Prelude.{slice_set}
use Rattle.std.proofs.lemmas.Bool.Decides.{nat_tests}
use Rattle.guest_isa.specs.declared.instr.Instr.{Instr}
use Rattle.guest_isa.specs.declared.op.Op.{Op}
use Rattle.guest_machine.specs.declared.progress.Next.{Next}
use Rattle.kernel_core.proofs.Reaping.{uncut}
use Rattle.kernel_core.specs.Machine.{Environment, Machine, Serve, has_ended}
use Rattle.kernel_core.specs.Refused.{ComesToRefusal, IsNotLast, advanced_thread, after_refusal, refusal_at_end, refusal_in, refusal_of, refusal_to_move, thread_refused}
use Rattle.kernel_core.specs.Step.{AfterStep, Outcome, advance_outcome, after_outcome, after_thread, args_of, beside, call_outcome, counted, create_outcome, finish, guest_calls, next_outcome, only, overlay_outcome, plain_outcome, plainly, refused, restrict_outcome, roots, settled, shared_outcome, status_with, step, step_by, switch_outcome, switched, syscall_outcome, thread_outcome, three_times, unchanged, with_world}
use Rattle.kernel_core.specs.declared.acting.Change.TheVariants as changes
use Rattle.kernel_core.specs.declared.calling.TheConstants.{LW_CREATE, LW_OVERLAY, LW_RESTRICT, LW_SWITCH, LW_SYSCALL}
use Rattle.kernel_core.specs.declared.thread.Thread.{Thread}
use Rattle.lwc_base.specs.Channels.{Channels}
use Rattle.lwc_base.specs.Life.{IsReaped}
use Rattle.lwc_base.specs.World.{World}
use Rattle.lwc_types.specs.declared.fault.Fault.TheVariants.{Budget}
use Rattle.lwc_types.specs.declared.fault.ThreadStatus.{ThreadStatus}
use Rattle.lwc_types.specs.declared.fault.ThreadStatus.TheVariants.{Faulted, Running}
use Rattle.lwc_types.specs.declared.name.Name.{Name}
use Rattle.lwc_types.specs.declared.refusal.Refusal.{Refusal}
use Rattle.lwc_create.specs.Create as create
use Rattle.lwc_overlay.specs.OverlayCall as overlaying
use Rattle.lwc_overlay.specs.RestrictCall as restricting
use Rattle.lwc_switch.specs.Switch as switching
use Rattle.lwc_syscall.specs.Plain.{plain, plain_call}
use Rattle.lwc_syscall.specs.Syscall.{lw_syscall}
use Rattle.lwc_syscall.specs.declared.answer.CallAnswer.{CallAnswer}
use Rattle.lwc_syscall.specs.declared.answer.CallAnswer.TheVariants as ends
use Rattle.lwc_base.proofs.Reaped.{reap-reaped}
use Rattle.lwc_syscall.proofs.Refused.{plain-done, syscall-done}

module _ (e : Environment) (x : Thread) (r : Refusal) where
  create-refused : (slot : ℕ) (first : Option Refusal) → refusal_in (create.ended e.world x.context x.job x.regs slot first).0 ≡ Some r →
      call_outcome e x (create.ended e.world x.context x.job x.regs slot first) ≡ unchanged e (refused x r)
  create-refused slot (Some s) is = let same : s ≡ r = cc in ap (λ q. unchanged e (refused x q)) same
  create-refused slot None is = cc

  restrict-refused : (first : Option Refusal) → refusal_in (restricting.ended e.world x.context x.regs first).0 ≡ Some r →
      call_outcome e x (restricting.ended e.world x.context x.regs first) ≡ unchanged e (refused x r)
  restrict-refused (Some s) is = let same : s ≡ r = cc in ap (λ q. unchanged e (refused x q)) same
  restrict-refused None is = cc

  overlay-refused : (first : Option Refusal) → refusal_in (overlaying.ended e.world x.context x.job x.regs first).0 ≡ Some r →
      call_outcome e x (overlaying.ended e.world x.context x.job x.regs first) ≡ unchanged e (refused x r)
  overlay-refused (Some s) is = let same : s ≡ r = cc in ap (λ q. unchanged e (refused x q)) same
  overlay-refused None is = cc

  switch-refused : (t : ℕ) (d : Name) (n : ℕ) (first : Option Refusal) → refusal_to_move (switching.ended e.world x.context t x.regs d n first).0 ≡ Some r →
      unchanged (with_world e (switching.ended e.world x.context t x.regs d n first).1) (switched x (switching.ended e.world x.context t x.regs d n first).0) ≡ unchanged e (refused x r)
  switch-refused t d n (Some s) is = let same : s ≡ r = cc in ap (λ q. unchanged e (refused x q)) same
  switch-refused t d n None is = cc

  end-refused : (answer : CallAnswer) (v : World) (after : Channels) → ((refusal : Refusal) → answer ≡ ends.Refused refusal → (v ≡ e.world) × (after ≡ e.channels)) → refusal_at_end answer ≡ Some r →
      unchanged (beside v after) (plainly x answer) ≡ unchanged e (refused x r)
  end-refused (ends.Value value) v after idle is = cc
  end-refused (ends.Exit code) v after idle is = cc
  end-refused (ends.Refused s) v after idle is =
      let stays = idle s refl in
      let same : s ≡ r = cc in λ i. unchanged (beside (stays.0 i) (stays.1 i)) (refused x (same i))

  by_row : (b : Bool) (first later : Option Refusal) (p q : Outcome) → (first ≡ Some r → p ≡ unchanged e (refused x r)) → (later ≡ Some r → q ≡ unchanged e (refused x r)) →
      cond b first later ≡ Some r → cond b p q ≡ unchanged e (refused x r)
  by_row true first later p q here rest is = here is
  by_row false first later p q here rest is = rest is

  create-row : refusal_in (create.create e.world x.context x.job x.regs).0 ≡ Some r → create_outcome e x ≡ unchanged e (refused x r)
  unfolding create.create
  create-row is = create-refused _ _ is

  switch-row : (t : ℕ) → refusal_to_move (switching.switch e.world x.context t x.regs).0 ≡ Some r → switch_outcome t e x ≡ unchanged e (refused x r)
  unfolding switching.switch
  switch-row t is = switch-refused t _ _ _ is

  restrict-row : refusal_in (restricting.restrict e.world x.context x.regs).0 ≡ Some r → restrict_outcome e x ≡ unchanged e (refused x r)
  unfolding restricting.restrict
  restrict-row is = restrict-refused _ is

  overlay-row : refusal_in (overlaying.overlay e.world x.context x.job x.regs).0 ≡ Some r → overlay_outcome e x ≡ unchanged e (refused x r)
  unfolding overlaying.overlay
  overlay-row is = overlay-refused _ is

  -- of a call that is refused
  pub call_refused : (number t : ℕ) → refusal_of number t e x ≡ Some r → guest_calls number t e x ≡ unchanged e (refused x r)
  unfolding refusal_of guest_calls
  call_refused number t is =
      by_row (eqb number LW_CREATE) _ _ (create_outcome e x) _ create-row
      (by_row (eqb number LW_SWITCH) _ _ (switch_outcome t e x) _ (switch-row t)
      (by_row (eqb number LW_RESTRICT) _ _ (restrict_outcome e x) _ restrict-row
      (by_row (eqb number LW_OVERLAY) _ _ (overlay_outcome e x) _ overlay-row
      (by_row (eqb number LW_SYSCALL) _ _ (syscall_outcome e x) (plain_outcome number e x)
      (end-refused (lw_syscall e.world e.channels x.context x.job x.regs).answer _ _ (syscall-done e.world e.channels x.context x.job x.regs))
      (end-refused (plain e.world e.channels (three_times x.context) x.job (plain_call number) (args_of x.regs)).answer _ _
      (plain-done e.world e.channels (three_times x.context) x.job (plain_call number) (args_of x.regs))))))) is

module _ (m : Machine) (t : ℕ) (x : Thread) (i : Instr) (r : Refusal) (comes : ComesToRefusal m t x i r) where
  made : thread_outcome guest_calls t m.environment m.serve m.text x x.status ≡ Some (settled t m.serve (unchanged m.environment (thread_refused m x r)))
  unfolding advance_outcome next_outcome shared_outcome
  made =
      ap (thread_outcome guest_calls t m.environment m.serve m.text x) comes.running
      ∙ ap (λ (next : Next). Some (settled t m.serve (counted (x.budget - 1) (next_outcome guest_calls t m.environment (advanced_thread m x) next)))) comes.next
      ∙ ap (λ (op : Op). Some (settled t m.serve (counted (x.budget - 1) (shared_outcome guest_calls t m.environment (advanced_thread m x) i op)))) comes.call
      ∙ ap (λ (outcome : Outcome). Some (settled t m.serve (counted (x.budget - 1) outcome))) (call_refused m.environment (advanced_thread m x) r i.imm t comes.refused)

  -- a step that comes to it changes its thread, and what the end of a budget changes
  pub step_refused : step m t ≡ after_outcome m t (Some (settled t m.serve (unchanged m.environment (thread_refused m x r))))
  unfolding step_by
  step_refused = ap (after_thread guest_calls m t) comes.found ∙ ap (after_outcome m t) made

  goes_on : 1 < x.budget → has_ended (thread_refused m x r).status ≡ false
  goes_on more =
      let some : eqb (x.budget - 1) 0 ≡ false = grind (arith, nat_tests) in
      ap (λ (s : ThreadStatus). has_ended (status_with (x.budget - 1) s)) comes.running ∙ ap (λ b. has_ended (cond b (Faulted Budget) Running)) some

  not_settled : (serve : Option Serve) → (serve ≡ None) ⊎ (1 < x.budget) → settled t serve (unchanged m.environment (thread_refused m x r)) ≡ only serve (unchanged m.environment (thread_refused m x r))
  not_settled None last = refl
  not_settled (Some s) (inl none) = cc
  not_settled (Some s) (inr more) =
      ap (λ b. cond b (finish t s (unchanged m.environment (thread_refused m x r))) (only (Some s) (unchanged m.environment (thread_refused m x r)))) (goes_on more)

  -- it changes its thread alone, where nothing was left to drop
  pub refused_alone : IsReaped m.environment.world (roots m.threads m.serve) → IsNotLast m x →
      step m t ≡ after_refusal m t x r
  refused_alone reaped last =
      let threads : List Thread = slice_set m.threads t (thread_refused m x r) in
      let w = m.environment.world in
      step_refused
      ∙ ap (λ (after : AfterStep). after_outcome m t (Some after)) (not_settled m.serve last)
      ∙ ap (λ (u : World). record m { threads = threads; environment = with_world m.environment u })
      (reap-reaped w (roots threads m.serve) (uncut changes.Thread w w m.threads m.serve t x (thread_refused m x r) (refl, refl) (λ is. cc) comes.found reaped))
