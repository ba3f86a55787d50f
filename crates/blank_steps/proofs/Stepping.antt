-- A step of a thread outside a context is the same step where that is blank.
use Rattle.std.proofs.Common.{◌≡◌, ◌≢◌, ℕ, ◌+◌, ◌-◌, ◌*◌, ◌%◌, refl, sym, ap, subst, ◌∙◌, Bool, true, false, cond, eqb, ◌||◌, Option, Some, None, List, [], ◌∷◌, length}
use Rattle.std.specs.Int.{w64, from_le_bytes, to_le_bytes}
use Rattle.std.specs.Prelude.{nat_le, not, slice_get, slice_index, slice_set}
use Rattle.std.specs.Option.{option_map}
use Rattle.guest_isa.specs.declared.instr.Instr.{Instr}
use Rattle.guest_isa.specs.declared.op.Op.{Op}
use Rattle.guest_isa.specs.declared.op.Op.TheVariants.{Ldb, Ldw, Stb, Stw, Sys, Halt}
use Rattle.guest_machine.specs.Advances.{advanced}
use Rattle.guest_machine.specs.declared.progress.Advance.{Advance}
use Rattle.guest_machine.specs.declared.progress.Next.{Next}
use Rattle.guest_machine.specs.declared.progress.Next.TheVariants as next
use Rattle.kernel_core.specs.Machine.{Environment, Machine, Serve}
use Rattle.kernel_core.specs.Step.{AfterStep, Outcome, address, advance_outcome, after_outcome, after_thread, args_of, call_outcome, counted, ended_outcome, guest_calls, is_aligned, loaded, next_outcome, roots, shared_outcome, step, step_by, store_outcome, stored_outcome, refused, switched, thread_outcome, three_times, unchanged, with_regs, with_world}
use Rattle.kernel_core.specs.declared.calling.TheConstants.{LW_CREATE, LW_OVERLAY, LW_RESTRICT, LW_SWITCH, LW_SYSCALL}
use Rattle.kernel_core.specs.declared.thread.Thread.{Thread}
use Rattle.lwc_base.specs.World.{World}
use Rattle.lwc_base.specs.declared.answer.Moved.{Moved}
use Rattle.lwc_base.specs.declared.answer.Moved.TheVariants as moved
use Rattle.lwc_types.proofs.Orders.{other_name}
use Rattle.lwc_types.specs.Registers.{fresh_registers}
use Rattle.lwc_switch.specs.Switch.{switch}
use Rattle.lwc_base.specs.Store.{Absent, Done, Full, Piece, ReadOnly, Stored, store}
use Rattle.lwc_types.specs.declared.fault.ThreadStatus.{ThreadStatus}
use Rattle.lwc_types.specs.declared.fault.ThreadStatus.TheVariants as status
use Rattle.lwc_types.specs.declared.name.Name.{Name}
use Rattle.lwc_types.specs.declared.page.TheConstants.{PAGE_BYTES}
use Rattle.blank_steps.specs.Blanks.{ActsOutside, blank_in}
use Rattle.world_views.specs.Outside.{CallsAlike, IsOutside, covered}
use Rattle.world_views.proofs.BlankAlike.{calls-alike}
use Rattle.world_views.proofs.BlankChanges.{asks-alike, blanks-alike, changes-alike}
use Rattle.world_views.specs.Blank.{blank, blank_stored, tells_registers}
use Rattle.world_views.specs.BlankFacts.{AsksAlike}
use Rattle.lwc_syscall.specs.Plain.{plain_call}

module _ (v : Name) where
  abbrev pub blank_env : Bool → Environment → Environment
  blank_env keep e = with_world e (blank keep v e.world)

  -- a thread without the registers that it has in a context that keeps none
  abbrev pub cover : Bool → Thread → Thread
  cover keep x = record x { regs = cond (tells_registers keep v x.context) x.regs (fresh_registers 0) }

  abbrev pub cover_out : Bool → Outcome → Outcome
  cover_out keep o = record o { thread = cover keep o.thread }

  abbrev pub blank_out : Bool → Outcome → Outcome
  blank_out keep o = record { thread = cover keep o.thread; environment = blank_env keep o.environment }

  abbrev pub blank_after : AfterStep → AfterStep
  blank_after a = record a { environment = blank_env true a.environment }

  -- who is not in the context has its registers
  pub tells_outside : (keep : Bool) (c : Name) → c ≢ v → tells_registers keep v c ≡ true
  tells_outside keep c other = ap (λ b. keep || not b) (other_name c v other) ∙ by keep
    where
      by : (b : Bool) → b || true ≡ true
      by true = refl
      by false = refl

  either-out : (keep b : Bool) (x y u v : Outcome) → cover_out keep x ≡ blank_out keep u → cover_out keep y ≡ blank_out keep v → cover_out keep (cond b x y) ≡ blank_out keep (cond b u v)
  either-out keep true x y u v first second = first
  either-out keep false x y u v first second = second

  -- a thread that a switch leaves
  cover-switched : (keep : Bool) (x : Thread) (m : Moved) → tells_registers keep v x.context ≡ true → cover keep (switched x m) ≡ switched x (covered keep v m)
  cover-switched keep x (moved.To d regs) tells = refl
  cover-switched keep x (moved.Refused refusal) tells = ap (λ b. with_regs x (cond b (refused x refusal).regs (fresh_registers 0))) tells

  module _ (keep : Bool) (t : ℕ) (e : Environment) (x : Thread) (outside : IsOutside v x.context x.job e.world) where
    abbrev alike : CallsAlike keep v x.context x.job t e.world e.channels
    alike = calls-alike keep v x.context x.job t e.world e.channels outside

    abbrev asks : AsksAlike keep v x.context e.world
    asks = asks-alike keep v e.world x.context outside.context

    switch-blank : cover_out keep (unchanged (with_world (blank_env keep e) (switch (blank keep v e.world) x.context t x.regs).1) (switched x (switch (blank keep v e.world) x.context t x.regs).0))
        ≡ blank_out keep (unchanged (with_world e (switch e.world x.context t x.regs).1) (switched x (switch e.world x.context t x.regs).0))
    switch-blank =
        let tells = tells_outside keep x.context outside.context in
        (λ i. unchanged (with_world (blank_env keep e) (switch (blank keep v e.world) x.context t x.regs).1) (cover-switched keep x (switch (blank keep v e.world) x.context t x.regs).0 tells i))
        ∙ ap (λ (r : Moved × World). unchanged (with_world (blank_env keep e) r.1) (switched x r.0)) (alike.switch x.regs)
        ∙ (λ i. unchanged (with_world (blank_env keep e) (blank keep v (switch e.world x.context t x.regs).1)) (sym (cover-switched keep x (switch e.world x.context t x.regs).0 tells) i))

    calls-blank : (number : ℕ) → cover_out keep (guest_calls number t (blank_env keep e) x) ≡ blank_out keep (guest_calls number t e x)
    unfolding guest_calls
    calls-blank number =
        let c : Name = x.context in
        either-out keep (eqb number LW_CREATE) _ _ _ _ (ap (λ r. cover_out keep (call_outcome (blank_env keep e) x r)) (alike.create x.regs))
        (either-out keep (eqb number LW_SWITCH) _ _ _ _ switch-blank
        (either-out keep (eqb number LW_RESTRICT) _ _ _ _ (ap (λ r. cover_out keep (call_outcome (blank_env keep e) x r)) (alike.restrict x.regs))
        (either-out keep (eqb number LW_OVERLAY) _ _ _ _ (ap (λ r. cover_out keep (call_outcome (blank_env keep e) x r)) (alike.overlay x.regs))
        (either-out keep (eqb number LW_SYSCALL) _ _ _ _ (ap (λ o. cover_out keep (ended_outcome x o)) (alike.syscall x.regs))
        (ap (λ o. cover_out keep (ended_outcome x o)) (alike.plain (three_times c) (plain_call number) (args_of x.regs) (record { memory = outside.context; slots = outside.context; cred = outside.context })))))))

    stored-blank : (s : Stored) → cover_out keep (stored_outcome (blank_env keep e) x (blank_stored keep v s)) ≡ blank_out keep (stored_outcome e x s)
    stored-blank Absent = refl
    stored-blank ReadOnly = refl
    stored-blank Full = refl
    stored-blank (Done w) = refl

    store-blank : (piece : Piece) → cover_out keep (store_outcome (blank_env keep e) x piece) ≡ blank_out keep (store_outcome e x piece)
    unfolding store_outcome
    store-blank piece =
        either-out keep (nat_le (piece.at + length piece.bytes) (e.world.size.pages * PAGE_BYTES)) _ _ _ _
        (ap (λ s. cover_out keep (stored_outcome (blank_env keep e) x s)) ((changes-alike keep v e.world x.context outside.context).store x.job piece) ∙ stored-blank (store e.world x.context x.job piece)) refl

    shared-blank : (i : Instr) (op : Op) → cover_out keep (shared_outcome guest_calls t (blank_env keep e) x i op) ≡ blank_out keep (shared_outcome guest_calls t e x i op)
    unfolding shared_outcome
    shared-blank i Ldb = ap (λ o. cover_out keep (unchanged (blank_env keep e) (loaded x i.rd (option_map (λ bytes. slice_index bytes 0) o)))) (asks.bytes (address x.regs i) 1)
    shared-blank i Ldw = ap (λ o. cover_out keep (unchanged (blank_env keep e) (loaded x i.rd (cond (is_aligned (address x.regs i)) (option_map (from_le_bytes w64) o) None)))) (asks.bytes (address x.regs i) 8)
    shared-blank i Stb = store-blank (record { at = address x.regs i; bytes = slice_index x.regs.r i.rb % 256 ∷ [] })
    shared-blank i Stw = either-out keep (is_aligned (address x.regs i)) _ _ _ _ (store-blank (record { at = address x.regs i; bytes = to_le_bytes w64 (slice_index x.regs.r i.rb) })) refl
    shared-blank i Sys = calls-blank i.imm
    shared-blank i Halt = refl
    shared-blank i _ = refl

    next-blank : (n : Next) → cover_out keep (next_outcome guest_calls t (blank_env keep e) x n) ≡ blank_out keep (next_outcome guest_calls t e x n)
    unfolding next_outcome
    next-blank next.Pause = refl
    next-blank next.BadPc = refl
    next-blank (next.Shared i) = shared-blank i i.op

  -- a step from outside, where the context is blank; who enters it is the same but for its registers, where it keeps none
  pub advance-blank : (keep : Bool) (t : ℕ) (e : Environment) (x : Thread) → IsOutside v x.context x.job e.world → (advance : Advance) →
      cover_out keep (advance_outcome guest_calls t (blank_env keep e) x advance) ≡ blank_out keep (advance_outcome guest_calls t e x advance)
  unfolding advance_outcome
  advance-blank keep t e x outside advance = ap (counted (x.budget - 1)) (next-blank keep t e (with_regs x advance.after) outside advance.next)

  outcome-blank : (t : ℕ) (e : Environment) (text : List Instr) (x : Thread) → (s : ThreadStatus) → (s ≡ status.Running → IsOutside v x.context x.job e.world) →
      thread_outcome guest_calls t (blank_env true e) None text x s ≡ option_map blank_after (thread_outcome guest_calls t e None text x s)
  outcome-blank t e text x status.Running outside = ap (λ o. Some (record { thread = o.thread; environment = o.environment; serve = None; finished = None })) (advance-blank true t e x (outside refl) (advanced text x.regs))
  outcome-blank t e text x status.Idle outside = refl
  outcome-blank t e text x (status.Done code) outside = refl
  outcome-blank t e text x (status.Faulted f) outside = refl

  after-blank : (m : Machine) (t : ℕ) (o : Option AfterStep) → after_outcome (blank_in v m) t (option_map blank_after o) ≡ blank_in v (after_outcome m t o)
  after-blank m t None = refl
  after-blank m t (Some a) =
      ap (λ w. record m { threads = slice_set m.threads t a.thread; environment = with_world a.environment w; serve = a.serve })
      ((blanks-alike true v a.environment.world).reap (roots (slice_set m.threads t a.thread) a.serve))

  pub step_blank : (m : Machine) (t : ℕ) → m.serve ≡ None → ActsOutside v m t → step (blank_in v m) t ≡ blank_in v (step m t)
  unfolding step_by
  step_blank m t run outside = by (slice_get m.threads t) refl
    where
      by : (o : Option Thread) → slice_get m.threads t ≡ o → after_thread guest_calls (blank_in v m) t o ≡ blank_in v (after_thread guest_calls m t o)
      by None is = refl
      by (Some x) is =
          ap (after_outcome (blank_in v m) t)
          (subst (λ (s : Option Serve). thread_outcome guest_calls t (blank_env true m.environment) s m.text x x.status ≡ option_map blank_after (thread_outcome guest_calls t m.environment s m.text x x.status)) (sym run)
          (outcome-blank t m.environment m.text x x.status (outside x is)))
          ∙ after-blank m t (thread_outcome guest_calls t m.environment m.serve m.text x x.status)
