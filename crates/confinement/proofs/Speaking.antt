-- A step writes nothing but through a slot that it may copy whose descriptor can be written.
use Rattle.std.proofs.Common.{◌≡◌, ◌⊎◌, inl, inr, ℕ, ◌+◌, ◌*◌, ◌<◌, Bool, true, false, cond, eqb, Option, None, Some, length, refl, ap, sym, subst, ◌∙◌, arith}
use Rattle.std.proofs.lemmas.Bool.Decides.{nat_tests}
use Rattle.std.specs.Int.{w64, to_le_bytes}
use Rattle.std.specs.Prelude.{nat_le, slice_get, slice_index}
use Rattle.guest_isa.specs.declared.instr.Instr.{Instr}
use Rattle.guest_isa.specs.declared.op.Op.{Op}
use Rattle.guest_isa.specs.declared.op.Op.TheVariants.{Stb, Stw, Sys}
use Rattle.guest_machine.specs.Advances.{advanced}
use Rattle.guest_machine.specs.declared.progress.Next.{Next}
use Rattle.guest_machine.specs.declared.progress.Next.TheVariants.{BadPc, Pause, Shared}
use Rattle.kernel_core.proofs.Refusing.{call_refused}
use Rattle.kernel_core.specs.Machine.{Environment, Machine}
use Rattle.kernel_core.specs.Ready.{IsReady}
use Rattle.kernel_core.specs.Refused.{advanced_thread, refusal_of}
use Rattle.kernel_core.specs.Start.{Inputs}
use Rattle.kernel_core.specs.Step.{Outcome, address, advance_outcome, after_outcome, after_thread, args_of, create_outcome, guest_calls, is_aligned, next_outcome, overlay_outcome, plain_outcome, restrict_outcome, shared_outcome, step, step_by, store_outcome, stored_outcome, switch_outcome, syscall_outcome, thread_outcome, three_times}
use Rattle.kernel_core.specs.declared.calling.TheConstants.{LW_CREATE, LW_OVERLAY, LW_RESTRICT, LW_SWITCH, LW_SYSCALL}
use Rattle.kernel_core.specs.declared.thread.Thread.{Thread}
use Rattle.lwc_base.specs.Refusals.{first_refusal}
use Rattle.lwc_base.specs.Store.{Absent, Done, Full, Piece, ReadOnly, Stored, store}
use Rattle.lwc_base.specs.World.{World, is_live}
use Rattle.lwc_base.specs.Channels.{Channels}
use Rattle.lwc_types.specs.declared.fault.ThreadStatus.{ThreadStatus}
use Rattle.lwc_types.specs.declared.fault.ThreadStatus.TheVariants as status
use Rattle.lwc_types.specs.declared.page.TheConstants.{PAGE_BYTES}
use Rattle.lwc_syscall.specs.Plain as plains
use Rattle.lwc_syscall.specs.Plain.{plain, plain_call}
use Rattle.lwc_syscall.specs.Syscall as syscalls
use Rattle.lwc_syscall.specs.Syscall.{inner_args, inner_call, lw_syscall, targets_of}
use Rattle.confinement.proofs.Acts.{chosen_slot}
use Rattle.confinement.proofs.Confining.{ready_thread}
use Rattle.confinement.proofs.Steps.{at_syscall, inner_of, outcome_of, settled_same}
use Rattle.confinement.proofs.Voices.{Source, plain_speaks}
use Rattle.confinement.specs.Confined.{MayCopy, OutOfItsOwn}
use Rattle.confinement.specs.May.{MakesCall, regs_at, world_of}

module _ (inputs : Inputs) (steps : ℕ) (m : Machine) (t : ℕ) (ready : IsReady inputs steps m) where
  abbrev w : World
  w = world_of m

  abbrev io : Channels
  io = m.environment.channels

  abbrev Heard : Type 0
  Heard = Source (MayCopy m t) w

  module _ (x : Thread) (found : slice_get m.threads t ≡ Some x) where
    abbrev y : Thread
    y = advanced_thread m x

    live : is_live w x.context ≡ true
    live = (ready_thread inputs steps t m x ready found).live

    abbrev Speaks : Outcome → Type 0
    Speaks o = (o.environment.channels ≡ io) ⊎ Heard

    either : (b : Bool) (o p : Outcome) → (b ≡ true → Speaks o) → (b ≡ false → Speaks p) → Speaks (cond b o p)
    either true o p first second = first refl
    either false o p first second = second refl

    own : (n : ℕ) → n < 64 → MayCopy m t x.context n
    own n slot = OutOfItsOwn x n found

    speaks_syscall : MakesCall m t x LW_SYSCALL → Speaks (syscall_outcome m.environment y)
    unfolding refusal_of lw_syscall
    speaks_syscall calls =
        let allowed = (at_syscall m t x found ready.sound ready.named ready.files live calls).0 in
        let inner = inner_of w io (plain w io (targets_of w x.context (regs_at m x)) x.job (inner_call (regs_at m x)) (inner_args (regs_at m x)))
        (first_refusal (syscalls.refusals w x.context (regs_at m x))) calls.accepted in
        elim (plain_speaks (MayCopy m t) w io (targets_of w x.context (regs_at m x)) x.job (chosen_slot m t x found ready.sound live calls allowed) (inner_call (regs_at m x)) (inner_args (regs_at m x))) [
          | inl same ↦ inl (ap (λ (o : plains.Outcome). o.io) inner.1 ∙ same)
          | inr heard ↦ inr heard
        ]

    speaks_plain : (number : ℕ) → Speaks (plain_outcome number m.environment y)
    speaks_plain number = plain_speaks (MayCopy m t) w io (three_times x.context) x.job own (plain_call number) (args_of (regs_at m x))

    accepted_speaks : (number : ℕ) → MakesCall m t x number → Speaks (guest_calls number t m.environment y)
    unfolding guest_calls
    accepted_speaks number calls =
        either (eqb number LW_CREATE) (create_outcome m.environment y) _ (λ _. inl refl)
        (λ _. either (eqb number LW_SWITCH) (switch_outcome t m.environment y) _ (λ _. inl refl)
        (λ _. either (eqb number LW_RESTRICT) (restrict_outcome m.environment y) _ (λ _. inl refl)
        (λ _. either (eqb number LW_OVERLAY) (overlay_outcome m.environment y) _ (λ _. inl refl)
        (λ _. either (eqb number LW_SYSCALL) (syscall_outcome m.environment y) (plain_outcome number m.environment y)
        (λ is. let one : number ≡ LW_SYSCALL = grind (arith, nat_tests) in speaks_syscall (subst (MakesCall m t x) one calls))
        (λ _. speaks_plain number)))))

    call_speaks : (number : ℕ) → (refusal_of number t m.environment y ≡ None → MakesCall m t x number) → Speaks (guest_calls number t m.environment y)
    call_speaks number makes =
        elim (refusal_of number t m.environment y) as (λ o. refusal_of number t m.environment y ≡ o → Speaks (guest_calls number t m.environment y)) [
          | None ↦ λ is. accepted_speaks number (makes is)
          | Some refusal ↦ λ is. inl (ap (λ (o : Outcome). o.environment.channels) (call_refused m.environment y refusal number t is))
        ] refl

    stored_speaks : (s : Stored) → Speaks (stored_outcome m.environment y s)
    stored_speaks Absent = inl refl
    stored_speaks ReadOnly = inl refl
    stored_speaks Full = inl refl
    stored_speaks (Done v) = inl refl

    store_speaks : (piece : Piece) → Speaks (store_outcome m.environment y piece)
    unfolding store_outcome
    store_speaks piece = either (nat_le (piece.at + length piece.bytes) (w.size.pages * PAGE_BYTES)) _ _ (λ _. stored_speaks (store w x.context x.job piece)) (λ _. inl refl)

    shared_speaks : x.status ≡ status.Running → (i : Instr) → (advanced m.text x.regs).next ≡ Shared i → (op : Op) → i.op ≡ op → Speaks (shared_outcome guest_calls t m.environment y i op)
    unfolding shared_outcome
    shared_speaks running i next Stb is = store_speaks _
    shared_speaks running i next Stw is = either (is_aligned (address (regs_at m x) i)) _ _ (λ _. store_speaks (record { at = address (regs_at m x) i; bytes = to_le_bytes w64 (slice_index (regs_at m x).r i.rb) })) (λ _. inl refl)
    shared_speaks running i next Sys is = call_speaks i.imm (λ accepted. record { instr = i; found = found; running = running; next = next; op = is; number = refl; accepted = accepted })
    shared_speaks running i next _ is = inl refl

    next_speaks : x.status ≡ status.Running → (next : Next) → (advanced m.text x.regs).next ≡ next → Speaks (next_outcome guest_calls t m.environment y next)
    unfolding next_outcome
    next_speaks running Pause is = inl refl
    next_speaks running BadPc is = inl refl
    next_speaks running (Shared i) is = shared_speaks running i is i.op refl

    outcome_speaks : x.status ≡ status.Running → Speaks (outcome_of m t x)
    unfolding advance_outcome
    outcome_speaks running = next_speaks running (advanced m.text x.regs).next refl

    by_status : (s : ThreadStatus) → x.status ≡ s → ((x.status ≡ status.Idle) ⊎ ((after_outcome m t (thread_outcome guest_calls t m.environment m.serve m.text x s)).environment.channels ≡ io)) ⊎ Heard
    by_status status.Running is = elim (outcome_speaks is) [
      | inl same ↦ inl (inr (ap (λ (e : Environment). e.channels) (settled_same t m.serve (outcome_of m t x)) ∙ same))
      | inr heard ↦ inr heard
    ]
    by_status status.Idle is = inl (inl is)
    by_status (status.Done code) is = inl (inr refl)
    by_status (status.Faulted f) is = inl (inr refl)

    pub step_speaks : ((x.status ≡ status.Idle) ⊎ ((step m t).environment.channels ≡ io)) ⊎ Heard
    unfolding step_by
    step_speaks = subst (λ (o : Option Thread). ((x.status ≡ status.Idle) ⊎ ((after_thread guest_calls m t o).environment.channels ≡ io)) ⊎ Heard) (sym found) (by_status x.status refl)

  pub no_thread_speaks : slice_get m.threads t ≡ None → (step m t).environment.channels ≡ io
  unfolding step_by
  no_thread_speaks none = ap (λ (o : Option Thread). (after_thread guest_calls m t o).environment.channels) none
