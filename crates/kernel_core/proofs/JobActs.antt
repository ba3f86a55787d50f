-- An act of a thread in a context of its job stays in the job.
use Rattle.std.proofs.Common.{◌≡◌, ℕ, ◌+◌, ◌*◌, refl, ap, subst, ◌∙◌, Bool, true, false, cond, eqb, leb, Option, Some, None, length}
use Rattle.std.specs.Int.{w64, to_le_bytes}
use Rattle.guest_isa.specs.declared.instr.Instr.{Instr}
use Rattle.guest_isa.specs.declared.op.Op.{Op}
use Rattle.guest_isa.specs.declared.op.Op.TheVariants.{Ldb, Ldw, Stb, Stw, Sys, Halt}
use Rattle.guest_machine.specs.declared.progress.Advance.{Advance}
use Rattle.guest_machine.specs.declared.progress.Next.{Next}
use Rattle.guest_machine.specs.declared.progress.Next.TheVariants.{Shared, Pause, BadPc}
use Rattle.kernel_core.proofs.Worlds.{StaysInJob}
use Rattle.kernel_core.proofs.JobStays.{stays_created, stays_overlaid, stays_plain_here, stays_restricted, stays_store, stays_switched, stays_syscalled}
use Rattle.kernel_core.specs.Machine.{Environment}
use Rattle.kernel_core.specs.Step.{Calls, Outcome, advance_outcome, args_of, beside, call_outcome, create_outcome, faulted, guest_calls, is_aligned, loaded, next_outcome, overlay_outcome, plain_outcome, plainly, restrict_outcome, shared_outcome, store_outcome, stored_outcome, switch_outcome, switched, syscall_outcome, unchanged, with_regs, with_status, with_world, word_outcome}
use Rattle.kernel_core.specs.declared.calling.TheConstants.{LW_CREATE, LW_OVERLAY, LW_RESTRICT, LW_SWITCH, LW_SYSCALL}
use Rattle.kernel_core.specs.declared.thread.Thread.{Thread}
use Rattle.lwc_base.specs.Store.{Absent, Done, Full, ReadOnly, Piece, Stored, store}
use Rattle.lwc_base.specs.Jobs.{NamesKeepToJobs}
use Rattle.lwc_base.specs.World.{World, is_live}
use Rattle.lwc_base.specs.declared.answer.Answer.{Answer}
use Rattle.lwc_base.specs.declared.answer.Answer.TheVariants as answers
use Rattle.lwc_base.specs.declared.answer.Moved.{Moved}
use Rattle.lwc_base.specs.declared.answer.Moved.TheVariants as moved
use Rattle.lwc_types.specs.declared.fault.Fault.TheVariants as fault
use Rattle.lwc_types.specs.declared.fault.ThreadStatus.TheVariants as status
use Rattle.lwc_types.specs.declared.page.TheConstants.{PAGE_BYTES}
use Rattle.lwc_overlay.specs.OverlayCall.{overlay}
use Rattle.lwc_overlay.specs.RestrictCall.{restrict}
use Rattle.lwc_create.specs.Create.{create}
use Rattle.lwc_switch.specs.Switch.{switch}
use Rattle.lwc_syscall.specs.Changes.{IsWell}
use Rattle.lwc_syscall.specs.declared.answer.CallAnswer.{CallAnswer}
use Rattle.lwc_syscall.specs.declared.answer.CallAnswer.TheVariants as call_answers
use Rattle.lwc_syscall.specs.Plain.{plain, plain_call}
use Rattle.lwc_syscall.specs.Syscall.{lw_syscall}

-- an outcome stays in its thread's job
pub record IsLocal (e : Environment) (x : Thread) (outcome : Outcome) : Type 0 where
  pub stays : StaysInJob x.job e.world outcome.environment.world
  pub here : outcome.thread.context.job ≡ x.job

-- each call of a table stays in its thread's job
abbrev pub AllLocal : Calls → Type 0
AllLocal calls =
    (number t : ℕ) (e : Environment) (x : Thread) → NamesKeepToJobs e.world → IsWell e.world e.channels → is_live e.world x.context ≡ true → x.context.job ≡ x.job →
    IsLocal e x (calls number t e x)

module _ (e : Environment) (x : Thread) (names : NamesKeepToJobs e.world) (well : IsWell e.world e.channels) (live : is_live e.world x.context ≡ true) (ours : x.context.job ≡ x.job) where
  same : StaysInJob x.job e.world e.world
  same = record { kept = names; contexts = λ d other. refl; next = λ j other. refl }

  same_context : (y : Thread) → y.context ≡ x.context → IsLocal e x (unchanged e y)
  same_context y is = record { stays = same; here = ap (λ c. c.job) is ∙ ours }

  local_loaded : (d : ℕ) (found : Option ℕ) → IsLocal e x (unchanged e (loaded x d found))
  local_loaded d None = same_context (faulted x fault.BadLoad) refl
  local_loaded d (Some value) = same_context _ refl

  local_stored : (piece : Piece) (s : Stored) → store e.world x.context x.job piece ≡ s → IsLocal e x (stored_outcome e x s)
  local_stored piece Absent is = same_context (faulted x fault.BadStore) refl
  local_stored piece ReadOnly is = same_context (faulted x fault.ReadOnly) refl
  local_stored piece Full is = same_context (faulted x fault.NoFrame) refl
  local_stored piece (Done v) is = record { stays = stays_store x.context x.job e.world v piece ours is names; here = ours }

  local_chosen : (b : Bool) (first second : Outcome) → IsLocal e x first → IsLocal e x second → IsLocal e x (cond b first second)
  local_chosen true first second p q = p
  local_chosen false first second p q = q

  local_store : (piece : Piece) → IsLocal e x (store_outcome e x piece)
  unfolding store_outcome
  local_store piece =
      local_chosen (leb (piece.at + length piece.bytes) (e.world.size.pages * PAGE_BYTES)) (stored_outcome e x (store e.world x.context x.job piece)) (unchanged e (faulted x fault.BadStore))
      (local_stored piece _ refl) (same_context (faulted x fault.BadStore) refl)

  local_word : (at value : ℕ) → IsLocal e x (word_outcome e x at value)
  local_word at value =
      local_chosen (is_aligned at) (store_outcome e x (record { at = at; bytes = to_le_bytes w64 value })) (unchanged e (faulted x fault.BadStore))
      (local_store (record { at = at; bytes = to_le_bytes w64 value })) (same_context (faulted x fault.BadStore) refl)

  local_answered : (answer : Answer) (v : World) → StaysInJob x.job e.world v → IsLocal e x (call_outcome e x (answer, v))
  local_answered (answers.Done regs) v stays = record { stays = stays; here = ours }
  local_answered (answers.Refused r) v stays = record { stays = stays; here = ours }

  local_create : IsLocal e x (create_outcome e x)
  local_create = local_answered (create e.world x.context x.job x.regs).0 (create e.world x.context x.job x.regs).1 (stays_created x.context e.world live names x.job ours x.regs)

  local_restrict : IsLocal e x (restrict_outcome e x)
  local_restrict =
      local_answered (restrict e.world x.context x.regs).0 (restrict e.world x.context x.regs).1
      (subst (λ (j : ℕ). StaysInJob j e.world (restrict e.world x.context x.regs).1) ours (stays_restricted x.context e.world live names e.channels well x.regs))

  local_overlay : IsLocal e x (overlay_outcome e x)
  local_overlay = local_answered (overlay e.world x.context x.job x.regs).0 (overlay e.world x.context x.job x.regs).1 (stays_overlaid x.context e.world live names e.channels well x.job ours x.regs)

  local_moved : (t : ℕ) (answer : Moved) → (switch e.world x.context t x.regs).0 ≡ answer → IsLocal e x (unchanged (with_world e (switch e.world x.context t x.regs).1) (switched x answer))
  local_moved t (moved.To d regs) is = record {
    stays = subst (λ (j : ℕ). StaysInJob j e.world (switch e.world x.context t x.regs).1) ours (stays_switched x.context e.world live names e.channels well t x.regs).0;
    here = (stays_switched x.context e.world live names e.channels well t x.regs).1 d regs is ∙ ours;
  }
  local_moved t (moved.Refused r) is = record {
    stays = subst (λ (j : ℕ). StaysInJob j e.world (switch e.world x.context t x.regs).1) ours (stays_switched x.context e.world live names e.channels well t x.regs).0;
    here = ours;
  }

  local_plainly : (f : Environment) (answer : CallAnswer) → StaysInJob x.job e.world f.world → IsLocal e x (unchanged f (plainly x answer))
  local_plainly f (call_answers.Value value) stays = record { stays = stays; here = ours }
  local_plainly f (call_answers.Exit code) stays = record { stays = stays; here = ours }
  local_plainly f (call_answers.Refused r) stays = record { stays = stays; here = ours }

  local_call : (t number : ℕ) → IsLocal e x (guest_calls number t e x)
  unfolding guest_calls
  local_call t number =
      local_chosen (eqb number LW_CREATE) (create_outcome e x) _ local_create
      (local_chosen (eqb number LW_SWITCH) (switch_outcome t e x) _ (local_moved t _ refl)
      (local_chosen (eqb number LW_RESTRICT) (restrict_outcome e x) _ local_restrict
      (local_chosen (eqb number LW_OVERLAY) (overlay_outcome e x) _ local_overlay
      (local_chosen (eqb number LW_SYSCALL) (syscall_outcome e x) (plain_outcome number e x)
      (local_plainly (beside (lw_syscall e.world e.channels x.context x.job x.regs).world (lw_syscall e.world e.channels x.context x.job x.regs).io) _ (stays_syscalled x.context e.world live names e.channels well x.job ours x.regs))
      (local_plainly (beside (plain e.world e.channels (record { memory = x.context; slots = x.context; cred = x.context }) x.job (plain_call number) (args_of x.regs)).world (plain e.world e.channels (record { memory = x.context; slots = x.context; cred = x.context }) x.job (plain_call number) (args_of x.regs)).io) _
      (stays_plain_here x.context e.world live names e.channels well x.job ours (plain_call number) (args_of x.regs)))))))

  module _ (calls : Calls) (local : AllLocal calls) where
    local_shared : (t : ℕ) (i : Instr) (op : Op) → IsLocal e x (shared_outcome calls t e x i op)
    unfolding shared_outcome
    local_shared t i Ldb = local_loaded i.rd _
    local_shared t i Ldw = local_loaded i.rd _
    local_shared t i Stb = local_store _
    local_shared t i Stw = local_word _ _
    local_shared t i Sys = local i.imm t e x names well live ours
    local_shared t i Halt = same_context (with_status x (status.Done 0)) refl
    local_shared t i _ = same_context x refl

    local_next : (t : ℕ) (next : Next) → IsLocal e x (next_outcome calls t e x next)
    unfolding next_outcome
    local_next t Pause = same_context x refl
    local_next t BadPc = same_context (faulted x fault.BadPc) refl
    local_next t (Shared i) = local_shared t i i.op

pub guest_calls_are_local : AllLocal guest_calls
guest_calls_are_local number t e x names well live ours = local_call e x names well live ours t number

-- a step of a running thread in a context of its job stays in the job
pub local_step : (calls : Calls) → AllLocal calls → (t : ℕ) (e : Environment) (x : Thread) (advance : Advance) → NamesKeepToJobs e.world → IsWell e.world e.channels → is_live e.world x.context ≡ true → x.context.job ≡ x.job →
    IsLocal e x (advance_outcome calls t e x advance)
unfolding advance_outcome
local_step calls local t e x advance names well live ours =
    let there = local_next e (with_regs x advance.after) names well live ours calls local t advance.next in
    record { stays = there.stays; here = there.here }
