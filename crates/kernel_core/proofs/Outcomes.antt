-- What the outcome of a step leaves of its thread and of the world.
use Rattle.std.proofs.Common.{◌≡◌, ℕ, ◌+◌, ◌-◌, ◌*◌, ◌≤◌, ◌<◌, refl, sym, ap, subst, ◌∙◌, Bool, true, false, cond, eqb, leb, Option, Some, None, List, length, arith}
use Rattle.std.specs.Int.{w64, to_le_bytes}
use Rattle.std.specs.List.{Contains}
use Rattle.std.proofs.lemmas.Bool.Decides.{nat_tests}
use Rattle.guest_isa.specs.declared.instr.Instr.{Instr}
use Rattle.guest_isa.specs.declared.op.Op.{Op}
use Rattle.guest_isa.specs.declared.op.Op.TheVariants.{Ldb, Ldw, Stb, Stw, Sys, Halt}
use Rattle.guest_machine.specs.declared.progress.Advance.{Advance}
use Rattle.guest_machine.specs.declared.progress.Next.{Next}
use Rattle.guest_machine.specs.declared.progress.Next.TheVariants.{Shared, Pause, BadPc}
use Rattle.kernel_core.proofs.Worlds.{Grows, grows_created, grows_more, grows_not, grows_numbers, grows_overlay, grows_slot, grows_store, grows_switched, well_created, well_switched}
use Rattle.kernel_core.specs.Machine.{Environment, has_ended, steps_left}
use Rattle.kernel_core.specs.Ready.{IsReadyThread, IsRunnable, IsWithinLimits, KeepsContexts, WhileRunning}
use Rattle.kernel_core.specs.Step.{Calls, Outcome, advance_outcome, args_of, beside, call_outcome, create_outcome, faulted, guest_calls, is_aligned, loaded, next_outcome, overlay_outcome, plain_outcome, plainly, refused, restrict_outcome, shared_outcome, status_with, store_outcome, stored_outcome, switch_outcome, switched, syscall_outcome, three_times, unchanged, with_regs, with_result, with_status, with_world, word_outcome}
use Rattle.kernel_core.specs.declared.calling.TheConstants.{LW_CREATE, LW_OVERLAY, LW_RESTRICT, LW_SWITCH, LW_SYSCALL}
use Rattle.kernel_core.specs.declared.thread.Thread.{Thread}
use Rattle.lwc_base.specs.Life.{is_of}
use Rattle.lwc_base.specs.Refusals.{first_refusal}
use Rattle.lwc_base.specs.Store.{Absent, Done, Full, ReadOnly, Piece, Stored, store}
use Rattle.lwc_base.specs.World.{World, is_live}
use Rattle.lwc_base.specs.declared.answer.Answer.{Answer}
use Rattle.lwc_base.specs.declared.answer.Answer.TheVariants as answers
use Rattle.lwc_base.specs.declared.answer.Moved.{Moved}
use Rattle.lwc_base.specs.declared.answer.Moved.TheVariants as moved
use Rattle.lwc_types.specs.declared.fault.Fault.{Fault}
use Rattle.lwc_types.specs.declared.fault.Fault.TheVariants as fault
use Rattle.lwc_types.specs.declared.fault.ThreadStatus.{ThreadStatus}
use Rattle.lwc_types.specs.declared.fault.ThreadStatus.TheVariants as status
use Rattle.lwc_types.specs.declared.name.Name.{Name}
use Rattle.lwc_types.specs.declared.page.TheConstants.{PAGE_BYTES}
use Rattle.lwc_types.specs.declared.refusal.Refusal.{Refusal}
use Rattle.lwc_types.specs.declared.regs.Regs.{Regs}
use Rattle.lwc_create.specs.Create as create
use Rattle.lwc_create.specs.Create.{after_call, items_of, no_caller, refusals}
use Rattle.lwc_overlay.specs.OverlayCall as overlaying
use Rattle.lwc_overlay.specs.OverlayCall.{IsTaken}
use Rattle.lwc_overlay.specs.RestrictCall as restricting
use Rattle.lwc_overlay.specs.RestrictCall.{IsRestriction}
use Rattle.lwc_switch.specs.Switch as switching
use Rattle.lwc_switch.specs.Switch.{IsSwitch, switch}
use Rattle.lwc_syscall.specs.Changes.{IsPlainChange, IsWell}
use Rattle.lwc_syscall.specs.Plain.{plain, plain_call}
use Rattle.lwc_syscall.specs.Syscall.{lw_syscall}
use Rattle.lwc_syscall.specs.declared.answer.CallAnswer.{CallAnswer}
use Rattle.lwc_syscall.specs.declared.answer.CallAnswer.TheVariants.{Value, Exit}
use Rattle.lwc_syscall.specs.declared.answer.CallAnswer.TheVariants as call_answers
use Rattle.lwc_syscall.specs.declared.calls.CallContexts.{CallContexts}
use Rattle.lwc_base.proofs.InRange.{files-overlay}
use Rattle.lwc_base.proofs.NamedContexts.{contexts-overlay, named-live}
use Rattle.lwc_base.proofs.Sound.{sound-overlay}
use Rattle.lwc_create.proofs.Allowed.{fewer_contexts, fewer_groups, spec_allowed}
use Rattle.lwc_overlay.proofs.Accepted.{restriction, taken}
use Rattle.lwc_switch.proofs.Accepted.{accepted}
use Rattle.lwc_syscall.proofs.Does.{does-one_thing}
use Rattle.lwc_syscall.proofs.Kept.{inputs-change, numbers-change, well-change, well-slot, well-store}
use Rattle.lwc_syscall.proofs.Syscalls.{inputs-over, numbers-over, well-over}

-- what an act may do to what threads have in common, for a job: the world stays well and grows little, and files and requests stay
pub record Changes (job : ℕ) (e f : Environment) : Type 0 where
  pub grows : Grows job 2 e.world f.world
  pub well : IsWell f.world f.channels
  pub inputs : (f.channels.files ≡ e.channels.files) × (f.channels.requests ≡ e.channels.requests)

-- what threads have in common changes as it may for a job, and the thread is in a live context
pub record Ends (job : ℕ) (e : Environment) (outcome : Outcome) : Type 0 where
  pub changes : Changes job e outcome.environment
  pub live : is_live outcome.environment.world outcome.thread.context ≡ true

-- the thread keeps its job, and may make no more steps; the rest is so where the world was well, and the thread's context was live
pub record Acts (e : Environment) (x : Thread) (outcome : Outcome) : Type 0 where
  pub job : outcome.thread.job ≡ x.job
  pub left : (more n : ℕ) → steps_left more n outcome.thread.status ≤ steps_left more n x.status
  pub ends : IsWell e.world e.channels → is_live e.world x.context ≡ true → Ends x.job e outcome

pub same_world : (job : ℕ) (e : Environment) → IsWell e.world e.channels → Changes job e e
same_world job e well = record { grows = grows_not job 2 e.world; well = well; inputs = (refl, refl) }

pub acts_unchanged : (e : Environment) (x y : Thread) → y.context ≡ x.context → y.job ≡ x.job → ((more n : ℕ) → steps_left more n y.status ≤ steps_left more n x.status) → Acts e x (unchanged e y)
acts_unchanged e x y context job left = record {
  job = job;
  left = left;
  ends = λ well live. record { changes = same_world x.job e well; live = ap (is_live e.world) context ∙ live };
}

pub acts_regs : (e : Environment) (x : Thread) (regs : Regs) → Acts e x (unchanged e (with_regs x regs))
acts_regs e x regs = acts_unchanged e x (with_regs x regs) refl refl (λ more n. omega arith)

acts_faulted : (e : Environment) (x : Thread) (f : Fault) → Acts e x (unchanged e (faulted x f))
acts_faulted e x f = acts_unchanged e x (faulted x f) refl refl (λ more n. omega arith)

acts_loaded : (e : Environment) (x : Thread) (d : ℕ) (found : Option ℕ) → Acts e x (unchanged e (loaded x d found))
acts_loaded e x d None = acts_faulted e x fault.BadLoad
acts_loaded e x d (Some value) = acts_regs e x (with_result x.regs d value)

pub acts_chosen : (e : Environment) (x : Thread) (b : Bool) (first second : Outcome) → Acts e x first → Acts e x second → Acts e x (cond b first second)
acts_chosen e x true first second p q = p
acts_chosen e x false first second p q = q

acts_stored : (e : Environment) (x : Thread) (s : Stored) → ((v : World) → s ≡ Done v → IsWell e.world e.channels → is_live e.world x.context ≡ true → Changes x.job e (with_world e v)) →
    Acts e x (stored_outcome e x s)
acts_stored e x Absent changes = acts_faulted e x fault.BadStore
acts_stored e x ReadOnly changes = acts_faulted e x fault.ReadOnly
acts_stored e x Full changes = acts_faulted e x fault.NoFrame
acts_stored e x (Done v) changes = record {
  job = refl;
  left = λ more n. omega arith;
  ends = λ well live. let done = changes v refl well live in record { changes = done; live = done.grows.live x.context live };
}

acts_store : (e : Environment) (x : Thread) (piece : Piece) → length piece.bytes ≤ 4096 → Acts e x (store_outcome e x piece)
unfolding store_outcome
acts_store e x piece short =
    acts_chosen e x (leb (piece.at + length piece.bytes) (e.world.size.pages * PAGE_BYTES))
    (stored_outcome e x (store e.world x.context x.job piece)) (unchanged e (faulted x fault.BadStore))
    (acts_stored e x (store e.world x.context x.job piece) (λ v done well live. record {
      grows = grows_store e.world v x.context x.job piece short done;
      well = well-store e.world v e.channels x.context x.job piece live done well;
      inputs = (refl, refl);
    }))
    (acts_faulted e x fault.BadStore)

acts_word : (e : Environment) (x : Thread) (at value : ℕ) → Acts e x (word_outcome e x at value)
acts_word e x at value =
    acts_chosen e x (is_aligned at) (store_outcome e x (record { at = at; bytes = to_le_bytes w64 value })) (unchanged e (faulted x fault.BadStore))
    (acts_store e x (record { at = at; bytes = to_le_bytes w64 value }) (omega arith)) (acts_faulted e x fault.BadStore)

-- the end of the call that makes a context
acts_ended : (e : Environment) (x : Thread) (slot : ℕ) (refusal : Option Refusal) → first_refusal (refusals e.world x.context x.job x.regs) ≡ refusal →
    Acts e x (call_outcome e x (create.ended e.world x.context x.job x.regs slot refusal))
acts_ended e x slot (Some r) is = acts_regs e x (with_result x.regs 0 _)
acts_ended e x slot None is = record {
  job = refl;
  left = λ more n. omega arith;
  ends = λ well live.
      let items = items_of e.world x.context x.regs in
      let spec = spec_allowed e.world x.context x.job x.regs is in
      let room = fewer_groups e.world x.context x.job x.regs is in
      let grows = grows_created e.world x.context x.job items spec well.sound live room (after_call x.regs no_caller) slot _ (fewer_contexts e.world x.context x.job x.regs is) in
      record {
        changes = record {
          grows = grows;
          well = well_created e.world x.context x.job items spec well.sound live room (after_call x.regs no_caller) slot _ e.channels well;
          inputs = (refl, refl);
        };
        live = grows.live x.context live;
      };
}

acts_create : (e : Environment) (x : Thread) → Acts e x (create_outcome e x)
unfolding create.create
acts_create e x = acts_ended e x _ _ refl

-- where a call was refused nothing has changed
acts_answered : (e : Environment) (x : Thread) (answer : Answer) (v : World) → ((refusal : Refusal) → answer ≡ answers.Refused refusal → v ≡ e.world) →
    ((regs : Regs) → answer ≡ answers.Done regs → IsWell e.world e.channels → is_live e.world x.context ≡ true → Changes x.job e (with_world e v)) →
    Acts e x (call_outcome e x (answer, v))
acts_answered e x (answers.Refused r) v stays changes =
    subst (λ (u : World). Acts e x (unchanged (with_world e u) (refused x r))) (sym (stays r refl)) (acts_regs e x (with_result x.regs 0 _))
acts_answered e x (answers.Done regs) v stays changes = record {
  job = refl;
  left = λ more n. omega arith;
  ends = λ well live. let done = changes regs refl well live in record { changes = done; live = done.grows.live x.context live };
}

stays_restricted : (w v : World) (c : Name) (regs : Regs) (first : Option Refusal) (refusal : Refusal) → restricting.ended w c regs first ≡ (answers.Refused refusal, v) → v ≡ w
stays_restricted w v c regs (Some r) refusal is = sym (ap (λ (p : Answer × World). p.1) is)
stays_restricted w v c regs None refusal is = let other = ap (λ (p : Answer × World). p.0) is in cc

stays_overlaid : (w v : World) (c : Name) (job : ℕ) (regs : Regs) (first : Option Refusal) (refusal : Refusal) → overlaying.ended w c job regs first ≡ (answers.Refused refusal, v) → v ≡ w
stays_overlaid w v c job regs (Some r) refusal is = sym (ap (λ (p : Answer × World). p.1) is)
stays_overlaid w v c job regs None refusal is = let other = ap (λ (p : Answer × World). p.0) is in cc

restricted_changes : (e : Environment) (x : Thread) (v : World) → IsRestriction e.world v x.context x.regs → IsWell e.world e.channels → is_live e.world x.context ≡ true → Changes x.job e (with_world e v)
restricted_changes e x v is well live =
    subst (λ (u : World). Changes x.job e (with_world e u)) (sym is.made)
    (record {
      grows = grows_more x.job 0 2 e.world _ (omega arith) (grows_slot x.job e.world x.context _ _);
      well = well-slot e.world e.channels x.context _ _ tt (λ d of. named-live e.world x.context d _ well.named live is.within (ap (is_of d) is.had ∙ of)) well;
      inputs = (refl, refl);
    })

acts_restrict : (e : Environment) (x : Thread) → Acts e x (restrict_outcome e x)
unfolding restricting.restrict
acts_restrict e x =
    acts_answered e x (restricting.restrict e.world x.context x.regs).0 (restricting.restrict e.world x.context x.regs).1 (λ r is. restrict_stays r is)
    (λ regs is. restricted_changes e x _ (restriction e.world x.context x.regs _ regs (ap (λ a. (a, (restricting.restrict e.world x.context x.regs).1)) is)))
  where
    restrict_stays : (r : Refusal) → (restricting.restrict e.world x.context x.regs).0 ≡ answers.Refused r → (restricting.restrict e.world x.context x.regs).1 ≡ e.world
    restrict_stays r is = stays_restricted e.world _ x.context x.regs _ r (ap (λ a. (a, (restricting.restrict e.world x.context x.regs).1)) is)

taken_changes : (e : Environment) (x : Thread) (v : World) → IsTaken e.world v x.context x.job x.regs → IsWell e.world e.channels → is_live e.world x.context ≡ true → Changes x.job e (with_world e v)
taken_changes e x v is well live =
    subst (λ (u : World). Changes x.job e (with_world e u)) (sym is.made)
    (record {
      grows = grows_overlay e.world is.giver x.job _ is.spec well.sound is.live is.group x.context;
      well = record {
        sound = sound-overlay e.world x.context is.giver x.job _ is.spec is.live well.sound;
        named = contexts-overlay e.world x.context is.giver x.job _ well.sound.fresh live is.live well.named;
        files = files-overlay e.channels e.world x.context is.giver x.job _ is.live well.files;
      };
      inputs = (refl, refl);
    })

acts_overlay : (e : Environment) (x : Thread) → Acts e x (overlay_outcome e x)
unfolding overlaying.overlay
acts_overlay e x =
    acts_answered e x (overlaying.overlay e.world x.context x.job x.regs).0 (overlaying.overlay e.world x.context x.job x.regs).1 (λ r is. overlay_stays r is)
    (λ regs is well live. taken_changes e x _ (taken e.world x.context x.regs x.job well.named live _ regs (ap (λ a. (a, (overlaying.overlay e.world x.context x.job x.regs).1)) is)) well live)
  where
    overlay_stays : (r : Refusal) → (overlaying.overlay e.world x.context x.job x.regs).0 ≡ answers.Refused r → (overlaying.overlay e.world x.context x.job x.regs).1 ≡ e.world
    overlay_stays r is = stays_overlaid e.world _ x.context x.job x.regs _ r (ap (λ a. (a, (overlaying.overlay e.world x.context x.job x.regs).1)) is)

-- where a switch was refused nothing has changed
stays_refused : (w v : World) (c d : Name) (t n : ℕ) (regs : Regs) (first : Option Refusal) (refusal : Refusal) →
    switching.ended w c t regs d n first ≡ (moved.Refused refusal, v) → v ≡ w
stays_refused w v c d t n regs (Some r) refusal is = sym (ap (λ (p : Moved × World). p.1) is)
stays_refused w v c d t n regs None refusal is = let other = ap (λ (p : Moved × World). p.0) is in cc

acts_moved : (t : ℕ) (e : Environment) (x : Thread) (answer : Moved) (v : World) → switch e.world x.context t x.regs ≡ (answer, v) →
    Acts e x (unchanged (with_world e v) (switched x answer))
unfolding switch
acts_moved t e x (moved.Refused r) v is =
    let same : v ≡ e.world = stays_refused e.world v x.context _ t _ x.regs _ r is in
    subst (λ (u : World). Acts e x (unchanged (with_world e u) (refused x r))) (sym same) (acts_regs e x (with_result x.regs 0 _))
acts_moved t e x (moved.To d regs) v is = record {
  job = refl;
  left = λ more n. omega arith;
  ends = λ well live.
      let went : IsSwitch e.world v x.context d t x.regs regs = accepted e.world x.context t x.regs well.named live v d regs is in
      let grows = grows_switched x.job e.world x.context d t _ went.slot _ in
      let more : Grows x.job 2 e.world (switching.switched e.world x.context t x.regs d went.slot) = grows_more x.job 0 2 e.world _ (omega arith) grows in
      subst (λ (u : World). Ends x.job e (unchanged (with_world e u) (record x { context = d; regs = regs }))) (sym went.made)
      (record {
        changes = record {
          grows = more;
          well = well_switched e.world x.context d t _ went.slot _ e.channels live well;
          inputs = (refl, refl);
        };
        live = grows.live d went.live;
      });
}

acts_switch : (t : ℕ) (e : Environment) (x : Thread) → Acts e x (switch_outcome t e x)
acts_switch t e x = acts_moved t e x _ _ refl

-- numbers that are kept grow little
plain_changes : (e f : Environment) (job : ℕ) (targets : CallContexts) → IsPlainChange e.world e.channels targets job f.world f.channels → IsWell e.world e.channels → is_live e.world targets.memory ≡ true →
    Changes job e f
plain_changes e f job targets does well live = record {
  grows = grows_numbers job e.world f.world (numbers-change e.world e.channels targets job f.world f.channels does);
  well = well-change e.world e.channels targets job f.world f.channels does live well;
  inputs = inputs-change e.world e.channels targets job f.world f.channels does;
}

acts_plainly : (e f : Environment) (x : Thread) (answer : CallAnswer) → (IsWell e.world e.channels → is_live e.world x.context ≡ true → Changes x.job e f) → Acts e x (unchanged f (plainly x answer))
acts_plainly e f x (Value value) changes = record {
  job = refl;
  left = λ more n. omega arith;
  ends = λ well live. let done = changes well live in record { changes = done; live = done.grows.live x.context live };
}
acts_plainly e f x (Exit code) changes = record {
  job = refl;
  left = λ more n. omega arith;
  ends = λ well live. let done = changes well live in record { changes = done; live = done.grows.live x.context live };
}
acts_plainly e f x (call_answers.Refused r) changes = record {
  job = refl;
  left = λ more n. omega arith;
  ends = λ well live. let done = changes well live in record { changes = done; live = done.grows.live x.context live };
}

acts_plain : (number : ℕ) (e : Environment) (x : Thread) → Acts e x (plain_outcome number e x)
acts_plain number e x =
    let ended = plain e.world e.channels (three_times x.context) x.job (plain_call number) (args_of x.regs) in
    acts_plainly e (beside ended.world ended.io) x ended.answer
    (λ well live. plain_changes e (beside ended.world ended.io) x.job (three_times x.context)
    (does-one_thing e.world e.channels (three_times x.context) x.job (plain_call number) (args_of x.regs) well.named well.files live) well live)

acts_syscall : (e : Environment) (x : Thread) → Acts e x (syscall_outcome e x)
acts_syscall e x =
    let ended = lw_syscall e.world e.channels x.context x.job x.regs in
    acts_plainly e (beside ended.world ended.io) x ended.answer
    (λ well live. record {
      grows = grows_numbers x.job e.world ended.world (numbers-over e.world e.channels x.context x.job x.regs well.named well.files live);
      well = well-over e.world e.channels x.context x.job x.regs well.named well.files live well.sound;
      inputs = inputs-over e.world e.channels x.context x.job x.regs well.named well.files live;
    })

acts_call : (t number : ℕ) (e : Environment) (x : Thread) → Acts e x (guest_calls number t e x)
unfolding guest_calls
acts_call t number e x =
    acts_chosen e x (eqb number LW_CREATE) (create_outcome e x) _ (acts_create e x)
    (acts_chosen e x (eqb number LW_SWITCH) (switch_outcome t e x) _ (acts_switch t e x)
    (acts_chosen e x (eqb number LW_RESTRICT) (restrict_outcome e x) _ (acts_restrict e x)
    (acts_chosen e x (eqb number LW_OVERLAY) (overlay_outcome e x) _ (acts_overlay e x)
    (acts_chosen e x (eqb number LW_SYSCALL) (syscall_outcome e x) (plain_outcome number e x) (acts_syscall e x) (acts_plain number e x)))))

-- each call of a table acts
abbrev pub AllAct : Calls → Type 0
AllAct calls = (number t : ℕ) (e : Environment) (x : Thread) → Acts e x (calls number t e x)

pub guest_calls_act : AllAct guest_calls
guest_calls_act number t e x = acts_call t number e x

acts_shared : (calls : Calls) → AllAct calls → (t : ℕ) (e : Environment) (x : Thread) (i : Instr) (op : Op) → Acts e x (shared_outcome calls t e x i op)
unfolding shared_outcome
acts_shared calls act t e x i Ldb = acts_loaded e x i.rd _
acts_shared calls act t e x i Ldw = acts_loaded e x i.rd _
acts_shared calls act t e x i Stb = acts_store e x _ (omega arith)
acts_shared calls act t e x i Stw = acts_word e x _ _
acts_shared calls act t e x i Sys = act i.imm t e x
acts_shared calls act t e x i Halt = acts_unchanged e x (with_status x (status.Done 0)) refl refl (λ more n. omega arith)
acts_shared calls act t e x i _ = acts_regs e x x.regs

acts_next : (calls : Calls) → AllAct calls → (t : ℕ) (e : Environment) (x : Thread) (next : Next) → Acts e x (next_outcome calls t e x next)
unfolding next_outcome
acts_next calls act t e x Pause = acts_regs e x x.regs
acts_next calls act t e x BadPc = acts_faulted e x fault.BadPc
acts_next calls act t e x (Shared i) = acts_shared calls act t e x i i.op

-- a thread is ready in a world that has grown
pub still_ready : (job most : ℕ) (w v : World) → Grows job most w v → (x : Thread) → IsReadyThread w x → IsReadyThread v x
still_ready job most w v grows x ready = record { live = grows.live x.context ready.live; budget = ready.budget; runs = still_runs x.status ready.runs }
  where
    runnable : IsRunnable w x → IsRunnable v x
    runnable runs = record { some_job = runs.some_job; known_job = omega (arith, ap (λ s. s.jobs) grows.size, runs.known_job); some_step = runs.some_step }

    still_runs : (s : ThreadStatus) → WhileRunning s (IsRunnable w x) → WhileRunning s (IsRunnable v x)
    still_runs status.Running runs = runnable runs
    still_runs status.Idle runs = tt
    still_runs (status.Done code) runs = tt
    still_runs (status.Faulted f) runs = tt

-- what a step of a running thread leaves: what threads have in common has changed as it may, the thread is ready for the same job, and it may make fewer steps
pub record IsStep (e : Environment) (x : Thread) (outcome : Outcome) : Type 0 where
  pub changes : Changes x.job e outcome.environment
  pub limits : (jobs : List ℕ) → Contains jobs x.job → IsWithinLimits e.world jobs → IsWithinLimits outcome.environment.world jobs
  pub ready : IsReadyThread outcome.environment.world outcome.thread
  pub job : outcome.thread.job ≡ x.job
  pub fewer : (more : ℕ) → steps_left more outcome.thread.budget outcome.thread.status < x.budget + more
  pub going : has_ended outcome.thread.status ≡ false → outcome.thread.status ≡ status.Running
  pub some : 1 ≤ outcome.thread.job

-- a thread of a status that steps have left may make no more steps
left_by : (more left : ℕ) (s : ThreadStatus) → steps_left more left s ≤ left + more → (steps_left more left (status_with left s) ≤ left + more)
left_by more left status.Running few = by_test (eqb left 0)
  where
    by_test : (b : Bool) → steps_left more left (cond b (status.Faulted fault.Budget) status.Running) ≤ left + more
    by_test true = omega arith
    by_test false = omega arith
left_by more left status.Idle few = few
left_by more left (status.Done code) few = omega arith
left_by more left (status.Faulted f) few = omega arith

-- a thread that goes on is running
going_by : (left : ℕ) (s : ThreadStatus) → steps_left 0 0 s ≤ 0 → has_ended (status_with left s) ≡ false → status_with left s ≡ status.Running
going_by left status.Running few going = by_test (eqb left 0) going
  where
    by_test : (b : Bool) → has_ended (cond b (status.Faulted fault.Budget) status.Running) ≡ false → cond b (status.Faulted fault.Budget) status.Running ≡ status.Running
    by_test true going = cc
    by_test false going = refl
going_by left status.Idle few going = absurd (omega (arith, few))
going_by left (status.Done code) few going = cc
going_by left (status.Faulted f) few going = cc

-- with the steps that are left, a thread is runnable while it runs
runs_by : (v : World) (x : Thread) (left : ℕ) (s : ThreadStatus) → 1 ≤ x.job → x.job < v.size.jobs →
    WhileRunning (status_with left s) (IsRunnable v (record x { budget = left }))
runs_by v x left status.Running some known = by_test (eqb left 0) refl
  where
    by_test : (b : Bool) → eqb left 0 ≡ b → WhileRunning (cond b (status.Faulted fault.Budget) status.Running) (IsRunnable v (record x { budget = left }))
    by_test true none = tt
    by_test false more = record { some_job = some; known_job = known; some_step = grind (arith, nat_tests) }
runs_by v x left status.Idle some known = tt
runs_by v x left (status.Done code) some known = tt
runs_by v x left (status.Faulted f) some known = tt

-- an act keeps contexts
pub keeps_contexts : (t : ℕ) (e : Environment) (x : Thread) (advance : Advance) → IsWell e.world e.channels → is_live e.world x.context ≡ true →
    KeepsContexts e x (advance_outcome guest_calls t e x advance)
unfolding advance_outcome
keeps_contexts t e x advance well live =
    let acts = acts_next guest_calls guest_calls_act t e (with_regs x advance.after) advance.next in
    let changes = (acts.ends well live).changes in
    record { job = acts.job; live = changes.grows.live; requests = changes.inputs.1 }

-- what a step of a running thread leaves
pub step_running : (calls : Calls) → AllAct calls → (t : ℕ) (e : Environment) (x : Thread) (advance : Advance) → IsWell e.world e.channels → x.status ≡ status.Running → IsReadyThread e.world x →
    IsStep e x (advance_outcome calls t e x advance)
unfolding advance_outcome
step_running calls act t e x advance well running ready =
    let outcome = next_outcome calls t e (with_regs x advance.after) advance.next in
    let acts = acts_next calls act t e (with_regs x advance.after) advance.next in
    let ends = acts.ends well ready.live in
    let changes = ends.changes in
    let runs : IsRunnable e.world x = subst (λ (s : ThreadStatus). WhileRunning s (IsRunnable e.world x)) running ready.runs in
    let few : (more left : ℕ) → steps_left more left outcome.thread.status ≤ left + more =
    λ more left. subst (λ (s : ThreadStatus). steps_left more left outcome.thread.status ≤ steps_left more left s) running (acts.left more left) in
    record {
      changes = changes;
      limits = λ jobs there limits. changes.grows.limits jobs there runs.some_job limits;
      ready = record {
        live = ends.live;
        budget = omega (arith, ready.budget);
        runs = runs_by outcome.environment.world (with_status outcome.thread (status_with (x.budget - 1) outcome.thread.status)) (x.budget - 1) outcome.thread.status
            (omega (arith, acts.job, runs.some_job)) (omega (arith, acts.job, runs.known_job, ap (λ s. s.jobs) changes.grows.size));
      };
      job = acts.job;
      fewer = λ more. omega (arith, left_by more (x.budget - 1) outcome.thread.status (few more (x.budget - 1)), runs.some_step);
      going = going_by (x.budget - 1) outcome.thread.status (few 0 0);
      some = omega (arith, acts.job, runs.some_job);
    }
