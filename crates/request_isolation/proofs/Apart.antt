-- What an act of a request leaves to the others: each job keeps what is its own, and other jobs see nothing of it.
use Rattle.std.proofs.Common.{◌≡◌, ◌≢◌, ℕ, ◌+◌, refl, sym, ap, subst, ◌∙◌, Bool, true, false, cond, eqb, Option, Some, None, List}
use Rattle.std.specs.Int.{w64, to_le_bytes}
use Rattle.guest_isa.specs.declared.instr.Instr.{Instr}
use Rattle.guest_isa.specs.declared.op.Op.{Op}
use Rattle.guest_isa.specs.declared.op.Op.TheVariants.{Ldb, Ldw, Stb, Stw, Sys, Halt}
use Rattle.guest_machine.specs.declared.progress.Advance.{Advance}
use Rattle.guest_machine.specs.declared.progress.Next.{Next}
use Rattle.guest_machine.specs.declared.progress.Next.TheVariants.{Shared, Pause, BadPc}
use Rattle.kernel_core.specs.Machine.{Environment}
use Rattle.kernel_core.specs.Step.{Outcome, advance_outcome, call_outcome, ended_outcome, faulted, guest_calls, is_aligned, loaded, next_outcome, plainly, shared_outcome, store_outcome, stored_outcome, switched, three_times, unchanged, with_regs, with_world, word_outcome}
use Rattle.kernel_core.specs.declared.calling.TheConstants.{LW_CREATE, LW_OVERLAY, LW_RESTRICT, LW_SWITCH, LW_SYSCALL}
use Rattle.kernel_core.specs.declared.thread.Thread.{Thread}
use Rattle.lwc_base.specs.Store.{Absent, Done, Full, Piece, ReadOnly, Stored, after_store, store}
use Rattle.lwc_base.specs.World.{World}
use Rattle.lwc_base.proofs.Stored.{is_done}
use Rattle.lwc_base.specs.declared.answer.Answer.{Answer}
use Rattle.lwc_base.specs.declared.answer.Answer.TheVariants as answers
use Rattle.lwc_base.specs.declared.answer.Moved.{Moved}
use Rattle.lwc_base.specs.declared.answer.Moved.TheVariants as moved
use Rattle.lwc_types.specs.declared.fault.Fault.TheVariants as fault
use Rattle.lwc_types.specs.declared.name.Name.{Name}
use Rattle.lwc_types.specs.declared.regs.Regs.{Regs}
use Rattle.lwc_create.specs.Create.{create}
use Rattle.lwc_overlay.specs.OverlayCall.{overlay}
use Rattle.lwc_overlay.specs.RestrictCall.{restrict}
use Rattle.lwc_switch.specs.Switch.{switch}
use Rattle.lwc_syscall.specs.Plain.{plain, plain_call}
use Rattle.lwc_syscall.specs.Syscall.{lw_syscall}
use Rattle.lwc_syscall.specs.declared.answer.CallAnswer.{CallAnswer}
use Rattle.lwc_syscall.specs.declared.answer.CallAnswer.TheVariants as ends
use Rattle.lwc_syscall.specs.declared.plain_call.PlainCall.{PlainCall}
use Rattle.world_views.proofs.Apart.{LeavesOthers, create-leaves, leaves_stored, overlay-leaves, plain-leaves, plain-same, restrict-leaves, switch-leaves, switch-target, syscall-leaves, syscall-same}
use Rattle.world_views.specs.ByJob.{Home, KeepsJobs}
use Rattle.request_isolation.proofs.Silent.{plain_quiet, syscall_quiet}
use Rattle.world_views.specs.Ends.{AreOf}
use Rattle.world_views.specs.Views.{channel_view, view}

-- an environment after a change for a job
pub record Apart (home : Home) (job : ℕ) (e f : Environment) : Type 0 where
  pub jobs : KeepsJobs home f.world
  pub hidden : (other t : ℕ) → job ≢ other → view other t f.world ≡ view other t e.world
  pub channels : (r : ℕ) → job ≢ r + 1 → channel_view r f.channels ≡ channel_view r e.channels
  pub console : f.channels.console ≡ e.channels.console

-- an act of a thread is apart, and leaves it in a context of its job
pub record ActsApart (home : Home) (job : ℕ) (e : Environment) (outcome : Outcome) : Type 0 where
  pub apart : Apart home job e outcome.environment
  pub here : outcome.thread.context.job ≡ job

pub apart_same : (home : Home) (job : ℕ) (e : Environment) → KeepsJobs home e.world → Apart home job e e
apart_same home job e jobs = record { jobs = jobs; hidden = λ other t apart. refl; channels = λ r apart. refl; console = refl }

module _ (home : Home) (e : Environment) (x : Thread) (here : x.context.job ≡ x.job) (some_job : x.job ≢ 0) (jobs : KeepsJobs home e.world) where
  not_nobody : x.context.job ≢ 0
  not_nobody none = some_job (sym here ∙ none)

  -- a change of the world alone
  apart_world : (v : World) → LeavesOthers home x.context.job e.world v → Apart home x.job e (with_world e v)
  apart_world v leaves = record {
    jobs = leaves.kept;
    hidden = λ other t apart. leaves.hidden other t (λ same. apart (sym here ∙ same));
    channels = λ r apart. refl;
    console = refl;
  }

  acts_thread : (y : Thread) → y.context ≡ x.context → ActsApart home x.job e (unchanged e y)
  acts_thread y same = record { apart = apart_same home x.job e jobs; here = ap (λ (n : Name). n.job) same ∙ here }

  acts_chosen : (b : Bool) (first second : Outcome) → ActsApart home x.job e first → ActsApart home x.job e second → ActsApart home x.job e (cond b first second)
  acts_chosen true first second p q = p
  acts_chosen false first second p q = q

  acts_loaded : (d : ℕ) (found : Option ℕ) → ActsApart home x.job e (unchanged e (loaded x d found))
  acts_loaded d None = acts_thread _ refl
  acts_loaded d (Some value) = acts_thread _ refl

  apart_store : (piece : Piece) (v : World) → store e.world x.context x.job piece ≡ Done v → Apart home x.job e (with_world e v)
  apart_store piece v is =
      let after : after_store e.world x.context x.job piece ≡ v = sym (is_done e.world x.context x.job piece v is).after in
      let own : after_store e.world x.context x.context.job piece ≡ v = ap (λ (j : ℕ). after_store e.world x.context j piece) here ∙ after in
      subst (λ (u : World). Apart home x.job e (with_world e u)) own
      (apart_world _ (leaves_stored home x.context e.world not_nobody jobs piece))

  acts_stored : (s : Stored) → ((v : World) → s ≡ Done v → Apart home x.job e (with_world e v)) → ActsApart home x.job e (stored_outcome e x s)
  acts_stored Absent done = acts_thread _ refl
  acts_stored ReadOnly done = acts_thread _ refl
  acts_stored Full done = acts_thread _ refl
  acts_stored (Done v) done = record { apart = done v refl; here = here }

  acts_store : (piece : Piece) → ActsApart home x.job e (store_outcome e x piece)
  unfolding store_outcome
  acts_store piece = acts_chosen _ _ _ (acts_stored (store e.world x.context x.job piece) (apart_store piece)) (acts_thread (faulted x fault.BadStore) refl)

  acts_word : (at value : ℕ) → ActsApart home x.job e (word_outcome e x at value)
  acts_word at value = acts_chosen (is_aligned at) _ _ (acts_store (record { at = at; bytes = to_le_bytes w64 value })) (acts_thread (faulted x fault.BadStore) refl)

  acts_call : (answer : Answer) (v : World) → Apart home x.job e (with_world e v) → ActsApart home x.job e (call_outcome e x (answer, v))
  acts_call (answers.Done regs) v apart = record { apart = apart; here = here }
  acts_call (answers.Refused r) v apart = record { apart = apart; here = here }

  acts_moved : (answer : Moved) (v : World) → Apart home x.job e (with_world e v) → ((d : Name) (arrived : Regs) → answer ≡ moved.To d arrived → d.job ≡ x.context.job) →
      ActsApart home x.job e (unchanged (with_world e v) (switched x answer))
  acts_moved (moved.To d regs) v apart to = record { apart = apart; here = to d regs refl ∙ here }
  acts_moved (moved.Refused r) v apart to = record { apart = apart; here = here }

  acts_answer : (answer : CallAnswer) (f : Environment) → Apart home x.job e f → ActsApart home x.job e (unchanged f (plainly x answer))
  acts_answer (ends.Value value) f apart = record { apart = apart; here = here }
  acts_answer (ends.Exit code) f apart = record { apart = apart; here = here }
  acts_answer (ends.Refused r) f apart = record { apart = apart; here = here }

  apart_create : Apart home x.job e (with_world e (create e.world x.context x.job x.regs).1)
  apart_create = subst (λ (j : ℕ). Apart home x.job e (with_world e (create e.world x.context j x.regs).1)) here
      (apart_world _ (create-leaves home x.context e.world not_nobody jobs x.regs))

  apart_overlay : Apart home x.job e (with_world e (overlay e.world x.context x.job x.regs).1)
  apart_overlay = subst (λ (j : ℕ). Apart home x.job e (with_world e (overlay e.world x.context j x.regs).1)) here
      (apart_world _ (overlay-leaves home x.context e.world not_nobody jobs x.regs))

  apart_restrict : Apart home x.job e (with_world e (restrict e.world x.context x.regs).1)
  apart_restrict = apart_world _ (restrict-leaves home x.context e.world not_nobody jobs x.regs)

  apart_switch : (t : ℕ) → Apart home x.job e (with_world e (switch e.world x.context t x.regs).1)
  apart_switch s = apart_world _ (switch-leaves home x.context e.world not_nobody jobs x.regs s)

  acts_plain : (call : Option PlainCall) (args : List ℕ) → ActsApart home x.job e (ended_outcome x (plain e.world e.channels (three_times x.context) x.job call args))
  acts_plain call args =
      let of_job : AreOf x.job (three_times x.context) = record { memory = here; slots = here; cred = here } in
      let leaves = plain-leaves home x.job (three_times x.context) e.world e.channels some_job of_job jobs call args in
      acts_answer _ _ (record {
        jobs = leaves.kept;
        hidden = leaves.hidden;
        channels = λ r apart. plain-same home x.job r (three_times x.context) e.world e.channels apart of_job jobs call args;
        console = plain_quiet home x.job (three_times x.context) e.world e.channels of_job jobs call args;
      })

  acts_syscall : ActsApart home x.job e (ended_outcome x (lw_syscall e.world e.channels x.context x.job x.regs))
  acts_syscall = subst (λ (j : ℕ). ActsApart home x.job e (ended_outcome x (lw_syscall e.world e.channels x.context j x.regs))) here
      (let leaves = syscall-leaves home x.context e.world e.channels x.regs jobs not_nobody in
      acts_answer _ _ (record {
        jobs = leaves.kept;
        hidden = λ other t apart. leaves.hidden other t (λ same. apart (sym here ∙ same));
        channels = λ r apart. syscall-same home x.context e.world e.channels x.regs jobs r (λ same. apart (sym here ∙ same));
        console = syscall_quiet home x.context e.world e.channels x.regs jobs;
      }))

  acts_guest : (number t : ℕ) → ActsApart home x.job e (guest_calls number t e x)
  unfolding guest_calls
  acts_guest number t =
      acts_chosen (eqb number LW_CREATE) _ _ (acts_call _ _ apart_create)
      (acts_chosen (eqb number LW_SWITCH) _ _ (acts_moved _ _ (apart_switch t) (λ d arrived is. switch-target home x.context d t e.world x.regs arrived jobs is))
      (acts_chosen (eqb number LW_RESTRICT) _ _ (acts_call _ _ apart_restrict)
      (acts_chosen (eqb number LW_OVERLAY) _ _ (acts_call _ _ apart_overlay)
      (acts_chosen (eqb number LW_SYSCALL) _ _ acts_syscall (acts_plain (plain_call number) _)))))

  acts_shared : (t : ℕ) (i : Instr) (op : Op) → ActsApart home x.job e (shared_outcome guest_calls t e x i op)
  unfolding shared_outcome
  acts_shared t i Ldb = acts_loaded i.rd _
  acts_shared t i Ldw = acts_loaded i.rd _
  acts_shared t i Stb = acts_store _
  acts_shared t i Stw = acts_word _ _
  acts_shared t i Sys = acts_guest i.imm t
  acts_shared t i Halt = acts_thread _ refl
  acts_shared t i _ = acts_thread x refl

  acts_next : (t : ℕ) (next : Next) → ActsApart home x.job e (next_outcome guest_calls t e x next)
  unfolding next_outcome
  acts_next t Pause = acts_thread x refl
  acts_next t BadPc = acts_thread _ refl
  acts_next t (Shared i) = acts_shared t i i.op

-- an act of a running thread is apart
pub acts_apart : (home : Home) (t : ℕ) (e : Environment) (x : Thread) (advance : Advance) → x.context.job ≡ x.job → x.job ≢ 0 → KeepsJobs home e.world →
    ActsApart home x.job e (advance_outcome guest_calls t e x advance)
unfolding advance_outcome
acts_apart home t e x advance here some_job jobs =
    let acts = acts_next home e (with_regs x advance.after) here some_job jobs t advance.next in record { apart = acts.apart; here = acts.here }
