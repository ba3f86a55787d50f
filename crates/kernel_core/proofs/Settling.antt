-- What an act of a worker leaves for the end of its step.
use Rattle.std.proofs.Common.{◌≡◌, ℕ, ◌≤◌, ◌<◌, ap, subst, ◌∙◌, sym, true, Option, Some, None, List, length, arith}
use Rattle.std.specs.Prelude.{IfSome}
use Rattle.guest_isa.specs.declared.instr.Instr.{Instr}
use Rattle.guest_machine.specs.Advances.{advanced}
use Rattle.kernel_core.specs.Machine.{Serve, home_of}
use Rattle.kernel_core.specs.Ready.{CanAct, CanServe, HasItsJob, KeepsContexts, WhileRunning}
use Rattle.kernel_core.specs.Step.{advance_outcome, beside, guest_calls, unchanged}
use Rattle.kernel_core.specs.declared.thread.Thread.{Thread}
use Rattle.lwc_base.specs.Channels.{Channels, HasItsFiles}
use Rattle.lwc_base.specs.World.{World, is_live}
use Rattle.lwc_types.specs.declared.fault.ThreadStatus.{ThreadStatus}
use Rattle.lwc_types.specs.declared.fault.ThreadStatus.TheVariants.{Running}
use Rattle.kernel_core.proofs.Outcomes.{keeps_contexts}

module _ (t : ℕ) (w : World) (io : Channels) (v : World) (after : Channels) (x y : Thread) (text : List Instr) (serve : Option Serve) (running : x.status ≡ Running)
    (ready : WhileRunning x.status (CanAct w x)) (files : HasItsFiles io w) (outcome : advance_outcome guest_calls t (beside w io) x (advanced text x.regs) ≡ unchanged (beside v after) y) where
  can : CanAct w x
  can = subst (λ (s : ThreadStatus). WhileRunning s (CanAct w x)) running ready

  keeps : KeepsContexts (beside w io) x (unchanged (beside v after) y)
  keeps =
      subst (KeepsContexts (beside w io) x) outcome
      (keeps_contexts t (beside w io) x (advanced text x.regs) (record { sound = can.sound; named = can.named; files = files }) can.live)

  count : length after.requests ≡ length io.requests
  count = ap (λ (l : List (List ℕ)). length l) keeps.requests

  module _ (serves : IfSome serve (CanServe w io)) (worker : IfSome serve (λ s. (t < s.workers) × HasItsJob s x.status x.job)) where
    -- the home lives
    pub home_lives : IfSome serve (λ s. is_live v (home_of t) ≡ true)
    home_lives = by_serve serve serves worker
      where
        by_serve : (o : Option Serve) → IfSome o (CanServe w io) → IfSome o (λ s. (t < s.workers) × HasItsJob s x.status x.job) → IfSome o (λ s. is_live v (home_of t) ≡ true)
        by_serve None first second = tt
        by_serve (Some s) first second = keeps.live (home_of t) (first.homes t second.0).0

    -- the job is that of a request that has been begun
    pub job_begun : IfSome serve (λ s. (1 ≤ y.job) × (y.job ≤ s.next))
    job_begun = by_serve serve worker
      where
        by_serve : (o : Option Serve) → IfSome o (λ s. (t < s.workers) × HasItsJob s x.status x.job) → IfSome o (λ s. (1 ≤ y.job) × (y.job ≤ s.next))
        by_serve None first = tt
        by_serve (Some s) first =
            let job : (1 ≤ x.job) × (x.job ≤ s.next) = subst (λ (st : ThreadStatus). HasItsJob s st x.job) running first.1 in
            (omega (arith, job.0, keeps.job), omega (arith, job.1, keeps.job))

    -- and that is one of the requests
    pub next_known : IfSome serve (λ s. s.next ≤ length after.requests)
    next_known = by_serve serve serves
      where
        by_serve : (o : Option Serve) → IfSome o (CanServe w io) → IfSome o (λ s. s.next ≤ length after.requests)
        by_serve None first = tt
        by_serve (Some s) first = omega (arith, first.next, count)

    pub replies_known : IfSome serve (λ s. length s.replies ≡ length after.requests)
    replies_known = by_serve serve serves
      where
        by_serve : (o : Option Serve) → IfSome o (CanServe w io) → IfSome o (λ s. length s.replies ≡ length after.requests)
        by_serve None first = tt
        by_serve (Some s) first = first.replies ∙ sym count
