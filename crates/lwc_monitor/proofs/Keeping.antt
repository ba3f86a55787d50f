-- Each step under traps keeps the machine ready and the traps guarded, and leaves the trapped contexts.
use Rattle.std.proofs.Common.{◌≡◌, ◌≢◌, ◌⊎◌, inl, inr, ◌+◌, ℕ, suc, refl, sym, ap, subst, ◌∙◌, true, false, cond, Option, Some, None, List, [], ◌∷◌, length, arith}
use Rattle.std.proofs.lemmas.Bool.{ne_eqb}
use Rattle.std.specs.Prelude.{IfSome, slice_get}
use Rattle.std.specs.FinMap as fm
use Rattle.guest_isa.specs.declared.instr.Instr.{Instr}
use Rattle.guest_isa.specs.declared.op.Op.{Op}
use Rattle.guest_isa.specs.declared.op.Op.TheVariants.{Sys}
use Rattle.guest_machine.specs.Advances.{advanced}
use Rattle.guest_machine.specs.declared.progress.Next.{Next}
use Rattle.guest_machine.specs.declared.progress.Next.TheVariants as next
use Rattle.kernel_core.proofs.JobActs.{AllLocal}
use Rattle.kernel_core.proofs.ReadyRuns.{ready_later, ready_step_by, well_ready}
use Rattle.kernel_core.specs.Machine.{Environment, Serve}
use Rattle.kernel_core.specs.Ready.{IsReady}
use Rattle.kernel_core.specs.Refused.{advanced_thread}
use Rattle.kernel_core.specs.Start.{Inputs}
use Rattle.kernel_core.specs.Step.{AfterStep, Calls, advance_outcome, after_outcome, after_thread, guest_calls, next_outcome, only, shared_outcome, step_by, thread_outcome, unchanged, with_status}
use Rattle.kernel_core.specs.declared.thread.Thread.{Thread}
use Rattle.lwc_base.proofs.Reaped.{context-kept}
use Rattle.lwc_base.specs.Life.{reap}
use Rattle.lwc_base.specs.World.{World, Context, is_live}
use Rattle.lwc_types.specs.declared.fault.ThreadStatus.{ThreadStatus}
use Rattle.lwc_types.specs.declared.fault.ThreadStatus.TheVariants as status
use Rattle.lwc_types.specs.declared.key.Key.TheVariants.{Slot}
use Rattle.lwc_types.specs.declared.name.Name.{Name}
use Rattle.lwc_monitor.proofs.Acting.{next-leaves}
use Rattle.lwc_monitor.proofs.Guarding.{AreSafe, call-safe, kept-trap, kept-untrapped, other-safe}
use Rattle.lwc_monitor.proofs.Tables.{acts_under}
use Rattle.lwc_monitor.specs.Calls.{by_monitor, calls_under, trapped_outcome, traps_after_call}
use Rattle.lwc_monitor.specs.Guards.{AreGuarded, HasOwnSlots, LeavesToMonitors, SameSlots}
use Rattle.lwc_monitor.specs.Contexts.{IsIn}
use Rattle.lwc_monitor.specs.Promises.{LeavesEachTrapped}
use Rattle.lwc_monitor.specs.Steps.{Monitored, call_by, call_in, call_next, monitored_step, run_under, traps_after}
use Rattle.lwc_monitor.specs.Traps.{Traps}
use Rattle.lwc_monitor.specs.declared.numbers.TheConstants.{EXIT}
use Rattle.lwc_syscall.specs.Changes.{IsWell}

-- what a run under traps keeps
pub record IsKept (inputs : Inputs) (steps : ℕ) (s : Monitored) : Type 0 where
  pub ready : IsReady inputs steps s.machine
  pub run : s.machine.serve ≡ None
  pub guarded : AreGuarded s.traps s.machine.environment.world

-- no step of a run begins a serve
pub serve-none : (calls : Calls) (t : ℕ) (e : Environment) (text : List Instr) (x : Thread) (st : ThreadStatus) (after : AfterStep) → thread_outcome calls t e None text x st ≡ Some after → after.serve ≡ None
serve-none calls t e text x status.Running after made = let is : only None (advance_outcome calls t e x (advanced text x.regs)) ≡ after = cc in ap (λ (a : AfterStep). a.serve) (sym is)
serve-none calls t e text x status.Idle after made = let is : only None (unchanged e (with_status x (status.Done 0))) ≡ after = cc in ap (λ (a : AfterStep). a.serve) (sym is)
serve-none calls t e text x (status.Done code) after made = cc
serve-none calls t e text x (status.Faulted f) after made = cc

module _ (traps : Traps) (t : ℕ) (e : Environment) (x : Thread) (guarded : AreGuarded traps e.world) (well : IsWell e.world e.channels) where
  -- the traps after what comes next are safe in the world that it leaves
  shared-safe : (i : Instr) (op : Op) → LeavesToMonitors traps x.context e.world (shared_outcome (calls_under traps) t e x i op).environment.world →
      AreSafe (traps_after_call traps e.world x (call_in op i.imm)) (shared_outcome (calls_under traps) t e x i op).environment.world
  unfolding shared_outcome
  shared-safe i Sys leaves = call-safe traps t e x guarded i.imm leaves
  shared-safe i _ leaves = other-safe traps t e x guarded _ leaves

  pub next-safe : (n : Next) → AreSafe (traps_after_call traps e.world x (call_next n)) (next_outcome (calls_under traps) t e x n).environment.world
  unfolding next_outcome
  next-safe next.Pause = other-safe traps t e x guarded _ (next-leaves traps t e x guarded well next.Pause)
  next-safe next.BadPc = other-safe traps t e x guarded _ (next-leaves traps t e x guarded well next.BadPc)
  next-safe (next.Shared i) = shared-safe i i.op (next-leaves traps t e x guarded well (next.Shared i))

-- what is left of a context that lives on, once the rest is dropped
pub reaped-own : (v : World) (names : List Name) (d : Name) → HasOwnSlots v d → is_live (reap v names) d ≡ true → HasOwnSlots (reap v names) d
reaped-own v names d own live n within = let was = own n within in (was.0, ap (λ (c : Context). c.cell (Slot n)) (context-kept v names d live) ∙ was.1)

pub reaped-same : (w v : World) (names : List Name) (d : Name) → SameSlots w v d → is_live (reap v names) d ≡ true → SameSlots w (reap v names) d
reaped-same w v names d same live n within = ap (λ (c : Context). c.cell (Slot n)) (context-kept v names d live) ∙ same n within

-- what a step leaves, before the traps of contexts that have died go
record Leaves (s : Monitored) (t : ℕ) (traps : Traps) (v : World) : Type 0 where
  own : (d m : Name) → fm.get traps d ≡ Some m → is_live v d ≡ true → HasOwnSlots v d
  free : (d m : Name) → fm.get traps d ≡ Some m → fm.contains_key traps m ≡ false
  left : (d m : Name) → fm.get s.traps d ≡ Some m → is_live v d ≡ true → HasOwnSlots v d × (IsIn s.machine t m ⊎ SameSlots s.machine.environment.world v d)

module _ (inputs : Inputs) (steps : ℕ) (s : Monitored) (t : ℕ) (kept : IsKept inputs steps s) where
  abbrev w : World
  w = s.machine.environment.world

  guarded : AreGuarded s.traps w
  guarded = kept.guarded

  well : IsWell w s.machine.environment.channels
  well = well_ready inputs steps s.machine kept.ready

  itself : Leaves s t s.traps w
  itself = record { own = λ d m is live. guarded.own d m is; free = guarded.free; left = λ d m is live. (guarded.own d m is, inr (λ n within. refl)) }

  -- after an outcome in which these traps are safe
  reaped : (traps : Traps) (v : World) (names : List Name) → AreSafe traps v → ((d m : Name) → fm.get s.traps d ≡ Some m → HasOwnSlots v d × (IsIn s.machine t m ⊎ SameSlots w v d)) → Leaves s t traps (reap v names)
  reaped traps v names safe left = record {
    own = λ d m is live. reaped-own v names d (safe.own d m is) live;
    free = safe.free;
    left = λ d m is live. (
      reaped-own v names d (left d m is).0 live,
      elim (left d m is).1 [ inl here ↦ inl here | inr same ↦ inr (reaped-same w v names d same live) ],
    );
  }

  by_status : (x : Thread) → slice_get s.machine.threads t ≡ Some x → (st : ThreadStatus) →
      Leaves s t (traps_after_call s.traps w (advanced_thread s.machine x) (call_by s.machine.text x st))
      (after_outcome s.machine t (thread_outcome (calls_under s.traps) t s.machine.environment None s.machine.text x st)).environment.world
  unfolding advance_outcome
  by_status x found status.Running =
      let y = advanced_thread s.machine x in
      let n = (advanced s.machine.text x.regs).next in
      let leaves = next-leaves s.traps t s.machine.environment y guarded well n in
      reaped (traps_after_call s.traps w y (call_next n)) _ _ (next-safe s.traps t s.machine.environment y guarded well n)
      (λ d m is. (leaves.own d m is, elim (leaves.same d m is) [ inl here ↦ inl (x, found, sym here) | inr same ↦ inr same ]))
  by_status x found status.Idle = reaped s.traps w _ (record { own = guarded.own; free = guarded.free }) (λ d m is. (guarded.own d m is, inr (λ n within. refl)))
  by_status x found (status.Done code) = itself
  by_status x found (status.Faulted f) = itself

  by_thread : (o : Option Thread) → slice_get s.machine.threads t ≡ o → Leaves s t (traps_after s.traps s.machine o) (after_thread (calls_under s.traps) s.machine t o).environment.world
  by_thread None found = itself
  by_thread (Some x) found =
      subst (λ (serve : Option Serve). Leaves s t (traps_after s.traps s.machine (Some x)) (after_outcome s.machine t (thread_outcome (calls_under s.traps) t s.machine.environment serve s.machine.text x x.status)).environment.world)
      (sym kept.run) (by_status x found x.status)

  after : Leaves s t (traps_after s.traps s.machine (slice_get s.machine.threads t)) (step_by (calls_under s.traps) s.machine t).environment.world
  unfolding step_by
  after = by_thread (slice_get s.machine.threads t) refl

  guarded-after : AreGuarded (monitored_step s t).traps (monitored_step s t).machine.environment.world
  unfolding monitored_step
  guarded-after = record {
    live = λ d m is. (kept-trap _ _ d m is).0;
    own = λ d m is. let was = kept-trap _ _ d m is in after.own d m was.1 was.0;
    free = λ d m is. kept-untrapped _ _ m (after.free d m (kept-trap _ _ d m is).1);
  }

  serve-by : (o : Option Thread) → (after_thread (calls_under s.traps) s.machine t o).serve ≡ None
  serve-by None = kept.run
  serve-by (Some x) =
      subst (λ (serve : Option Serve). (after_outcome s.machine t (thread_outcome (calls_under s.traps) t s.machine.environment serve s.machine.text x x.status)).serve ≡ None) (sym kept.run)
      (by (thread_outcome (calls_under s.traps) t s.machine.environment None s.machine.text x x.status) refl)
    where
      by : (o : Option AfterStep) → thread_outcome (calls_under s.traps) t s.machine.environment None s.machine.text x x.status ≡ o → (after_outcome s.machine t o).serve ≡ None
      by None made = kept.run
      by (Some left) made = serve-none (calls_under s.traps) t s.machine.environment s.machine.text x x.status left made

  run-after : (monitored_step s t).machine.serve ≡ None
  unfolding monitored_step step_by
  run-after = serve-by (slice_get s.machine.threads t)

  ready-after : IsReady inputs (steps + 1) (monitored_step s t).machine
  unfolding monitored_step
  ready-after =
      ready_step_by (calls_under s.traps) (acts_under s.traps) inputs steps t s.machine kept.ready
      (subst (λ (o : Option Serve). IfSome o (λ v. AllLocal (calls_under s.traps))) (sym kept.run) tt)

  -- a step keeps what a run does
  pub kept-step : IsKept inputs (steps + 1) (monitored_step s t)
  kept-step = record { ready = ready-after; run = run-after; guarded = guarded-after }

  goes-by : (o : Option Name) (m : Name) (number : ℕ) (e : Environment) (x : Thread) → o ≡ Some m → number ≢ EXIT → by_monitor s.traps o number t e x ≡ trapped_outcome m number t e x
  goes-by None m number e x is other = cc
  goes-by (Some n) m number e x is other =
      let same : n ≡ m = cc in
      ap (λ b. cond b (guest_calls number t e x) (trapped_outcome n number t e x)) (ne_eqb number EXIT other) ∙ ap (λ k. trapped_outcome k number t e x) same

  goes : (d m : Name) (x : Thread) (number : ℕ) → fm.get s.traps d ≡ Some m → x.context ≡ d → number ≢ EXIT →
      calls_under s.traps number t s.machine.environment (advanced_thread s.machine x) ≡ trapped_outcome m number t s.machine.environment (advanced_thread s.machine x)
  unfolding calls_under
  goes d m x number is here other = goes-by (fm.get s.traps x.context) m number s.machine.environment (advanced_thread s.machine x) (ap (fm.get s.traps) here ∙ is) other

  -- and leaves each trapped context that lives on
  pub leaves-step : LeavesEachTrapped s t
  unfolding monitored_step
  leaves-step d m is live =
      let left = after.left d m is live in
      record { owned = guarded.own d m is; own = left.0; same = left.1; calls = λ x number found here comes other. goes d m x number is here other }

-- and so does each run
pub kept-run : (inputs : Inputs) (steps : ℕ) (ts : List ℕ) (s : Monitored) → IsKept inputs steps s → IsKept inputs (steps + length ts) (run_under s ts)
kept-run inputs steps [] s kept = record { ready = ready_later inputs steps (steps + 0) s.machine (omega arith) kept.ready; run = kept.run; guarded = kept.guarded }
kept-run inputs steps (t ∷ ts) s kept =
    let rest = kept-run inputs (steps + 1) ts (monitored_step s t) (kept-step inputs steps s t kept) in
    record { ready = ready_later inputs (steps + 1 + length ts) (steps + suc (length ts)) _ (omega arith) rest.ready; run = rest.run; guarded = rest.guarded }
