-- The outcome of a step of a run, by the ruling on what comes next.
use Rattle.std.proofs.Common.{◌≡◌, ◌-◌, ℕ, sym, ap, subst, ◌∙◌, Option, Some, None, List}
use Rattle.std.specs.Prelude.{Result, Ok, Err, IfOk}
use Rattle.guest_isa.specs.declared.instr.Instr.{Instr}
use Rattle.guest_machine.specs.Advances.{advanced}
use Rattle.guest_machine.specs.declared.progress.Advance.{Advance}
use Rattle.kernel_core.specs.Changes.{after_effect, made}
use Rattle.kernel_core.specs.Machine.{Environment, Serve}
use Rattle.kernel_core.specs.Step.{AfterStep, Outcome, advance_outcome, counted, guest_calls, next_outcome, only, thread_outcome, unchanged, with_regs, with_steps}
use Rattle.kernel_core.specs.declared.acting.Change.{Change}
use Rattle.kernel_core.specs.declared.acting.Effect.{Effect}
use Rattle.kernel_core.specs.declared.thread.Thread.{Thread}
use Rattle.lwc_types.specs.declared.fault.ThreadStatus.{ThreadStatus}
use Rattle.lwc_types.specs.declared.fault.ThreadStatus.TheVariants.{Running}
use Rattle.lwc_types.specs.declared.regs.Regs.{Regs}
use Rattle.lwc_monitor.specs.Calls.{calls_under}
use Rattle.lwc_monitor.specs.Rulings.{ruled}
use Rattle.lwc_monitor.specs.Traps.{Traps}
use Rattle.lwc_monitor.specs.declared.ruling.Ruling.{Ruling}

-- an advance begins with its registers
pub advance-again : (text : List Instr) (regs : Regs) (a : Advance) → a ≡ advanced text regs → a ≡ advanced text a.before
unfolding advanced
advance-again text regs a is = is ∙ ap (advanced text) (sym (ap (λ (b : Advance). b.before) is))

module _ (traps : Traps) (t : ℕ) (e : Environment) (text : List Instr) (x : Thread) (a : Advance) (is : a ≡ advanced text x.regs) where
  abbrev caller : Thread
  caller = with_regs x a.after

  -- the outcome under a table
  outcome-is : (o : Outcome) → next_outcome (calls_under traps) t e caller a.next ≡ o → advance_outcome (calls_under traps) t e x (advanced text x.regs) ≡ counted (x.budget - 1) o
  unfolding advance_outcome
  outcome-is o same = ap (λ (b : Advance). counted (x.budget - 1) (next_outcome (calls_under traps) t e (with_regs x b.after) b.next)) (sym is) ∙ ap (counted (x.budget - 1)) same

  kernel-is : next_outcome (calls_under traps) t e caller a.next ≡ next_outcome guest_calls t e caller a.next →
      advance_outcome (calls_under traps) t e x (advanced text x.regs) ≡ advance_outcome guest_calls t e x (advanced text x.regs)
  unfolding advance_outcome
  kernel-is same = outcome-is _ same ∙ ap (λ (b : Advance). counted (x.budget - 1) (next_outcome guest_calls t e (with_regs x b.after) b.next)) is

  serve-is : (effect : Option Effect) (o : Outcome) (f : Environment) (serve : Option Serve) (y : Thread) → Some (only None o) ≡ made effect f serve y → Some (only None o) ≡ made effect f None y
  serve-is None o f serve y got = cc
  serve-is (Some left) o f serve y got =
      let none : serve ≡ None = sym (ap (λ (k : AfterStep). k.serve) (by got)) in
      subst (λ (z : Option Serve). Some (only None o) ≡ Some (after_effect left f z y)) none got
    where
      by : Some (only None o) ≡ Some (after_effect left f serve y) → only None o ≡ after_effect left f serve y
      by both = cc

  -- a step that is the kernel's
  pub kernel-course : {E : Type 0} (r : Result (Option Effect) E) (f : Environment) (serve : Option Serve) (y : Thread) → x.status ≡ Running →
      next_outcome (calls_under traps) t e caller a.next ≡ next_outcome guest_calls t e caller a.next →
      IfOk r (λ effect. thread_outcome guest_calls t e None text x x.status ≡ made effect f serve y) →
      IfOk r (λ effect. thread_outcome (calls_under traps) t e None text x Running ≡ made effect f None y)
  kernel-course (Ok effect) f serve y running same got =
      let plain : Some (only None (advance_outcome guest_calls t e x (advanced text x.regs))) ≡ made effect f serve y =
      subst (λ (st : ThreadStatus). thread_outcome guest_calls t e None text x st ≡ made effect f serve y) running got in
      ap (λ (o : Outcome). Some (only None o)) (kernel-is same) ∙ serve-is effect _ f serve y plain
  kernel-course (Err err) f serve y running same got = tt

  -- and one by a ruling
  pub ruled-course : (ruling : Ruling) (number : ℕ) (f : Environment) (y z : Thread) (change : Change) → next_outcome (calls_under traps) t e caller a.next ≡ ruled ruling number t e caller →
      ruled ruling number t e caller ≡ unchanged f y → z ≡ with_steps (x.budget - 1) y →
      thread_outcome (calls_under traps) t e None text x Running ≡ Some (after_effect (record { change = change; finished = None }) f None z)
  ruled-course ruling number f y z change same done steps =
      ap (λ (o : Outcome). Some (only None o)) (outcome-is _ (same ∙ done))
      ∙ ap (λ (k : Thread). Some (only None (record { thread = k; environment = f }))) (sym steps)
