-- Machines with guarded contexts, and their steps.
use Rattle.std.specs.Prelude.{ℕ, ◌-◌, if◌then◌else◌, List, [], ◌∷◌, Option, None, Some, max, slice_get}
use Rattle.std.specs.FinMap as fm
use Rattle.guest_isa.specs.declared.instr.Instr.{Instr}
use Rattle.guest_machine.specs.Advances.{advanced}
use Rattle.guest_machine.specs.declared.progress.Advance.{Advance}
use Rattle.kernel_core.specs.Machine.{Environment, Machine, Serve, is_ended}
use Rattle.kernel_core.specs.Runs.{frames_of}
use Rattle.kernel_core.specs.Step.{AfterStep, Outcome, after_outcome, counted, next_outcome, settled, thread_outcome}
use Rattle.kernel_core.specs.Step.{with_regs}
use Rattle.kernel_core.specs.declared.thread.Thread.{Thread}
use Rattle.lwc_base.specs.World.{is_live}
use Rattle.lwc_guard.specs.Calls.{calls_guarded, guards_after_call}
use Rattle.lwc_guard.specs.GivingBack.{Course, guarded_course}
use Rattle.lwc_guard.specs.Guards.{Guards}
use Rattle.lwc_guard.specs.declared.guard.Guard.{Guard}
use Rattle.lwc_monitor.specs.Steps.{call_next, traps_after}
use Rattle.lwc_monitor.specs.Traps.{Traps}
use Rattle.lwc_types.specs.declared.fault.ThreadStatus.{ThreadStatus}
use Rattle.lwc_types.specs.declared.fault.ThreadStatus.TheVariants as status

-- a machine, which of its contexts are trapped, and which of these are guarded
pub record Guarded : Type 0 where
  pub machine : Machine
  pub traps : Traps
  pub guards : Guards

-- a machine in which none is
abbrev pub unguarded : Machine → Guarded
unguarded m = record { machine = m; traps = fm.empty; guards = fm.empty }

-- what a step of a running thread leaves: the outcome, and the guards
pub record Left : Type 0 where
  pub outcome : Outcome
  pub guards : Guards

-- by the guard of the thread's context, if it has one
abbrev pub left_by : Option Guard → Traps → Guards → ℕ → Environment → Thread → Advance → Left
left_by None traps guards t e x advance =
    let caller = with_regs x advance.after in record {
      outcome = next_outcome (calls_guarded traps guards) t e caller advance.next;
      guards = guards_after_call traps guards t e.world caller (call_next advance.next);
    }
left_by (Some g) traps guards t e x advance =
    let course = guarded_course traps t e x advance g in
    record { outcome = course.outcome; guards = fm.insert guards x.context course.guard }

unfoldable pub left_running : Traps → Guards → ℕ → Environment → Thread → Advance → Left
left_running traps guards t e x advance = left_by (fm.get guards x.context) traps guards t e x advance

-- what a step leaves, if one was made, and the guards, by the thread's status; it takes one of the thread's steps
abbrev pub left_of : Traps → Guards → ℕ → Environment → Option Serve → List Instr → Thread → ThreadStatus →
    Option AfterStep × Guards
left_of traps guards t e serve text x status.Running =
    let left = left_running traps guards t e x (advanced text x.regs) in
    (Some (settled t serve (counted (x.budget - 1) left.outcome)), left.guards)
left_of traps guards t e serve text x st = (thread_outcome (calls_guarded traps guards) t e serve text x st, guards)

-- what a step of the thread that was found leaves
abbrev pub left_found : Guarded → ℕ → Option Thread → Option AfterStep × Guards
left_found s t None = (None, s.guards)
left_found s t (Some x) =
    left_of s.traps s.guards t s.machine.environment s.machine.serve s.machine.text x x.status

-- one step under guards; and the traps and the guards of contexts that live on
unfoldable pub guarded_step : Guarded → ℕ → Guarded
guarded_step s t =
    let found = slice_get s.machine.threads t in
    let left = left_found s t found in
    let after = after_outcome s.machine t left.0 in
    let live = is_live after.environment.world in
    record {
      machine = after;
      traps = fm.retain_keys (traps_after s.traps s.machine found) live;
      guards = fm.retain_keys left.1 live;
    }

-- the steps, one after another
abbrev pub run_guarded : Guarded → List ℕ → Guarded
run_guarded s [] = s
run_guarded s (t ∷ ts) = run_guarded (guarded_step s t) ts

-- the steps of threads that had not ended when their turn came
abbrev pub kept_guarded : Guarded → List ℕ → List ℕ
kept_guarded s [] = []
kept_guarded s (t ∷ ts) =
    if is_ended s.machine t then kept_guarded s ts else t ∷ kept_guarded (guarded_step s t) ts

-- the most frames that were in use, before the first step and after each
abbrev pub peak_guarded : Guarded → List ℕ → ℕ
peak_guarded s [] = frames_of s.machine
peak_guarded s (t ∷ ts) = max (frames_of s.machine) (peak_guarded (guarded_step s t) ts)
