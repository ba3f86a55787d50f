-- Machines with trapped contexts, and their steps.
use Rattle.std.specs.Prelude.{ℕ, if◌then◌else◌, List, [], ◌∷◌, Option, None, Some, max, slice_get}
use Rattle.std.specs.FinMap as fm
use Rattle.guest_isa.specs.declared.instr.Instr.{Instr}
use Rattle.guest_isa.specs.declared.op.Op.{Op}
use Rattle.guest_isa.specs.declared.op.Op.TheVariants.{Sys}
use Rattle.guest_machine.specs.declared.progress.Next.{Next}
use Rattle.guest_machine.specs.declared.progress.Next.TheVariants as next
use Rattle.guest_machine.specs.Advances.{advanced}
use Rattle.kernel_core.specs.Machine.{Machine, is_ended}
use Rattle.kernel_core.specs.Refused.{advanced_thread}
use Rattle.kernel_core.specs.Runs.{frames_of}
use Rattle.kernel_core.specs.Step.{step_by}
use Rattle.kernel_core.specs.declared.thread.Thread.{Thread}
use Rattle.lwc_base.specs.World.{is_live}
use Rattle.lwc_types.specs.declared.fault.ThreadStatus.{ThreadStatus}
use Rattle.lwc_types.specs.declared.fault.ThreadStatus.TheVariants as status
use Rattle.lwc_monitor.specs.Calls.{calls_under, traps_after_call}
use Rattle.lwc_monitor.specs.Traps.{Traps}

-- a machine, and which of its contexts are trapped
pub record Monitored : Type 0 where
  pub machine : Machine
  pub traps : Traps

-- a machine in which none is
abbrev pub unmonitored : Machine → Monitored
unmonitored m = record { machine = m; traps = fm.empty }

-- the number of the call that an instruction is, if it is one
abbrev pub call_in : Op → ℕ → Option ℕ
call_in Sys number = Some number
call_in _ number = None

abbrev pub call_next : Next → Option ℕ
call_next next.Pause = None
call_next next.BadPc = None
call_next (next.Shared i) = call_in i.op i.imm

-- the number of the call that a thread comes to in its next step, if it runs and comes to one
abbrev pub call_by : List Instr → Thread → ThreadStatus → Option ℕ
call_by text x status.Running = call_next (advanced text x.regs).next
call_by text x status.Idle = None
call_by text x (status.Done code) = None
call_by text x (status.Faulted f) = None

abbrev pub call_of : Machine → Thread → Option ℕ
call_of m x = call_by m.text x x.status

-- the traps after a step of the thread that was found, before those of contexts that have died go
abbrev pub traps_after : Traps → Machine → Option Thread → Traps
traps_after traps m None = traps
traps_after traps m (Some x) = traps_after_call traps m.environment.world (advanced_thread m x) (call_of m x)

-- one step under traps: the machine's own, with the calls under them; and the traps of contexts that live on
unfoldable pub monitored_step : Monitored → ℕ → Monitored
monitored_step s t =
    let after = step_by (calls_under s.traps) s.machine t in
    let traps = traps_after s.traps s.machine (slice_get s.machine.threads t) in
    record { machine = after; traps = fm.retain_keys traps (is_live after.environment.world) }

-- the steps, one after another
abbrev pub run_under : Monitored → List ℕ → Monitored
run_under s [] = s
run_under s (t ∷ ts) = run_under (monitored_step s t) ts

-- the steps of threads that had not ended when their turn came
abbrev pub kept_under : Monitored → List ℕ → List ℕ
kept_under s [] = []
kept_under s (t ∷ ts) =
    if is_ended s.machine t then kept_under s ts else t ∷ kept_under (monitored_step s t) ts

-- the most frames that were in use, before the first step and after each
abbrev pub peak_under : Monitored → List ℕ → ℕ
peak_under s [] = frames_of s.machine
peak_under s (t ∷ ts) = max (frames_of s.machine) (peak_under (monitored_step s t) ts)
