-- Steps that are given back to the monitor of a guarded context.
use Rattle.std.specs.Prelude.{ℕ, ◌+◌, ◌-◌, ◌^◌, ◌==◌, Bool, true, false, List, Option, None, Some, if◌then◌else◌}
use Rattle.std.specs.Prelude.{slice_index, slice_set}
use Rattle.std.specs.Option.{option_and_then, option_map}
use Rattle.std.specs.FinMap as fm
use Rattle.guest_isa.specs.declared.instr.Instr.{Instr}
use Rattle.guest_isa.specs.declared.op.Op.{Op}
use Rattle.guest_isa.specs.declared.op.Op.TheVariants.{Halt, Sys}
use Rattle.guest_machine.specs.declared.progress.Advance.{Advance}
use Rattle.guest_machine.specs.declared.progress.Next.{Next}
use Rattle.guest_machine.specs.declared.progress.Next.TheVariants as next
use Rattle.kernel_core.specs.Machine.{Environment}
use Rattle.kernel_core.specs.Step.{Outcome, address, faulted, next_outcome, unchanged, with_regs, with_world}
use Rattle.kernel_core.specs.declared.thread.Thread.{Thread}
use Rattle.lwc_base.specs.Capabilities.{empty_cap}
use Rattle.lwc_base.specs.Cells.{put_slot}
use Rattle.lwc_base.specs.Saved.{entered, save}
use Rattle.lwc_base.specs.Slots.{lowest_empty}
use Rattle.lwc_base.specs.World.{World, context, is_live}
use Rattle.lwc_base.specs.declared.descriptor.Descriptor.TheVariants.{Ctx}
use Rattle.lwc_guard.specs.Guards.{holding, lowered}
use Rattle.lwc_guard.specs.declared.guard.Guard.{Guard}
use Rattle.lwc_guard.specs.declared.numbers.TheConstants.{EXITED, HALTED, NO_FUEL}
use Rattle.lwc_monitor.specs.Calls.{calls_under}
use Rattle.lwc_monitor.specs.Traps.{Traps}
use Rattle.lwc_switch.specs.Switch.{arriving}
use Rattle.lwc_types.specs.Faults.{fault_number}
use Rattle.lwc_types.specs.declared.fault.Fault.{Fault}
use Rattle.lwc_types.specs.declared.fault.Fault.TheVariants as fault
use Rattle.lwc_types.specs.declared.fault.ThreadStatus.{ThreadStatus}
use Rattle.lwc_types.specs.declared.fault.ThreadStatus.TheVariants as status
use Rattle.lwc_types.specs.declared.name.Name.{Name}
use Rattle.lwc_types.specs.declared.regs.Regs.{Regs}

-- whether an instruction is HALT
abbrev pub is_halt : Op → Bool
is_halt Halt = true
is_halt _ = false

-- the cause of a thread's end that was no fault: HALT, or an exit
abbrev pub cause_of_end : Next → ℕ
cause_of_end next.Pause = EXITED
cause_of_end next.BadPc = EXITED
cause_of_end (next.Shared i) = if is_halt i.op then HALTED else EXITED

-- the cause of a fault: its number; a budget that is used up is none
abbrev pub cause_of_fault : Fault → Option ℕ
cause_of_fault f = if fault_number f == fault_number fault.Budget then None else Some (fault_number f)

-- why a step is given back that would leave its thread with this status, if it is
abbrev pub cause_of : Next → ThreadStatus → Option ℕ
cause_of n status.Running = None
cause_of n status.Idle = None
cause_of n (status.Done code) = Some (cause_of_end n)
cause_of n (status.Faulted f) = cause_of_fault f

-- what is told beside the cause: the address of a load or store, and the code of an exit
abbrev pub detail_in : Regs → Instr → Op → Option ℕ
detail_in regs i Halt = None
detail_in regs i Sys = Some (slice_index regs.r 1)
detail_in regs i _ = Some (address regs i)

abbrev pub detail_of : Regs → Next → Option ℕ
detail_of regs next.Pause = None
detail_of regs next.BadPc = None
detail_of regs (next.Shared i) = detail_in regs i i.op

-- the registers with a value in r4, if there is one
abbrev pub with_detail : Option ℕ → List ℕ → List ℕ
with_detail None r = r
with_detail (Some value) r = slice_set r 4 value

-- the registers in the monitor: the slot is in r1, 2^32 and the cause in r2, where the thread was in r3, and in r4
-- what is told beside it
abbrev pub told : Regs → ℕ → ℕ → ℕ → Option ℕ → Regs
told regs slot cause pc detail =
    let arrived = arriving regs slot (2 ^ 32 + cause) in
    record arrived { r = with_detail detail (slice_set arrived.r 3 pc) }

-- a thread is given back: its context keeps its registers as they are, the monitor's slot gets a descriptor of the
-- context without a key, and the thread goes on in the monitor
abbrev pub given_back : ℕ → Option ℕ → ℕ → Environment → Thread → Name → ℕ → Outcome
given_back cause detail t e x m slot = unchanged
    (with_world e (put_slot (save e.world x.context t x.regs) m slot (Ctx x.context empty_cap)))
    (record x { context = m; regs = told (entered (context e.world m) t) slot cause x.regs.pc detail })

-- where a thread of a context is given back to: the monitor, and its lowest empty slot, if it lives and has one
unfoldable pub way_back : Traps → World → Name → Option (Name × ℕ)
way_back traps w c = option_and_then
    (λ m. if is_live w m then option_map (λ slot. (m, slot)) (lowest_empty w m) else None) (fm.get traps c)

-- what a step in a guarded context leaves: the outcome, and the guard
pub record Course : Type 0 where
  pub outcome : Outcome
  pub guard : Guard

-- a step that would end its thread with this outcome, by the way back: it is given back, or ends it
abbrev pub returned : Option (Name × ℕ) → ℕ → Option ℕ → ℕ → Environment → Thread → Guard → Outcome → Course
returned None cause detail t e x g ends = record { outcome = ends; guard = g }
returned (Some (m, slot)) cause detail t e x g ends =
    record { outcome = given_back cause detail t e x m slot; guard = holding t true g }

-- a step for which there is no fuel
abbrev pub unfuelled : Traps → ℕ → Environment → Thread → Guard → Course
unfuelled traps t e x g =
    returned (way_back traps e.world x.context) NO_FUEL None t e x g (unchanged e (faulted x fault.Budget))

-- a step that is made, by its cause to be given back, if it has one: the thread is as it was before the shared
-- instruction, the world and the channels as before the step
abbrev pub made_or_returned : Traps → ℕ → Environment → Thread → Next → Guard → Outcome → Option ℕ → Course
made_or_returned traps t e x n g made None = record { outcome = made; guard = g }
made_or_returned traps t e x n g made (Some cause) =
    returned (way_back traps e.world x.context) cause (detail_of x.regs n) t e x g made

-- a step for which there is fuel: the next one under a monitor, which takes one of the fuel
abbrev pub fuelled_step : Traps → ℕ → Environment → Thread → Advance → Guard → Course
fuelled_step traps t e x advance g =
    let caller = with_regs x advance.after in
    let made = next_outcome (calls_under traps) t e caller advance.next in
    made_or_returned traps t e caller advance.next (lowered g) made (cause_of advance.next made.thread.status)

-- what a step of a running thread in a guarded context leaves, before it is counted
unfoldable pub guarded_course : Traps → ℕ → Environment → Thread → Advance → Guard → Course
guarded_course traps t e x advance g =
    if g.fuel == 0 then unfuelled traps t e x g else fuelled_step traps t e x advance g
