-- The calls of guests under traps.
use Rattle.std.specs.Prelude.{ℕ, ◌-◌, ◌^◌, ◌==◌, ◌&&◌, ◌||◌, if◌then◌else◌, Bool, true, false, Option, None, Some}
use Rattle.std.specs.Prelude.{not, slice_index, slice_set}
use Rattle.std.specs.FinMap as fm
use Rattle.kernel_core.specs.Machine.{Environment}
use Rattle.kernel_core.specs.Step.{Calls, Outcome, guest_calls, refused, unchanged, with_regs, with_result, with_world}
use Rattle.kernel_core.specs.declared.calling.TheConstants.{LW_OVERLAY, LW_SWITCH, LW_SYSCALL}
use Rattle.kernel_core.specs.declared.thread.Thread.{Thread}
use Rattle.lwc_base.specs.Refusals.{first_refusal}
use Rattle.lwc_base.specs.Slots.{lowest_empty}
use Rattle.lwc_base.specs.World.{World, is_live}
use Rattle.lwc_types.specs.Faults.{refusal_number}
use Rattle.lwc_types.specs.declared.name.Name.{Name}
use Rattle.lwc_types.specs.declared.refusal.Refusal.TheVariants.{NoSlotThere}
use Rattle.lwc_types.specs.declared.regs.Regs.{Regs}
use Rattle.lwc_monitor.specs.Traps.{Traps, forbids_overlay, is_trapped, names_anothers, trap_rows}
use Rattle.lwc_monitor.specs.declared.numbers.TheConstants.{EXIT, LW_TRAP, NOT_FRESH, TRAPPED}
use Rattle.lwc_monitor.specs.declared.trapping.TrapRefusal.{TrapRefusal}
use Rattle.lwc_monitor.specs.declared.trapping.TrapRefusal.TheVariants.{NotFresh, Plain, Trapped}
use Rattle.lwc_overlay.specs.Named.{link}
use Rattle.lwc_switch.specs.Switch.{entering, switched}

-- the thread goes on with a value in r0
abbrev pub with_answer : Thread → ℕ → Thread
with_answer x value = with_regs x (with_result x.regs 0 value)

-- its call is refused by a number
abbrev pub refused_by : Thread → ℕ → Thread
refused_by x number = with_answer x (2 ^ 64 - number)

-- the number of why a context is not trapped
abbrev pub trap_number : TrapRefusal → ℕ
trap_number (Plain refusal) = refusal_number refusal
trap_number Trapped = TRAPPED
trap_number NotFresh = NOT_FRESH

-- the thread after the call that traps a context, by why it does not
abbrev pub trapping : Thread → Option TrapRefusal → Thread
trapping x None = with_answer x 0
trapping x (Some refusal) = refused_by x (trap_number refusal)

-- the registers in the monitor have r1 to r3 of the call in r3 to r5
abbrev pub reporting : Regs → Regs → Regs
reporting regs arrived = record arrived {
  r = slice_set (slice_set (slice_set arrived.r 3 (slice_index regs.r 1)) 4 (slice_index regs.r 2)) 5
      (slice_index regs.r 3);
}

-- a call of a trapped context: its thread goes to the monitor, with the call's number as the argument, if the
-- monitor lives and has an empty slot
abbrev pub trapped_to : ℕ → ℕ → Environment → Thread → Name → Bool → Option ℕ → Outcome
trapped_to number t e x m false slot = unchanged e (refused_by x TRAPPED)
trapped_to number t e x m true None = unchanged e (refused x NoSlotThere)
trapped_to number t e x m true (Some slot) = unchanged
    (with_world e (switched e.world x.context t x.regs m slot))
    (record x { context = m; regs = reporting x.regs (entering e.world x.context t x.regs m slot number) })

unfoldable pub trapped_outcome : Name → Calls
trapped_outcome m number t e x = trapped_to number t e x m (is_live e.world m) (lowest_empty e.world m)

-- whether a trap forbids a call on another context: a switch, a call over chosen contexts, or an overlay
unfoldable pub is_forbidden : Traps → ℕ → World → Name → Regs → Bool
is_forbidden traps number w c regs =
    (number == LW_SWITCH || number == LW_SYSCALL) && names_anothers traps w c regs
    || number == LW_OVERLAY && forbids_overlay traps w c regs

-- the calls of a context that is not trapped
abbrev pub free_outcome : Traps → Calls
free_outcome traps number t e x =
    if number == LW_TRAP
    then unchanged e (trapping x (first_refusal (trap_rows traps e.world x.context x.regs)))
    else (if is_forbidden traps number e.world x.context x.regs then unchanged e (refused_by x TRAPPED)
    else guest_calls number t e x)

-- the calls of a context by its monitor, if it has one; an exit is not trapped
abbrev pub by_monitor : Traps → Option Name → Calls
by_monitor traps None number t e x = free_outcome traps number t e x
by_monitor traps (Some m) number t e x =
    if number == EXIT then guest_calls number t e x else trapped_outcome m number t e x

-- the table of calls under traps
unfoldable pub calls_under : Traps → Calls
calls_under traps number t e x = by_monitor traps (fm.get traps x.context) number t e x

-- the traps after a call that traps, by why it does not
abbrev pub trapped_by : Traps → World → Name → Regs → Option TrapRefusal → Traps
trapped_by traps w c regs None = fm.insert traps (link w c regs).0 c
trapped_by traps w c regs (Some refusal) = traps

-- the traps after a call of a thread, if it makes one
abbrev pub traps_after_call : Traps → World → Thread → Option ℕ → Traps
traps_after_call traps w x None = traps
traps_after_call traps w x (Some number) =
    if number == LW_TRAP && not (is_trapped traps x.context)
    then trapped_by traps w x.context x.regs (first_refusal (trap_rows traps w x.context x.regs))
    else traps
