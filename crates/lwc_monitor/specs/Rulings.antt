-- What becomes of a call under traps that is not the kernel's.
use Rattle.std.specs.Prelude.{◌≡◌, ℕ, None, Option, Some, false, true}
use Rattle.std.specs.FinMap as fm
use Rattle.guest_machine.specs.declared.progress.Next.{Next}
use Rattle.kernel_core.specs.Machine.{Environment}
use Rattle.kernel_core.specs.Step.{Calls, Outcome, guest_calls, next_outcome, unchanged, with_world}
use Rattle.kernel_core.specs.declared.thread.Thread.{Thread}
use Rattle.lwc_base.specs.Slots.{lowest_empty}
use Rattle.lwc_base.specs.World.{World, is_live}
use Rattle.lwc_types.specs.declared.name.Name.{Name}
use Rattle.lwc_monitor.specs.Calls.{reporting, with_answer}
use Rattle.lwc_monitor.specs.Traps.{Traps, is_trapped}
use Rattle.lwc_monitor.specs.declared.ruling.Ruling.{Ruling}
use Rattle.lwc_monitor.specs.declared.ruling.Ruling.TheVariants.{Answer, Monitor, Trap}
use Rattle.lwc_switch.specs.Switch.{entering, switched}

-- the outcome of a call by its ruling
abbrev pub ruled : Ruling → Calls
ruled (Answer value) number t e x = unchanged e (with_answer x value)
ruled (Trap d) number t e x = unchanged e (with_answer x 0)
ruled (Monitor m slot) number t e x = unchanged
    (with_world e (switched e.world x.context t x.regs m slot))
    (record x { context = m; regs = reporting x.regs (entering e.world x.context t x.regs m slot number) })

-- and where there may be none: then it is the kernel's
abbrev pub ruled_or_not : Option Ruling → Calls
ruled_or_not None number t e x = guest_calls number t e x
ruled_or_not (Some ruling) number t e x = ruled ruling number t e x

-- the outcome of what comes next, by the ruling on the call of a number that it is
abbrev pub next_ruled : Option (Ruling × ℕ) → ℕ → Environment → Thread → Next → Outcome
next_ruled None t e x n = next_outcome guest_calls t e x n
next_ruled (Some (ruling, number)) t e x n = ruled ruling number t e x

-- the traps after a call by its ruling
abbrev pub traps_by : Traps → Name → Ruling → Traps
traps_by traps c (Answer value) = traps
traps_by traps c (Trap d) = fm.insert traps d c
traps_by traps c (Monitor m slot) = traps

abbrev pub traps_by_or_not : Traps → Name → Option Ruling → Traps
traps_by_or_not traps c None = traps
traps_by_or_not traps c (Some ruling) = traps_by traps c ruling

-- what a ruling tells of the context that it names: one that is to be trapped is not trapped yet; a monitor
-- lives, and its slot is the lowest empty one
abbrev pub IsRuling : Traps → World → Ruling → Type 0
IsRuling traps w (Answer value) = Unit {0}
IsRuling traps w (Trap d) = is_trapped traps d ≡ false
IsRuling traps w (Monitor m slot) = (is_live w m ≡ true) × (lowest_empty w m ≡ Some slot)
