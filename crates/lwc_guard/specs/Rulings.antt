-- What becomes of a call under guards that is not one under traps.
use Rattle.std.specs.Prelude.{ℕ, Option, None, Some, false}
use Rattle.guest_machine.specs.declared.progress.Next.{Next}
use Rattle.kernel_core.specs.Machine.{Environment}
use Rattle.kernel_core.specs.Step.{Calls, Outcome, next_outcome, unchanged}
use Rattle.kernel_core.specs.declared.thread.Thread.{Thread}
use Rattle.lwc_base.specs.World.{World}
use Rattle.lwc_guard.specs.Calls.{taking_up, with_guard}
use Rattle.lwc_guard.specs.Guards.{Guards, fuelled, holding}
use Rattle.lwc_guard.specs.declared.calling.Ruling.{Ruling}
use Rattle.lwc_guard.specs.declared.calling.Ruling.TheVariants.{Answer, Fuel, TakeUp}
use Rattle.lwc_monitor.specs.Calls.{calls_under, with_answer}
use Rattle.lwc_monitor.specs.Traps.{Traps}
use Rattle.world_face.specs.Calls.{IsLive}

-- the outcome of a call by its ruling
abbrev pub ruled : Ruling → ℕ → Environment → Thread → Outcome
ruled (Answer value) t e x = unchanged e (with_answer x value)
ruled (Fuel d fuel) t e x = unchanged e (with_answer x 0)
ruled (TakeUp d) t e x = taking_up t e x d

-- and where there may be none: then it is as under traps
abbrev pub ruled_or_not : Traps → Option Ruling → Calls
ruled_or_not traps None number t e x = calls_under traps number t e x
ruled_or_not traps (Some ruling) number t e x = ruled ruling t e x

-- the outcome of what comes next, by the ruling on it
abbrev pub next_ruled : Traps → Option Ruling → ℕ → Environment → Thread → Next → Outcome
next_ruled traps None t e x n = next_outcome (calls_under traps) t e x n
next_ruled traps (Some ruling) t e x n = ruled ruling t e x

-- the guards after a call by its ruling
abbrev pub guards_by : Guards → ℕ → Ruling → Guards
guards_by guards t (Answer value) = guards
guards_by guards t (Fuel d fuel) = with_guard guards d (fuelled fuel)
guards_by guards t (TakeUp d) = with_guard guards d (holding t false)

abbrev pub guards_by_or_not : Guards → ℕ → Option Ruling → Guards
guards_by_or_not guards t None = guards
guards_by_or_not guards t (Some ruling) = guards_by guards t ruling

-- what a ruling tells of the context that it names: one where a thread is taken up lives
abbrev pub IsRuling : World → Ruling → Type 0
IsRuling w (Answer value) = Unit {0}
IsRuling w (Fuel d fuel) = Unit {0}
IsRuling w (TakeUp d) = IsLive w d
