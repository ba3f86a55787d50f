-- What calls take and answer, under other numbers.
use Rattle.std.specs.Prelude.{ℕ}
use Rattle.lwc_base.specs.Store.{Stored, Absent, ReadOnly, Full, Done}
use Rattle.lwc_base.specs.declared.answer.Moved.{Moved}
use Rattle.lwc_base.specs.declared.answer.Moved.TheVariants.{To, Refused}
use Rattle.lwc_names.specs.Shifts.{shifted_channels, shifted_name, shifted_world}
use Rattle.lwc_syscall.specs.Plain.{Outcome}
use Rattle.lwc_syscall.specs.declared.calls.CallContexts.{CallContexts}

module _ (r : ℕ) where
  -- the contexts of a plain call
  abbrev pub shifted_targets : CallContexts → CallContexts
  shifted_targets targets = record { memory = shifted_name r targets.memory; slots = shifted_name r targets.slots; cred = shifted_name r targets.cred }

  -- where a switch leads
  abbrev pub shifted_moved : Moved → Moved
  shifted_moved (To c regs) = To (shifted_name r c) regs
  shifted_moved (Refused refusal) = Refused refusal

  -- how a store ends
  abbrev pub shifted_stored : Stored → Stored
  shifted_stored Absent = Absent
  shifted_stored ReadOnly = ReadOnly
  shifted_stored Full = Full
  shifted_stored (Done w) = Done (shifted_world r w)

  -- how a plain call ends
  abbrev pub shifted_end : Outcome → Outcome
  shifted_end o = record { answer = o.answer; world = shifted_world r o.world; io = shifted_channels r o.io }
