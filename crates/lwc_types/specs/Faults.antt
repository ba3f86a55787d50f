-- The numbers of faults and of refusals.
use Rattle.std.specs.Prelude.{ℕ}
use Rattle.lwc_types.specs.declared.fault.Fault.{Fault}
use Rattle.lwc_types.specs.declared.fault.Fault.TheVariants.{BadPc, BadLoad, BadStore, NoFrame, Budget, ReadOnly}
use Rattle.lwc_types.specs.declared.refusal.Refusal.{Refusal}
use Rattle.lwc_types.specs.declared.refusal.Refusal.TheVariants as refusals

-- the number that a report prints for a fault
abbrev pub fault_number : Fault → ℕ
fault_number BadPc = 1
fault_number BadLoad = 2
fault_number BadStore = 3
fault_number NoFrame = 4
fault_number Budget = 5
fault_number ReadOnly = 6

-- the number of a refusal
abbrev pub refusal_number : Refusal → ℕ
refusal_number refusals.BadCall = 2
refusal_number refusals.BadFd = 3
refusal_number refusals.WrongKind = 4
refusal_number refusals.BadAddress = 5
refusal_number refusals.BadRange = 6
refusal_number refusals.BadMode = 7
refusal_number refusals.Overlap = 8
refusal_number refusals.TooManyItems = 9
refusal_number refusals.NotCovered = 10
refusal_number refusals.TooManyContexts = 11
refusal_number refusals.NoSlot = 12
refusal_number refusals.NoSlotThere = 13
refusal_number refusals.NoFrame = 14
refusal_number refusals.NotPermitted = 15
refusal_number refusals.NoFile = 16
refusal_number refusals.TooManyGroups = 17
refusal_number refusals.TooManyRanges = 18
refusal_number refusals.ReplyFull = 19
refusal_number refusals.TooLong = 20
refusal_number refusals.ReadOnly = 21
