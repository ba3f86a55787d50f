-- What keeps jobs apart by name: what a job's contexts and groups name is of that job.
use Rattle.std.specs.Prelude.{◌≡◌, ℕ}
use Rattle.lwc_base.specs.declared.descriptor.Descriptor.{Descriptor}
use Rattle.lwc_base.specs.declared.descriptor.Descriptor.TheVariants.{Ctx}
use Rattle.lwc_base.specs.Holders.{Keeps, Rules}
use Rattle.lwc_base.specs.Keys.{ValueOf}
use Rattle.lwc_base.specs.World.{World}
use Rattle.lwc_types.specs.declared.key.Key.{Key}
use Rattle.lwc_types.specs.declared.key.Key.TheVariants.{Page, Slot, Cred}

-- a descriptor is of no context of another job
abbrev pub IsOwnName : ℕ → Descriptor → Type 0
IsOwnName job (Ctx name cap) = name.job ≡ job
IsOwnName job _ = Unit {0}

-- each descriptor is so; what is under other keys is free
abbrev pub IsOwnNameAt : ℕ → (k : Key) → ValueOf k → Type 0
IsOwnNameAt job (Page p) value = Unit {0}
IsOwnNameAt job (Slot n) value = IsOwnName job value
IsOwnNameAt job Cred value = Unit {0}

-- a job's holders may name groups and contexts of that job alone
abbrev pub own_names : Rules
own_names = record { group = λ job k g. g.job ≡ job; value = IsOwnNameAt }

-- what each job's contexts and groups name is of that job
abbrev pub NamesKeepToJobs : World → Type 0
NamesKeepToJobs w = Keeps own_names w
