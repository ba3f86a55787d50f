-- Guarded contexts: their fuel, and the threads that they hold.
use Rattle.std.specs.Prelude.{ℕ, ◌-◌, Bool, true, false, Option, None, Some, replicate, slice_index_or, slice_set}
use Rattle.std.specs.Coded.{Coded}
use Rattle.std.specs.Option.{option_map_or}
use Rattle.std.specs.FinMap as fm
use Rattle.lwc_types.specs.Names.{name_cmp}
use Rattle.lwc_types.specs.contracts.name.Name as names
use Rattle.lwc_types.specs.declared.name.Name.{Name}
use Rattle.lwc_guard.specs.contracts.guard.Guard as rows
use Rattle.lwc_guard.specs.declared.guard.Guard.{Guard}

-- which contexts are guarded, each with its guard
abbrev pub Guards : Type 0
Guards = fm.FinMap name_cmp Guard

-- they are stored as pairs
abbrev pub guards_code : Coded Guards
guards_code = fm.code names.the_row.coded rows.the_row.coded

-- a guard that holds no thread
abbrev pub new_guard : Guard
new_guard = record { fuel = 0; held = replicate 16 false }

-- the guard of a context, or a new one
abbrev pub guard_or_new : Option Guard → Guard
guard_or_new None = new_guard
guard_or_new (Some g) = g

-- whether a context holds the thread of a number
abbrev pub holds : Guards → Name → ℕ → Bool
holds guards c t = option_map_or (λ g. slice_index_or g.held t false) (fm.get guards c) false

-- the guard once it holds the thread of a number, or does so no more
abbrev pub holding : ℕ → Bool → Guard → Guard
holding t held g = record g { held = slice_set g.held t held }

-- the guard with this fuel
abbrev pub fuelled : ℕ → Guard → Guard
fuelled fuel g = record g { fuel = fuel }

-- the guard after one more step
abbrev pub lowered : Guard → Guard
lowered g = fuelled (g.fuel - 1) g
