-- What a place and a table end as, where a `&mut` to a value is returned.
use Rattle.std.specs.Prelude.{Option, Some, None}
use Rattle.std.specs.Borrow.{Lends, Fml, RattleType, MutBor}
use Rattle.std.specs.FinMap as fm
use Rattle.ctx_table.specs.Contexts.{Contexts, Kept}
use Rattle.ctx_table.specs.declared.place.Place.{Place}
use Rattle.ctx_table.specs.declared.place.Place.TheVariants.{Free, Held}
use Rattle.ctx_table.specs.contracts.place.Place as place
use Rattle.ctx_table.specs.contracts.table.CtxTable as table
use Rattle.lwc_types.specs.declared.name.Name.{Name}

-- a place with another value
abbrev pub with_value : {C : Type 0} → Place C → C → Place C
with_value Free value = Free
with_value (Held name old entry saved) value = Held name value entry saved

-- a table with another value for what was found under a name
abbrev pub with_value_at : {C : Type 0} → Contexts C → Name → Option (Kept C) → C → Contexts C
with_value_at table name None value = table
with_value_at table name (Some kept) value =
    record table { kept = fm.insert table.kept name (record kept { value = value }) }

-- once the borrow ends, the place has the last value written through it
abbrev pub lends_held : (C : RattleType) → MutBor (Place C.Denot) → MutBor C.Denot → Fml
lends_held C s r = Lends (place.the_row C) C s r (with_value s.now)

-- and the table has it under the name
abbrev pub lends_value : (C : RattleType) → MutBor (Contexts C.Denot) → Name → MutBor C.Denot → Fml
lends_value C s name r =
    Lends (table.the_row C) C s r (with_value_at s.now name (fm.get s.now.kept name))
