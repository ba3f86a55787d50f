-- The rows that a reap keeps: the links between rows by their places, and the marks at places.
use Rattle.std.specs.Prelude.{◌≡◌, ℕ, ◌||◌, Bool, List, Option, None, Some, map, slice_get}
use Rattle.std.specs.List.{position}
use Rattle.lwc_base.specs.declared.descriptor.Descriptor.{Descriptor}
use Rattle.lwc_base.specs.declared.descriptor.Descriptor.TheVariants.{Ctx}
use Rattle.lwc_base.specs.Cells.{slot_at}
use Rattle.lwc_types.specs.declared.name.Name.{Name}
use Rattle.reach.specs.Reach.{is_marked}
use Rattle.whole_world.specs.declared.world.WholeWorld.{WholeWorld}
use Rattle.whole_world.specs.Tables.{has_name}
use Rattle.whole_world.specs.Worlds.{seen}

-- the place of the context that a descriptor is of, if a row has its name
abbrev pub place_in : {T : Type 0} → List (Name × T) → Descriptor → Option ℕ
place_in rows (Ctx name cap) = position (has_name name) rows
place_in rows _ = None

-- the place that a slot of a context links to, if there is a name of one
abbrev pub link_from : WholeWorld → ℕ → Option Name → Option ℕ
link_from w n None = None
link_from w n (Some c) = place_in w.contexts.rows.items (slot_at (seen w) c n)

-- the place that a slot of the context at a place links to
unfoldable pub link_of : WholeWorld → ℕ → ℕ → Option ℕ
link_of w place n = link_from w n (slice_get (map (λ row. row.0) w.contexts.rows.items) place)

-- the rows whose names pass a test are marked, and no other mark has changed
pub record AddsMarks {T : Type 0} (rows : List (Name × T)) (test : Name → Bool) (old new : List Bool) : Type 0 where
  pub at : (i : ℕ) (row : Name × T) → slice_get rows i ≡ Some row → is_marked new i ≡ (is_marked old i || test row.0)
