-- What is under a key of a context, and the one holder that a put changes: its own cell, or a group.
use Rattle.std.specs.Prelude.{ℕ, if◌then◌else◌, Option, Some}
use Rattle.lwc_base.specs.declared.cell.Cell.{Cell}
use Rattle.lwc_base.specs.declared.cell.Cell.TheVariants.{Own, Common}
use Rattle.lwc_base.specs.declared.descriptor.Descriptor.{Descriptor}
use Rattle.lwc_base.specs.Keys.{ValueOf, is_there, with_key}
use Rattle.lwc_base.specs.World.{World, Context, Group, context, group, change_context, change_group}
use Rattle.lwc_types.specs.declared.key.Key.{Key}
use Rattle.lwc_types.specs.declared.key.Key.TheVariants.{Page, Slot, Cred}
use Rattle.lwc_types.specs.declared.name.Name.{Name}
use Rattle.lwc_types.specs.declared.page.PageValue.{PageValue}

-- the value of a cell: its own, or the one that the group has under the key
abbrev pub value_of : World → (k : Key) → Cell (ValueOf k) → ValueOf k
value_of w k (Own value) = value
value_of w k (Common g) = (group w g).value k

-- what is under a key of a context
unfoldable pub value_at : World → Name → (k : Key) → ValueOf k
value_at w c k = value_of w k ((context w c).cell k)

-- a context with this cell under the key
abbrev pub with_cell : (k : Key) → Cell (ValueOf k) → Context → Context
with_cell k cell x = record x { cell = with_key Cell k cell x.cell }

-- a group with this value under the key
abbrev pub with_value : (k : Key) → ValueOf k → Group → Group
with_value k value x = record x { value = with_key (λ T. T) k value x.value }

-- the holder of a cell gets another value: the context's own cell, or the group; an absent page has no holder
abbrev pub put_in : World → Name → (k : Key) → ValueOf k → Cell (ValueOf k) → World
put_in w c k value (Own old) = if is_there k old then change_context w c (with_cell k (Own value)) else w
put_in w c k value (Common g) = change_group w g (with_value k value)

-- another value is put under a key of a context
unfoldable pub put_at : World → Name → (k : Key) → ValueOf k → World
put_at w c k value = put_in w c k value ((context w c).cell k)

-- what is under a page of a context; an absent page has nothing
abbrev pub page_at : World → Name → ℕ → Option PageValue
page_at w c p = value_at w c (Page p)

-- what is under a slot of a context
abbrev pub slot_at : World → Name → ℕ → Descriptor
slot_at w c n = value_at w c (Slot n)

-- the credential of a context
abbrev pub uid_at : World → Name → ℕ
uid_at w c = value_at w c Cred

-- another value is put under a page of a context
abbrev pub put_page : World → Name → ℕ → PageValue → World
put_page w c p value = put_at w c (Page p) (Some value)

-- another descriptor is put under a slot of a context
abbrev pub put_slot : World → Name → ℕ → Descriptor → World
put_slot w c n value = put_at w c (Slot n) value

-- another uid is put under the credential of a context
abbrev pub put_uid : World → Name → ℕ → World
put_uid w c uid = put_at w c Cred uid
