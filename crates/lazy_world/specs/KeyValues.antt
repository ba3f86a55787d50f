-- A key that is no page, with a value that is put under it.
use Rattle.std.specs.Prelude.{◌<◌, ⊤, Option, None, Some}
use Rattle.lwc_base.specs.declared.cell.Cell.{Cell}
use Rattle.lwc_base.specs.declared.cell.Cell.TheVariants.{Own, Common}
use Rattle.lwc_base.specs.Keys.{ValueOf}
use Rattle.lwc_base.specs.Lending.{descriptor_of}
use Rattle.lwc_types.specs.declared.key.TheConstants.{SLOTS}
use Rattle.lwc_types.specs.declared.key.Key.{Key}
use Rattle.lwc_types.specs.declared.key.Key.TheVariants as key
use Rattle.lwc_types.specs.declared.name.Name.{Name}
use Rattle.lazy_world.specs.declared.key_value.KeyValue.{KeyValue}
use Rattle.lazy_world.specs.declared.key_value.KeyValue.TheVariants.{Slot, Cred}

-- the key
abbrev pub key_in : KeyValue → Key
key_in (Slot n value) = key.Slot n
key_in (Cred uid) = key.Cred

-- the value
abbrev pub value_in : (v : KeyValue) → ValueOf (key_in v)
value_in (Slot n value) = descriptor_of value
value_in (Cred uid) = uid

-- there is a slot of this number
abbrev pub HasSlot : KeyValue → Type 0
HasSlot (Slot n value) = n < SLOTS
HasSlot (Cred uid) = ⊤

-- the group that a cell names, if it names one
abbrev pub group_in : {T : Type 0} → Cell T → Option Name
group_in (Own value) = None
group_in (Common g) = Some g
