-- A key with a value that is put under it.
use Rattle.lwc_base.specs.Keys.{ValueOf}
use Rattle.lwc_types.specs.declared.key.Key.{Key}
use Rattle.lwc_types.specs.declared.key.Key.TheVariants as key
use Rattle.whole_world.specs.declared.key_value.KeyValue.{KeyValue}
use Rattle.whole_world.specs.declared.key_value.KeyValue.TheVariants.{Page, Slot, Cred}

-- the key
abbrev pub key_in : KeyValue → Key
key_in (Page p value) = key.Page p
key_in (Slot n value) = key.Slot n
key_in (Cred uid) = key.Cred

-- the value
abbrev pub value_in : (v : KeyValue) → ValueOf (key_in v)
value_in (Page p value) = value
value_in (Slot n value) = value
value_in (Cred uid) = uid
