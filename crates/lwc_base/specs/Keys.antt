-- The values under the keys of a context.
use Rattle.std.specs.Prelude.{ℕ, ◌==◌, if◌then◌else◌, Bool, true, Option, None, is_some}
use Rattle.lwc_base.specs.declared.descriptor.Descriptor.{Descriptor}
use Rattle.lwc_base.specs.declared.descriptor.Descriptor.TheVariants.{Empty}
use Rattle.lwc_types.specs.declared.key.Key.{Key}
use Rattle.lwc_types.specs.declared.key.Key.TheVariants.{Page, Slot, Cred}
use Rattle.lwc_types.specs.declared.key.TheConstants.{NOBODY}
use Rattle.lwc_types.specs.declared.page.PageValue.{PageValue}

-- what may be under a key: a page's value or nothing, a slot's descriptor, or a uid
abbrev pub ValueOf : Key → Type 0
ValueOf (Page p) = Option PageValue
ValueOf (Slot n) = Descriptor
ValueOf Cred = ℕ

-- what is under a key that is left out: no page, an empty slot, and the uid of nobody
abbrev pub nothing : (k : Key) → ValueOf k
nothing (Page p) = None
nothing (Slot n) = Empty
nothing Cred = NOBODY

-- whether something is there: all but an absent page is
abbrev pub is_there : (k : Key) → ValueOf k → Bool
is_there (Page p) value = is_some value
is_there (Slot n) value = true
is_there Cred value = true

-- what is under each key, with something else under one of them
abbrev pub with_key : (F : Type 0 → Type 0) → (k : Key) → F (ValueOf k) → ((q : Key) → F (ValueOf q)) →
    (q : Key) → F (ValueOf q)
with_key F (Page p) new old (Page q) = if q == p then new else old (Page q)
with_key F (Slot n) new old (Slot m) = if m == n then new else old (Slot m)
with_key F Cred new old Cred = new
with_key F _ new old q = old q
