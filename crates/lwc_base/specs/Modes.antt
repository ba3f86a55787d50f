-- The mode of a key under a list of items.
use Rattle.std.specs.Prelude.{◌≡◌, ℕ, ◌<◌, ◌≤◌, ◌&&◌, Bool, true, false, List, Option, nat_le, length, nat_lt}
use Rattle.std.specs.Prelude.{unwrap_or, All}
use Rattle.std.specs.List.{find, AllPairs}
use Rattle.std.specs.Option.{option_map}
use Rattle.lwc_base.specs.declared.item.Item.{Item}
use Rattle.lwc_base.specs.declared.item.Mode.{Mode}
use Rattle.lwc_base.specs.declared.item.Mode.TheVariants.{Copy, CopyRead}
use Rattle.lwc_types.specs.declared.key.TheConstants.{SLOTS}
use Rattle.lwc_types.specs.declared.key.Key.{Key}
use Rattle.lwc_types.specs.declared.key.Key.TheVariants as key
use Rattle.lwc_types.specs.declared.key.Kind.{Kind}
use Rattle.lwc_types.specs.declared.key.Kind.TheVariants as kind
use Rattle.lwc_types.specs.declared.limits.TheConstants.{MOST_ITEMS}

-- the kind of a key
abbrev pub kind_of : Key → Kind
kind_of (key.Page p) = kind.Page
kind_of (key.Slot n) = kind.Slot
kind_of key.Cred = kind.Cred

-- the number of a key among those of its kind; the credential is number 0
abbrev pub number_of : Key → ℕ
number_of (key.Page p) = p
number_of (key.Slot n) = n
number_of key.Cred = 0

-- whether two kinds are the same
abbrev pub same_kind : Kind → Kind → Bool
same_kind kind.Page kind.Page = true
same_kind kind.Slot kind.Slot = true
same_kind kind.Cred kind.Cred = true
same_kind _ _ = false

-- the number of keys of a kind, where there are this number of pages
abbrev pub limit : ℕ → Kind → ℕ
limit pages kind.Page = pages
limit pages kind.Slot = SLOTS
limit pages kind.Cred = 1

-- whether an item names a key
abbrev pub names : Item → Key → Bool
names item k =
    same_kind item.kind (kind_of k) && nat_le item.from (number_of k) && nat_lt (number_of k) item.to

-- the mode of the item that names a key, if one does
unfoldable pub mode : List Item → Key → Option Mode
mode items k = option_map (λ item. item.mode) (find (λ item. names item k) items)

-- the mode of a key in a new context: copy where no item names it
unfoldable pub mode_or_copy : List Item → Key → Mode
mode_or_copy items k = unwrap_or (mode items k) Copy

-- whether a mode copies a value
abbrev pub copies : Mode → Bool
copies Copy = true
copies CopyRead = true
copies _ = false

-- a key is one of those that there are, with this number of pages
abbrev pub IsKey : ℕ → Key → Type 0
IsKey pages k = number_of k < limit pages (kind_of k)

-- an item names a key or more, and none past the limit of its kind
pub record IsItem (pages : ℕ) (item : Item) : Type 0 where
  pub some : item.from < item.to
  pub within : item.to ≤ limit pages item.kind

-- whether two items, each of which names a key, have one in common
abbrev pub overlaps : Item → Item → Bool
overlaps a b = same_kind a.kind b.kind && nat_lt a.from b.to && nat_lt b.from a.to

-- two items have no key in common
abbrev pub AreApart : Item → Item → Type 0
AreApart a b = overlaps a b ≡ false

-- the items of a specifier: they are not too many, each is one, and no two have a key in common
pub record IsSpec (pages : ℕ) (items : List Item) : Type 0 where
  pub few : length items ≤ MOST_ITEMS
  pub each : All (IsItem pages) items
  pub apart : AllPairs AreApart items
