-- The worlds that runs reach.
use Rattle.std.specs.Prelude.{◌≡◌, ℕ, ◌<◌, List, Option, None, Some, length, true}
use Rattle.lwc_base.specs.Fresh.{IsFresh}
use Rattle.lwc_base.specs.Holders.{Rules, everywhere, IsGroup, Keeps}
use Rattle.lwc_base.specs.Keys.{ValueOf, is_there}
use Rattle.lwc_base.specs.Modes.{IsKey}
use Rattle.lwc_base.specs.World.{World, group}
use Rattle.lwc_types.specs.declared.key.Key.{Key}
use Rattle.lwc_types.specs.declared.key.Key.TheVariants.{Page, Slot, Cred}
use Rattle.lwc_types.specs.declared.name.Name.{Name}
use Rattle.lwc_types.specs.declared.name.Tag.{Tag}
use Rattle.lwc_types.specs.declared.page.PageValue.{PageValue}
use Rattle.lwc_types.specs.declared.page.PageValue.TheVariants.{Zero, Data}
use Rattle.lwc_types.specs.declared.page.TheConstants.{PAGE_BYTES}

-- a live group has something under a key
pub record HasValue (w : World) (k : Key) (g : Name) : Type 0 where
  pub live : IsGroup w g
  pub there : is_there k ((group w g).value k) ≡ true

-- a cell under a key may name each live group that has something there
abbrev pub live_groups : World → Rules
live_groups w = everywhere (HasValue w) (λ k value. Unit {0})

-- each group that a cell names is live and has something under the cell's key
abbrev pub HasItsGroups : World → Type 0
HasItsGroups w = Keeps (live_groups w) w

-- bytes under a tag are a whole page, the tag has been taken, and this is the tag's one page number
pub record IsSoundData (w : World) (home : Tag → ℕ) (p : ℕ) (tag : Tag) (bytes : List ℕ) : Type 0 where
  pub whole : length bytes ≡ PAGE_BYTES
  pub old : tag.k < (w.next tag.job).tags
  pub at_home : home tag ≡ p

-- what may be under a page number: nothing, and under those of the world also zeros and sound bytes
abbrev pub IsSoundPage : World → (Tag → ℕ) → ℕ → Option PageValue → Type 0
IsSoundPage w home p None = Unit {0}
IsSoundPage w home p (Some Zero) = p < w.size.pages
IsSoundPage w home p (Some (Data tag bytes)) = (p < w.size.pages) × IsSoundData w home p tag bytes

-- each page is sound; what is under other keys is free
abbrev pub IsSoundValue : World → (Tag → ℕ) → (k : Key) → ValueOf k → Type 0
IsSoundValue w home (Page p) value = IsSoundPage w home p value
IsSoundValue w home (Slot n) value = Unit {0}
IsSoundValue w home Cred value = Unit {0}

-- a cell may name each group, where each value is sound
abbrev pub sound_pages : World → (Tag → ℕ) → Rules
sound_pages w home = everywhere (λ k g. Unit {0}) (IsSoundValue w home)

-- a cell may name a group only under a key that there is
abbrev pub common_keys : World → Rules
common_keys w = everywhere (λ k g. IsKey w.size.pages k) (λ k value. Unit {0})

-- names are old, groups have what cells name them for, which they do under keys that there are, and each tag
-- is under one page number
pub record IsSound (w : World) : Type 0 where
  pub fresh : IsFresh w
  pub groups : HasItsGroups w
  pub keys : Keeps (common_keys w) w
  pub home : Tag → ℕ
  pub pages : Keeps (sound_pages w home) w
