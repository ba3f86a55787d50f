-- The bytes of items, and what it means that bytes spell items for a call.
use Rattle.std.specs.Prelude.{◌≡◌, ℕ, ◌<◌, ◌^◌, IsTrue, List, ◌++◌, All}
use Rattle.std.specs.Int.{w32, to_le_bytes}
use Rattle.std.specs.List.{AllPairs, flat_map}
use Rattle.lwc_base.specs.Modes.{AreApart, IsItem}
use Rattle.lwc_base.specs.declared.item.Item.{Item}
use Rattle.lwc_base.specs.declared.item.Mode.{Mode}
use Rattle.lwc_base.specs.declared.item.Mode.TheVariants.{Copy, Share, Unmap, CopyRead}
use Rattle.lwc_types.specs.declared.key.Kind.{Kind}
use Rattle.lwc_types.specs.declared.key.Kind.TheVariants.{Page, Slot, Cred}
use Rattle.res_spec.specs.declared.items.SpecCall.{SpecCall}
use Rattle.res_spec.specs.Items.{takes}

-- the number of a kind
abbrev pub kind_number : Kind → ℕ
kind_number Page = 0
kind_number Slot = 1
kind_number Cred = 2

-- the number of a mode
abbrev pub mode_number : Mode → ℕ
mode_number Copy = 0
mode_number Share = 1
mode_number Unmap = 2
mode_number CopyRead = 3

-- four bytes, the lowest first
abbrev pub number : ℕ → List ℕ
number n = to_le_bytes w32 n

-- an item: its kind, its mode, and the numbers from and to
abbrev pub spelling : Item → List ℕ
spelling item =
    number (kind_number item.kind) ++ (number (mode_number item.mode) ++ (number item.from ++ number item.to))

-- the bytes are the spelling of these items, each of a mode that the call takes for its kind
pub record Spells (call : SpecCall) (items : List Item) (bytes : List ℕ) : Type 0 where
  pub modes : All (λ item. IsTrue (takes call item.kind item.mode)) items
  pub numbers : All (λ item. (item.from < 2 ^ 32) × (item.to < 2 ^ 32)) items
  pub spelled : bytes ≡ flat_map spelling items

-- no items of kinds and modes that the call takes are spelled
unfoldable pub IsBadMode : SpecCall → List ℕ → Type 0
IsBadMode call bytes = (items : List Item) → Spells call items bytes → ⊥

-- items are spelled, and not each of them names a key and none past the limit of its kind
unfoldable pub IsBadRange : SpecCall → ℕ → List ℕ → Type 0
IsBadRange call pages bytes = (items : List Item) × Spells call items bytes × (All (IsItem pages) items → ⊥)

-- items are spelled that name such keys alone, and not every two of them are apart
unfoldable pub IsOverlap : SpecCall → ℕ → List ℕ → Type 0
IsOverlap call pages bytes =
    (items : List Item) × Spells call items bytes × All (IsItem pages) items × (AllPairs AreApart items → ⊥)
