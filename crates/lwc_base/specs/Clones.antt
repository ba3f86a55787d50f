-- A context and its clone, and what two contexts have apart or in common.
use Rattle.std.specs.Prelude.{◌≡◌, ◌≢◌, ◌⊎◌, ℕ, ◌<◌, ◌≤◌, List, true}
use Rattle.lwc_base.specs.declared.cell.Cell.TheVariants.{Common}
use Rattle.lwc_base.specs.declared.item.Item.{Item}
use Rattle.lwc_base.specs.Fresh.{IsFresh}
use Rattle.lwc_types.specs.declared.key.Key.{Key}
use Rattle.lwc_types.specs.declared.key.Key.TheVariants.{Page, Slot, Cred}
use Rattle.lwc_types.specs.declared.name.Name.{Name}
use Rattle.lwc_types.specs.declared.regs.Regs.{Regs}
pub use Rattle.lwc_base.specs.Holders.{IsGroup}
use Rattle.lwc_base.specs.Sharing.{clone_context}
pub use Rattle.lwc_base.specs.Sound.{HasItsGroups}
use Rattle.lwc_base.specs.World.{World, context, is_live, next_context}

-- a job has made a context from a live one, in a fresh world that has the groups that its cells name
pub record IsClone (before after : World) (old new : Name) (items : List Item) : Type 0 where
  pub job : ℕ
  pub entry : Regs
  pub fresh : IsFresh before
  pub groups : HasItsGroups before
  pub live : is_live before old ≡ true
  pub named : new ≡ next_context before job
  pub made : after ≡ clone_context before old job items entry

-- two contexts are different, and name no group in common under a key
pub record AreApart (w : World) (a b : Name) (k : Key) : Type 0 where
  pub differ : a ≢ b
  pub no_group : (g : Name) → (context w a).cell k ≡ Common g → (context w b).cell k ≢ Common g

-- under a key both contexts have the cell of one live group
pub record HaveInCommon (w : World) (a b : Name) (k : Key) : Type 0 where
  pub group : Name
  pub live : IsGroup w group
  pub first : (context w a).cell k ≡ Common group
  pub second : (context w b).cell k ≡ Common group

-- a key is no page from one up to and without another
abbrev pub IsOutside : ℕ → ℕ → Key → Type 0
IsOutside from to (Page p) = (p < from) ⊎ (to ≤ p)
IsOutside from to (Slot n) = Unit {0}
IsOutside from to Cred = Unit {0}
