-- Sharing changes no value: what moves out of a context is in the new group, and the context's cells name it.
use Rattle.std.proofs.Common.{◌≡◌, ◌≢◌, ◌⊎◌, inl, inr, ℕ, refl, ap, false, true, List, arith, rules}
use Rattle.std.proofs.lemmas.Bool.{cond_both}
use Rattle.lwc_base.specs.declared.cell.Cell.{Cell}
use Rattle.lwc_base.specs.declared.cell.Cell.TheVariants.{Own, Common}
use Rattle.lwc_base.specs.declared.item.Item.{Item}
use Rattle.lwc_base.specs.declared.item.Mode.{Mode}
use Rattle.lwc_base.specs.declared.item.Mode.TheVariants.{Copy, Share, Unmap, CopyRead}
use Rattle.lwc_base.specs.Cells.{value_of, value_at}
use Rattle.lwc_base.specs.Facts.{ChangesContext, AddsGroup, SharesValues}
use Rattle.lwc_base.specs.Fresh.{IsFresh}
use Rattle.lwc_base.specs.Keys.{ValueOf, nothing}
use Rattle.lwc_base.specs.Modes.{mode_or_copy}
use Rattle.lwc_base.specs.Sharing.{is_moved, moved_value, moved_values, needs_group, shared_cell, with_shared, share}
use Rattle.lwc_base.specs.World.{World, Context, Group, context, group, change_context, add_group, next_group}
use Rattle.lwc_base.proofs.Lookups.{changes-change_context, adds-add_group}
use Rattle.lwc_base.proofs.Puts.{live_of_common}
use Rattle.lwc_types.specs.declared.counters.Counters.{Counters}
use Rattle.lwc_types.specs.declared.key.Key.{Key}
use Rattle.lwc_types.specs.declared.key.Key.TheVariants.{Page, Slot, Cred}
use Rattle.lwc_types.specs.declared.name.Name.{Name}
use Rattle.lwc_types.proofs.Orders.{cases_name}

-- where no value moves, none is moved, unless an absent page is
nothing_moves : (mode : Mode) (k : Key) (cell : Cell (ValueOf k)) → is_moved mode k cell ≡ false → moved_value mode k cell ≡ nothing k
nothing_moves Share (Page p) (Own value) stays = grind arith
nothing_moves Share (Slot n) (Own value) stays = grind arith
nothing_moves Share Cred (Own value) stays = grind arith
nothing_moves mode k cell stays = refl

pub context-same : (w v : World) (c : Name) → v.contexts ≡ w.contexts → context v c ≡ context w c
unfolding context
context-same w v c same = grind arith

pub group-same : (w v : World) (g : Name) → v.groups ≡ w.groups → group v g ≡ group w g
unfolding group
group-same w v g same = grind arith

module _ (w : World) (c : Name) (job : ℕ) (items : List Item) where
  abbrev left : World
  left = change_context w c (with_shared (next_group w job) items)

  abbrev moved : World
  moved = add_group left job (moved_values items (context w c))

  shares-moved : needs_group w c items ≡ true → SharesValues w c job items moved
  shares-moved needs =
      let leaves : ChangesContext w c (with_shared (next_group w job) items) left = changes-change_context w c _ in
      let name : next_group left job ≡ next_group w job = ap (λ (n : ℕ → Counters). record { job = job; k = (n job).groups }) leaves.names.next in
      let adds : AddsGroup left job (moved_values items (context w c)) moved = adds-add_group left job _ in
      search (rules, context-same, leaves, adds, name)

  pub shares-share : SharesValues w c job items (share w c job items)
  unfolding share
  shares-share = cond_both (needs_group w c items) moved w (SharesValues w c job items) shares-moved (λ none. search rules)

  -- what a sharing leaves of each context: cells of other modes, and all registers
  left_by : {X : Type 0} (part : Context → X) → (part (with_shared (next_group w job) items (context w c)) ≡ part (context w c)) → (d : Name) →
      part (context (share w c job items) d) ≡ part (context w d)
  left_by part stays d = let shares = shares-share in cases_name d c
      (λ same. grind (arith, shares.none, shares.named, shares.dead))
      (λ other. ap part (shares.others d other))

  pub share-cell : (d : Name) (k : Key) → ((context (share w c job items) d).cell k ≡ (context w d).cell k) ⊎ ((d ≡ c) × (mode_or_copy items k ≡ Share))
  unfolding with_shared
  share-cell d k = cases_name d c
      (λ same. elim (mode_or_copy items k) as (λ m. mode_or_copy items k ≡ m → ((context (share w c job items) d).cell k ≡ (context w d).cell k) ⊎ ((d ≡ c) × (m ≡ Share))) [
        | Share ↦ λ is. inr (same, refl)
        | Copy ↦ λ is. inl (left_by (λ x. x.cell k) (ap (λ m. shared_cell (next_group w job) m k ((context w c).cell k)) is) d)
        | Unmap ↦ λ is. inl (left_by (λ x. x.cell k) (ap (λ m. shared_cell (next_group w job) m k ((context w c).cell k)) is) d)
        | CopyRead ↦ λ is. inl (left_by (λ x. x.cell k) (ap (λ m. shared_cell (next_group w job) m k ((context w c).cell k)) is) d)
      ] refl)
      (λ other. inl (ap (λ x. x.cell k) (shares-share.others d other)))

  pub share-entry : (d : Name) → (context (share w c job items) d).entry ≡ (context w d).entry
  unfolding with_shared
  share-entry = left_by (λ x. x.entry) refl

  pub share-saved : (d : Name) (t : ℕ) → (context (share w c job items) d).saved t ≡ (context w d).saved t
  unfolding with_shared
  share-saved d t = left_by (λ x. x.saved t) refl d

  -- the new group has each value that has moved, and nothing else
  pub group-moved : needs_group w c items ≡ true → (k : Key) (value : ValueOf k) → mode_or_copy items k ≡ Share → (context w c).cell k ≡ Own value →
      (group (share w c job items) (next_group w job)).value k ≡ value
  unfolding moved_values
  group-moved needs k value mode is = let new = shares-share.moved needs in grind arith

  pub group-nothing : needs_group w c items ≡ true → (k : Key) → is_moved (mode_or_copy items k) k ((context w c).cell k) ≡ false →
      (group (share w c job items) (next_group w job)).value k ≡ nothing k
  unfolding moved_values
  group-nothing needs k stays = let new = shares-share.moved needs in let none = nothing_moves (mode_or_copy items k) k ((context w c).cell k) stays in grind arith

-- a cell has the same value in two worlds where the group that it names has
pub value_of-same : (v w : World) (k : Key) (cell : Cell (ValueOf k)) → ((g : Name) → cell ≡ Common g → (group v g).value k ≡ (group w g).value k) →
    value_of v k cell ≡ value_of w k cell
value_of-same v w k cell same = grind (arith, same)

-- and so has a cell whose value has moved into a group
value_of-moved : (v w : World) (g : Name) (k : Key) (mode : Mode) (cell : Cell (ValueOf k)) → (group v g).value k ≡ moved_value mode k cell →
    ((h : Name) → cell ≡ Common h → (group v h).value k ≡ (group w h).value k) → value_of v k (shared_cell g mode k cell) ≡ value_of w k cell
value_of-moved v w g k mode cell there same = grind (arith, same)

-- in a fresh world a group that a cell names is not the next one of a job
pub named-not-next : (w : World) (c : Name) (job : ℕ) (k : Key) (g : Name) → IsFresh w → (context w c).cell k ≡ Common g → g ≢ next_group w job
named-not-next w c job k g fresh is same = grind (arith, fresh.cells.contexts c (live_of_common w c k g is) k)

module _ (w : World) (c : Name) (job : ℕ) (items : List Item) (fresh : IsFresh w) where
  abbrev shared : World
  shared = share w c job items

  old_groups : (d : Name) (k : Key) (g : Name) → (context w d).cell k ≡ Common g → (group shared g).value k ≡ (group w g).value k
  old_groups d k g is = ap (λ (x : Group). x.value k) ((shares-share w c job items).groups g (named-not-next w d job k g fresh is))

  -- what is under a key of any context
  pub value_at-share : (d : Name) (k : Key) → value_at shared d k ≡ value_at w d k
  unfolding value_at with_shared moved_values
  value_at-share d k = search (rules, shares-share, value_of-same, old_groups, value_of-moved, cases_name)

-- sharing changes no value
pub ruleset shared_values = (value_at-share)
