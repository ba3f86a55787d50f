-- A slot is common where to share it would need no group.
use Rattle.std.proofs.Common.{◌≡◌, ℕ, ◌+◌, ◌<◌, Bool, true, false, cond, List, [], ◌∷◌, Some, None, refl, sym, ap, subst, arith, ltb, leb}
use Rattle.std.specs.Prelude.{◌&&◌, not, unwrap_or}
use Rattle.std.specs.Option.{option_map}
use Rattle.std.proofs.lemmas.Bool.Decides.{nat_tests}
use Rattle.lwc_base.specs.Modes.{mode, mode_or_copy}
use Rattle.lwc_base.specs.Sharing.{has_own, needs_group}
use Rattle.lwc_base.specs.World.{World, context}
use Rattle.lwc_base.specs.declared.cell.Cell.{Cell}
use Rattle.lwc_base.specs.declared.cell.Cell.TheVariants.{Common, Own}
use Rattle.lwc_base.specs.declared.descriptor.Descriptor.{Descriptor}
use Rattle.lwc_base.specs.declared.item.Item.{Item}
use Rattle.lwc_base.specs.declared.item.Mode.TheVariants.{Copy, Share}
use Rattle.lwc_base.proofs.Needs.{needed-own, not_needed}
use Rattle.lwc_types.specs.declared.key.TheConstants.{SLOTS}
use Rattle.lwc_types.specs.declared.key.Key.{Key}
use Rattle.lwc_types.specs.declared.key.Key.TheVariants.{Cred, Page, Slot}
use Rattle.lwc_types.specs.declared.key.Kind.TheVariants as kinds
use Rattle.lwc_types.specs.declared.name.Name.{Name}
use Rattle.lwc_monitor.specs.Traps.{is_common}

-- the item that shares one slot
abbrev pub one : ℕ → List Item
one n = record { kind = kinds.Slot; mode = Share; from = n; to = n + 1 } ∷ []

named_by : (n m : ℕ) → (leb n m && ltb m (n + 1)) ≡ true → m ≡ n
named_by n m is = grind (arith, nat_tests)

names_it : (n : ℕ) → (leb n n && ltb n (n + 1)) ≡ true
names_it n = grind (arith, nat_tests)

shared_here : (n : ℕ) → mode_or_copy (one n) (Slot n) ≡ Share
unfolding mode_or_copy mode
shared_here n = ap (λ b. unwrap_or (option_map (λ (i : Item). i.mode) (cond b (Some (record { kind = kinds.Slot; mode = Share; from = n; to = n + 1 })) None)) Copy) (names_it n)

-- no other key is shared
copied : (b : Bool) (item : Item) → unwrap_or (option_map (λ (i : Item). i.mode) (cond b (Some item) None)) Copy ≡ Share → b ≡ true
copied true item is = refl
copied false item is = cc

only_here : (n : ℕ) (k : Key) → mode_or_copy (one n) k ≡ Share → k ≡ Slot n
unfolding mode_or_copy mode
only_here n (Page p) is = cc
only_here n (Slot m) is = ap Slot (named_by n m (copied _ _ is))
only_here n Cred is = cc

module _ (w : World) (d : Name) (n : ℕ) (within : n < SLOTS) where
  by-cell : (cell : Cell Descriptor) → (context w d).cell (Slot n) ≡ cell → not (needs_group w d (one n)) ≡ is_common cell
  by-cell (Own value) is = ap not (needed-own w d (one n) (Slot n) value within (shared_here n) is refl)
  by-cell (Common g) is = ap not (not_needed w d (one n) (λ k inside shared.
      subst (λ (q : Key). has_own q ((context w d).cell q) ≡ false) (sym (only_here n k shared)) (ap (has_own (Slot n)) is)))

  -- where it is common no group is needed
  pub common-is : not (needs_group w d (one n)) ≡ is_common ((context w d).cell (Slot n))
  common-is = by-cell _ refl
