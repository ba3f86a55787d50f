-- Pages that an item names, and those up to which no item names one.
use Rattle.std.proofs.Common.{◌≡◌, ◌≢◌, ◌∙◌, ◌⊎◌, ℕ, ◌+◌, ◌<◌, ◌≤◌, Bool, true, false, List, Some, ap, arith, drop, get_or, inl, inr, length, refl, sym, take}
use Rattle.std.specs.Prelude.{◌&&◌, ◌||◌, ◌==◌, nat_le, nat_lt}
use Rattle.std.specs.List.{list_any}
use Rattle.std.proofs.lemmas.Bool.Decides.{nat_tests}
use Rattle.std.proofs.lemmas.List.{take-append-drop}
use Rattle.std.proofs.lemmas.List.Folds.{list_any-append}
use Rattle.lwc_base.specs.declared.item.Item.{Item}
use Rattle.lwc_base.specs.declared.item.Mode.TheVariants.{Copy}
use Rattle.lwc_base.specs.Modes.{IsSpec, limit, names, same_kind}
use Rattle.lwc_types.specs.declared.key.Key.TheVariants.{Page}
use Rattle.lwc_types.specs.declared.key.Kind.{Kind}
use Rattle.lwc_types.specs.declared.key.Kind.TheVariants as kinds
use Rattle.lwc_types.specs.declared.limits.TheConstants.{MOST_PAGES}
use Rattle.range_map.proofs.Alike.{edge_more}
use Rattle.item_modes.specs.Runs.{IsModeRun}
use Rattle.item_modes.proofs.ModeLemmas.{mode_here}

abbrev named : Kind → ℕ → ℕ → ℕ → Bool
named kind from to q = same_kind kind kinds.Page && nat_le from q && nat_lt q to

off : (kind : Kind) (from to q : ℕ) → (q < from) ⊎ (to ≤ q) → named kind from to q ≡ false
off kinds.Page from to q (inl low) = grind (arith, nat_tests)
off kinds.Page from to q (inr high) = grind (arith, nat_tests)
off kinds.Slot from to q out = refl
off kinds.Cred from to q out = refl

on : (kind : Kind) (from to q : ℕ) → kind ≡ kinds.Page → from ≤ q → q < to → named kind from to q ≡ true
on kinds.Page from to q is low high = grind (arith, nat_tests)
on kinds.Slot from to q is low high = cc
on kinds.Cred from to q is low high = cc

other : (kind : Kind) (from to q : ℕ) → kind ≢ kinds.Page → named kind from to q ≡ false
other kinds.Page from to q differs = absurd (differs refl)
other kinds.Slot from to q differs = refl
other kinds.Cred from to q differs = refl

-- an item names no page before it or past it, and each between
pub outside : (item : Item) (q : ℕ) → (q < item.from) ⊎ (item.to ≤ q) → names item (Page q) ≡ false
outside item q out = off item.kind item.from item.to q out

pub within : (item : Item) (q : ℕ) → item.kind ≡ kinds.Page → item.from ≤ q → q < item.to → names item (Page q) ≡ true
within item q is low high = on item.kind item.from item.to q is low high

-- and none if its keys are of another kind
pub of_other : (item : Item) (q : ℕ) → item.kind ≢ kinds.Page → names item (Page q) ≡ false
of_other item q differs = other item.kind item.from item.to q differs

-- an edge of one of the first items is one of an item
pub edge_of_all : (n e : ℕ) (items : List Item) → list_any (λ item. (item.from == e) || (item.to == e)) (take n items) ≡ true → list_any (λ item. (item.from == e) || (item.to == e)) items ≡ true
edge_of_all n e items is =
    ap (list_any (λ (item : Item). (item.from == e) || (item.to == e))) (sym (take-append-drop n items))
    ∙ list_any-append (λ (item : Item). (item.from == e) || (item.to == e)) (take n items) (drop n items)
    ∙ ap (λ b. b || list_any (λ (item : Item). (item.from == e) || (item.to == e)) (drop n items)) is

-- some item
abbrev pub no_item : Item
no_item = record { kind = kinds.Page; mode = Copy; from = 0; to = 0 }

-- the pages of an item, from one of them on, have its mode
pub item_run : (items : List Item) → IsSpec MOST_PAGES items → (i : ℕ) → i < length items → (p to near : ℕ) → (get_or items i no_item).kind ≡ kinds.Page → (get_or items i no_item).from ≤ p →
    to ≡ (get_or items i no_item).to → IsModeRun items p (record { mode = Some (get_or items i no_item).mode; to = to; near = near })
item_run items valid i inside p to near kind from end = record {
  alike = λ q low high. mode_here items MOST_PAGES valid i no_item inside q (within (get_or items i no_item) q kind (omega (arith, from, low)) (omega (arith, high, end)));
  within = omega (arith, end, (valid.each i no_item inside).within, ap (limit MOST_PAGES) kind);
  edge = λ low early. edge_of_all (i + 1) to items
      (edge_more (λ (item : Item). item.from) (λ (item : Item). item.to) (λ _. false) items i no_item (to + 1) to (to + 1) inside (λ less. absurd (omega (arith, less))) (omega arith) (λ _. inr end) (omega arith));
}
