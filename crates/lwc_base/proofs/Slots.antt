-- What the slots of a context read after each change, which contexts their descriptors are of, and which is the lowest empty one.
use Rattle.std.proofs.Common.{rules, ◌≡◌, ◌≢◌, ◌⊎◌, inl, ℕ, zero, suc, ◌+◌, ◌<◌, ◌∙◌, Bool, true, Some, List, length, arith}
use Rattle.std.proofs.lemmas.Bool.Decides.{nat_tests}
use Rattle.std.specs.List.{find, range_with_len}
use Rattle.lwc_base.specs.declared.descriptor.Descriptor.{Descriptor}
use Rattle.lwc_base.specs.declared.descriptor.Descriptor.TheVariants.{Empty}
use Rattle.lwc_base.specs.declared.item.Item.{Item}
use Rattle.lwc_base.specs.Cells.{put_at, put_slot, slot_at, value_at}
use Rattle.lwc_base.specs.Facts.{AddsContext, ChangesContext}
use Rattle.lwc_base.specs.Fresh.{IsFresh}
use Rattle.lwc_base.specs.Keys.{ValueOf}
use Rattle.lwc_base.specs.Life.{is_of, links}
use Rattle.lwc_base.specs.Memory.{touched}
use Rattle.lwc_base.specs.Overlay.{overlay, with_overlay}
use Rattle.lwc_base.specs.Sharing.{clone_context, cloned_context, share}
use Rattle.lwc_base.specs.Slots.{lowest_empty}
use Rattle.lwc_base.specs.Store.{Piece, after_store, stored_pages}
use Rattle.lwc_base.specs.Summaries.{is_empty}
use Rattle.lwc_base.specs.World.{World, change_counters, context, group, is_live, next_context}
use Rattle.lwc_base.proofs.Common.{put-other_key, value_at-same}
use Rattle.lwc_base.proofs.Keys.{with_key-itself}
use Rattle.lwc_base.proofs.Lookups.{adds-add_context, changes-change_context, changes-change_group}
use Rattle.lwc_base.proofs.Needs.{some_in_range}
use Rattle.lwc_base.proofs.Reaped.{number_in}
use Rattle.lwc_base.proofs.Sharing.{group-same, shares-share, value_at-share, value_of-same}
use Rattle.lwc_base.proofs.StoredBytes.{put_pages-other_keys}
use Rattle.lwc_types.specs.declared.key.TheConstants.{SLOTS}
use Rattle.lwc_types.specs.declared.key.Key.{Key}
use Rattle.lwc_types.specs.declared.key.Key.TheVariants.{Slot}
use Rattle.lwc_types.specs.declared.name.Name.{Name}
use Rattle.lwc_types.specs.declared.regs.Regs.{Regs}
use Rattle.lwc_types.proofs.Orders.{cases_name}

-- a search of consecutive numbers finds one of them that passes the test
number_found : (test : ℕ → Bool) (from count n : ℕ) → find test (range_with_len from count) ≡ Some n → (n < from + count) × (test n ≡ true)
number_found test from zero n e = grind arith
number_found test from (suc count) n e = let later = number_found test (from + 1) count n in grind (arith, later)

pub lowest_is_empty_slot : (w : World) (c : Name) (n : ℕ) → lowest_empty w c ≡ Some n → (n < SLOTS) × (is_empty (slot_at w c n) ≡ true)
unfolding lowest_empty
lowest_is_empty_slot w c n e = number_found (λ m. is_empty (slot_at w c m)) 0 SLOTS n e

-- a context links to another one exactly where one of its slots has a descriptor of that one
pub linked_slot : (w : World) (c d : Name) → links w c d ≡ true → (n : ℕ) × (n < SLOTS) × (is_of d (slot_at w c n) ≡ true)
unfolding links
linked_slot w c d link = let found = number_in (λ n. is_of d (slot_at w c n)) SLOTS 0 link in (found.0, omega (arith, found.2), found.3)

pub slot_links : (w : World) (c d : Name) (n : ℕ) → n < SLOTS → is_of d (slot_at w c n) ≡ true → links w c d ≡ true
unfolding links
slot_links w c d n within is = some_in_range (λ m. is_of d (slot_at w c m)) SLOTS 0 n (omega arith) (omega (arith, within)) is

-- a store changes no slot
pub slot_at-after_store : (w : World) (c : Name) (job : ℕ) (piece : Piece) (d : Name) (n : ℕ) → slot_at (after_store w c job piece) d n ≡ slot_at w d n
unfolding after_store change_counters value_at context group
slot_at-after_store w c job piece d n =
    put_pages-other_keys w c (stored_pages w c job piece (w.next job).tags (touched piece.at (length piece.bytes))) d (Slot n) (λ p same. cc)

-- after a put a context reads what it did, or what is put, where it read what the context of the put did
pub put_at-reads : (w : World) (c : Name) (k : Key) (value : ValueOf k) (a : Name) →
    (value_at (put_at w c k value) a k ≡ value_at w a k) ⊎ ((value_at (put_at w c k value) a k ≡ value) × (value_at w a k ≡ value_at w c k))
unfolding value_at put_at
put_at-reads w c k value a = grind (arith, cases_name, changes-change_context, changes-change_group, with_key-itself)

pub put_slot-reads : (w : World) (c : Name) (n : ℕ) (value : Descriptor) (a : Name) (m : ℕ) →
    (slot_at (put_slot w c n value) a m ≡ slot_at w a m) ⊎ ((slot_at (put_slot w c n value) a m ≡ value) × (slot_at w a m ≡ slot_at w c n))
put_slot-reads w c n value a m = grind (arith, nat_tests, put_at-reads, put-other_key)

-- a context is made from another one
module _ (w : World) (c : Name) (job : ℕ) (items : List Item) (fresh : IsFresh w) (entry : Regs) where
  abbrev shared : World
  shared = share w c job items

  abbrev cloned : World
  cloned = clone_context w c job items entry

  pub adds-clone : AddsContext shared job (cloned_context shared c items entry) cloned
  unfolding clone_context
  adds-clone = adds-add_context shared job _

  -- each context but the new one reads what it did
  pub slot_at-clone : (a : Name) (n : ℕ) → a ≢ next_context shared job → slot_at cloned a n ≡ slot_at w a n
  unfolding value_at
  slot_at-clone a n other = search (rules, adds-clone, value_at-same, value_at-share, group-same)

  -- and the new one nothing, or what the context reads that it is made from
  pub slot_at-new : (n : ℕ) → (slot_at cloned (next_context shared job) n ≡ Empty) ⊎ (slot_at cloned (next_context shared job) n ≡ slot_at w c n)
  unfolding cloned_context value_at
  slot_at-new n =
      let adds = adds-clone in
      let same = value_at-share w c job items fresh c (Slot n) in
      let groups = λ (g : Name). group-same shared cloned g adds.groups in
      grind (arith, value_of-same)

-- a context after an overlay reads what it did, nothing, or what the other context reads
pub slot_at-overlay : (w : World) (c d : Name) (job : ℕ) (items : List Item) → IsFresh w → is_live w c ≡ true → (a : Name) (n : ℕ) →
    (slot_at (overlay w c d job items) a n ≡ slot_at w a n) ⊎ ((slot_at (overlay w c d job items) a n ≡ Empty) ⊎ (slot_at (overlay w c d job items) a n ≡ slot_at w d n))
unfolding overlay value_at
slot_at-overlay w c d job items fresh live a n =
    let s : World = share w d job items in
    let changes : ChangesContext s c (with_overlay s d items) (overlay w c d job items) = changes-change_context s c _ in
    let lives : is_live s c ≡ true = (shares-share w d job items).live c ∙ live in
    let is = changes.changed lives in
    let same = λ (b : Name). value_at-share w d job items fresh b (Slot n) in
    cases_name a c (λ one. grind (arith, value_of-same, changes.groups, same c, same d)) (λ other. inl (search (rules, changes, value_at-same, value_at-share)))
