-- Items that no row refuses.
use Rattle.std.proofs.Common.{◌≡◌, refl, ◌*◌, ◌≤◌, ◌++◌, ℕ, Bool, List, [], Some, None, Ok, ap, arith, false, length, true}
use Rattle.std.proofs.lemmas.List.FromFn.{length-map-range_with_len}
use Rattle.guest_call.specs.Asked.{asked, item_bytes, item_refusals, items_of}
use Rattle.lwc_base.specs.Memory.{bytes_for, byte_at, load}
use Rattle.lwc_base.specs.Modes.{IsSpec}
use Rattle.lwc_base.specs.Refusals.{first_refusal}
use Rattle.lwc_base.specs.World.{World}
use Rattle.lwc_types.specs.declared.limits.TheConstants.{MOST_ITEMS}
use Rattle.lwc_types.specs.declared.name.Name.{Name}
use Rattle.lwc_types.specs.declared.refusal.Refusal.{Refusal}
use Rattle.res_spec.proofs.ValidItems.{read_spec}
use Rattle.res_spec.specs.Items as items
use Rattle.res_spec.specs.Items.{all_taken, all_within, faults, has_overlap, items_in, read}
use Rattle.res_spec.specs.declared.items.SpecCall.{SpecCall}
use Rattle.res_spec.specs.declared.items.TheConstants.{ITEM_BYTES}

-- as many bytes are found as were asked for
found_bytes : (w : World) (c : Name) (at count : ℕ) (bytes : List ℕ) → bytes_for w c at count ≡ Some bytes → length bytes ≡ count
unfolding bytes_for load
found_bytes w c at count bytes is = let h = length-map-range_with_len (byte_at w c) at count in grind arith

-- the bytes of items are those of the most items or fewer
few_bytes : (w : World) (c : Name) (call : SpecCall) (at count : ℕ) (rows : List (Bool × Refusal)) → first_refusal (item_refusals w c call at count ++ rows) ≡ None →
    length (asked w c at count) ≤ MOST_ITEMS * ITEM_BYTES
unfolding item_refusals item_bytes
few_bytes w c call at count rows none = grind (arith, found_bytes)

-- the items are read
items_read : (w : World) (c : Name) (call : SpecCall) (at count : ℕ) (rows : List (Bool × Refusal)) → first_refusal (item_refusals w c call at count ++ rows) ≡ None →
    read call w.size.pages (asked w c at count) ≡ Ok (items_of w c call at count)
unfolding item_refusals items_of read faults
items_read w c call at count rows none = grind arith

-- and are a specifier
pub spec_asked : (w : World) (c : Name) (call : SpecCall) (at count : ℕ) (rows : List (Bool × Refusal)) → first_refusal (item_refusals w c call at count ++ rows) ≡ None →
    IsSpec w.size.pages (items_of w c call at count)
spec_asked w c call at count rows none =
    read_spec call w.size.pages (asked w c at count) (items_of w c call at count) (few_bytes w c call at count rows none) (items_read w c call at count rows none)

-- no other row holds
pub rest_clear : (w : World) (c : Name) (call : SpecCall) (at count : ℕ) (rows : List (Bool × Refusal)) → first_refusal (item_refusals w c call at count ++ rows) ≡ None →
    first_refusal rows ≡ None
unfolding item_refusals
rest_clear w c call at count rows none = grind arith

-- of no items no byte is asked for
none_asked : (w : World) (c : Name) (at : ℕ) → asked w c at 0 ≡ []
unfolding item_bytes bytes_for
none_asked w c at = refl

-- so no item is
pub no_items : (w : World) (c : Name) (call : SpecCall) (at : ℕ) → items_of w c call at 0 ≡ []
unfolding items_of items_in items.spelled
no_items w c call at = ap (λ bytes. items_in call bytes) (none_asked w c at)

-- and no row of the table holds
pub no_items_pass : (w : World) (c : Name) (call : SpecCall) (at : ℕ) (rows : List (Bool × Refusal)) →
    first_refusal (item_refusals w c call at 0 ++ rows) ≡ first_refusal rows
unfolding item_refusals item_bytes bytes_for all_taken all_within items.spelled
no_items_pass w c call at rows =
    let taken : all_taken call (asked w c at 0) ≡ true = ap (λ bytes. all_taken call bytes) (none_asked w c at) in
    let within : all_within w.size.pages (items_of w c call at 0) ≡ true = ap (λ items. all_within w.size.pages items) (no_items w c call at) in
    let alone : has_overlap (items_of w c call at 0) ≡ false = ap (λ items. has_overlap items) (no_items w c call at) in
    cc (taken, within, alone)
