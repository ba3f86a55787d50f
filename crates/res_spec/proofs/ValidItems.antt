-- Items that passed the tests of a specifier.
use Rattle.std.proofs.Common.{refl, Option, Ok, ◌*◌, ◌/◌, subst, ◌≡◌, ◌<◌, ◌≤◌, ◌&&◌, ℕ, zero, suc, Bool, true, false, List, [], ◌∷◌, arith, get_or, length, length-take, ltb, leb, take}
use Rattle.std.proofs.lemmas.List.{get_or-take}
use Rattle.std.proofs.lemmas.Bool.{and_from, le-leb, lt-ltb, or_parts}
use Rattle.std.proofs.lemmas.List.Elements.{All-head, All-tail}
use Rattle.std.proofs.lemmas.Bool.Decides.{nat_tests}
use Rattle.std.proofs.lemmas.List.{get_or_default}
use Rattle.std.proofs.lemmas.List.Kept.{AllPairs-cons}
use Rattle.std.proofs.lemmas.List.Sums.{AllPass-from_list_all, list_all-from_AllPass}
use Rattle.std.proofs.lemmas.List.FromFn.{length-map-range_with_len}
use Rattle.std.specs.List.{All, AllPairs, filter_map, list_any}
use Rattle.lwc_base.specs.Modes.{AreApart, IsItem, IsSpec, limit, overlaps}
use Rattle.lwc_base.specs.declared.item.Item.{Item}
use Rattle.lwc_types.specs.declared.key.Kind.{Kind}
use Rattle.lwc_types.specs.declared.limits.TheConstants.{MOST_ITEMS}
use Rattle.lwc_types.specs.declared.key.Kind.TheVariants.{Page, Slot, Cred}
use Rattle.res_spec.specs.declared.items.SpecCall.{SpecCall}
use Rattle.res_spec.specs.declared.items.TheConstants.{ITEM_BYTES}
use Rattle.res_spec.specs.Items.{all_within, faults, has_overlap, item_of, items_in, read, spelled, spelled_at}

-- an item that passes the test of its range is one
within_item : (pages : ℕ) (item : Item) → (ltb item.from item.to && leb item.to (limit pages item.kind)) ≡ true → IsItem pages item
within_item pages item e = record { some = grind (arith, nat_tests); within = grind (arith, nat_tests) }

-- items that pass the test of their ranges are items
pub each_item : (pages : ℕ) (items : List Item) → all_within pages items ≡ true → All (IsItem pages) items
unfolding all_within
each_item pages items e k d inside = within_item pages (get_or items k d) (AllPass-from_list_all _ items e k d inside)

-- no element passes, where the test of any of them answers no
none_passes : {X : Type 0} (p : X → Bool) (xs : List X) → list_any p xs ≡ false → All (λ x. p x ≡ false) xs
none_passes p [] e k d inside = absurd (omega arith)
none_passes p (x ∷ xs) e zero d inside = (or_parts (p x) (list_any p xs) e).0
none_passes p (x ∷ xs) e (suc k) d inside = none_passes p xs (or_parts (p x) (list_any p xs) e).1 k d (omega arith)

-- items that pass the test of overlaps are apart
pub each_apart : (items : List Item) → has_overlap items ≡ false → AllPairs AreApart items
each_apart [] e = λ i j d before inside. absurd (omega arith)
each_apart (item ∷ items) e =
    let parts = or_parts (list_any (overlaps item) items) (has_overlap items) e in
    AllPairs-cons AreApart item items (none_passes (overlaps item) items parts.0) (each_apart items parts.1)

-- items pass the test of their ranges
pub each_within : (pages : ℕ) (items : List Item) → All (IsItem pages) items → all_within pages items ≡ true
unfolding all_within
each_within pages items each =
    list_all-from_AllPass (λ (item : Item). ltb item.from item.to && leb item.to (limit pages item.kind)) items (λ k d inside.
    and_from _ _ (lt-ltb _ _ (each k d inside).some) (le-leb _ _ (each k d inside).within))

-- no test of any passes, where each fails
none_passes_any : {X : Type 0} (p : X → Bool) (xs : List X) → All (λ x. p x ≡ false) xs → list_any p xs ≡ false
none_passes_any p [] none = refl
none_passes_any p (x ∷ xs) none = rw (All-head (λ x. p x ≡ false) x xs none, none_passes_any p xs (All-tail (λ x. p x ≡ false) x xs none)) refl

-- items that are apart pass the test of overlaps
pub each_overlap : (items : List Item) → AllPairs AreApart items → has_overlap items ≡ false
each_overlap [] apart = refl
each_overlap (item ∷ items) apart =
    let first : All (λ other. overlaps item other ≡ false) items = λ k d inside. apart 0 (suc k) d (omega arith) (omega arith) in
    let others : AllPairs AreApart items = λ i j d before inside. apart (suc i) (suc j) d (omega arith) (omega arith) in
    rw (none_passes_any (overlaps item) items first, each_overlap items others) refl

-- items that pass both tests make a specifier
pub passed_items : (pages : ℕ) (items : List Item) → length items ≤ MOST_ITEMS → all_within pages items ≡ true → has_overlap items ≡ false → IsSpec pages items
passed_items pages items few within apart = record { few = few; each = each_item pages items within; apart = each_apart items apart }

-- a limit with more pages is no lower
limit_grows : (pages most : ℕ) (kind : Kind) → pages ≤ most → limit pages kind ≤ limit most kind
limit_grows pages most Page more = more
limit_grows pages most Slot more = omega arith
limit_grows pages most Cred more = omega arith

-- a specifier is one where there are more pages
pub more_pages : (pages most : ℕ) (items : List Item) → pages ≤ most → IsSpec pages items → IsSpec most items
more_pages pages most items more valid = record {
  few = valid.few;
  each = λ k d inside. record {
    some = (valid.each k d inside).some;
    within = omega (arith, limit_grows pages most (get_or items k d).kind more, (valid.each k d inside).within);
  };
  apart = valid.apart;
}

-- an item is apart from each one before it
pub apart_before : (items : List Item) (i : ℕ) (first : Item) → AllPairs AreApart items → i < length items →
    All (λ other. AreApart other (get_or items i first)) (take i items)
apart_before items i first apart inside k d before =
    let earlier : k < i = omega (arith, length-take i items) in
    let h : overlaps (get_or items k d) (get_or items i d) ≡ false = apart k i d earlier inside in
    rw (get_or-take i items k d earlier, get_or_default items i first d inside) h

-- what is made of some elements is no longer than all of them
filter_map_few : {X Y : Type 0} (h : X → Option Y) (xs : List X) → length (filter_map h xs) ≤ length xs
filter_map_few h [] = omega arith
filter_map_few h (x ∷ xs) = grind (arith, filter_map_few h xs)

-- bytes spell as many items as they have room for
few_items : (call : SpecCall) (bytes : List ℕ) → length bytes ≤ MOST_ITEMS * ITEM_BYTES → length (items_in call bytes) ≤ MOST_ITEMS
unfolding items_in spelled
few_items call bytes short =
    let count : length (spelled bytes) ≡ length bytes / ITEM_BYTES = length-map-range_with_len (λ i. spelled_at bytes (i * ITEM_BYTES)) 0 (length bytes / ITEM_BYTES) in
    omega (arith, filter_map_few (item_of call) (spelled bytes), count)

-- the items that are read are a specifier
pub read_spec : (call : SpecCall) (pages : ℕ) (bytes : List ℕ) (items : List Item) → length bytes ≤ MOST_ITEMS * ITEM_BYTES → read call pages bytes ≡ Ok items → IsSpec pages items
unfolding read faults
read_spec call pages bytes items short is =
    let few = few_items call bytes short in
    let within : all_within pages (items_in call bytes) ≡ true = grind arith in
    let apart : has_overlap (items_in call bytes) ≡ false = grind arith in
    let same : items_in call bytes ≡ items = grind arith in
    subst (IsSpec pages) same (passed_items pages (items_in call bytes) few within apart)
