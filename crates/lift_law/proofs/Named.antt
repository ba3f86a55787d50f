-- What a call names: slots, items and links, in a world with more pages.
use Rattle.std.proofs.Common.{◌≡◌, ◌≢◌, ◌∙◌, ◌⊎◌, inl, inr, ◌*◌, ◌≤◌, ◌<◌, refl, sym, ap, ℕ, Bool, true, false, cond, not, ◌&&◌, Option, Some, None, List, [], ◌∷◌, ◌++◌, arith}
use Rattle.std.proofs.lemmas.Bool.Decides.{nat_tests}
use Rattle.std.specs.Prelude.{is_none, nat_le, nat_lt, unwrap_or}
use Rattle.std.specs.List.{list_all}
use Rattle.std.specs.Option.{option_map}
use Rattle.access_cap.specs.Kinds.{has_kinds, is_chosen}
use Rattle.guest_call.specs.Asked.{asked, item_bytes, item_refusals, items_of}
use Rattle.guest_call.specs.Guest.{descriptor_for, link_of, slot_refusals}
use Rattle.lwc_base.specs.Capabilities.{covers, empty_cap, full_cap, has_key, is_named}
use Rattle.lwc_base.specs.Modes.{IsKey, kind_of, limit, mode, number_of}
use Rattle.lwc_base.specs.Refusals.{first_refusal}
use Rattle.lwc_base.specs.Sharing.{any_key}
use Rattle.lwc_base.specs.Summaries.{is_empty}
use Rattle.lwc_base.specs.World.{World}
use Rattle.lwc_base.specs.declared.descriptor.Cap.{Cap}
use Rattle.lwc_base.specs.declared.descriptor.Descriptor.{Descriptor}
use Rattle.lwc_base.specs.declared.descriptor.Descriptor.TheVariants.{Empty, Console, File, Request, Reply, Ctx}
use Rattle.lwc_base.specs.declared.item.Item.{Item}
use Rattle.lwc_types.specs.declared.key.TheConstants.{SLOTS}
use Rattle.lwc_types.specs.declared.key.Key.{Key}
use Rattle.lwc_types.specs.declared.key.Key.TheVariants.{Page, Slot, Cred}
use Rattle.lwc_types.specs.declared.key.Kind.{Kind}
use Rattle.lwc_types.specs.declared.key.Kind.TheVariants as kinds
use Rattle.lwc_types.specs.declared.limits.TheConstants.{MOST_ITEMS, MOST_PAGES}
use Rattle.lwc_types.specs.declared.name.Name.{Name}
use Rattle.lwc_types.specs.declared.refusal.Refusal.{Refusal}
use Rattle.lwc_types.specs.declared.refusal.Refusal.TheVariants.{BadAddress, BadFd, BadMode, BadRange, Overlap, TooManyItems, WrongKind}
use Rattle.res_spec.specs.Items.{all_taken, all_within, has_overlap, items_in}
use Rattle.res_spec.specs.declared.items.SpecCall.{SpecCall}
use Rattle.res_spec.specs.declared.items.TheConstants.{ITEM_BYTES}
use Rattle.access_cap.proofs.Keys.{full_has, zeros_have_none}
use Rattle.lwc_base.proofs.Needs.{any_key-none, any_key-some}
use Rattle.lwc_base.proofs.Reaped.{some_key}
use Rattle.lwc_types.proofs.Small.{same_bool}
use Rattle.lift_law.proofs.Ends.{bytes-wide}
use Rattle.lift_law.proofs.Pages.{HasNoMore, any_key-most}
use Rattle.lift_law.proofs.Rows.{first-past}
use Rattle.lift_law.proofs.Whole.{empty-wide_cap, full-wide}
use Rattle.lift_law.proofs.Wide.{empty-wide, slot-wide, wide, wide_cap, wide_descriptor}

-- the context that a descriptor is of, with the wider capability
abbrev pub wide_link : Name × Cap → Name × Cap
wide_link l = (l.0, wide_cap l.1)

link_of-wide : (d : Descriptor) → link_of (wide_descriptor d) ≡ option_map wide_link (link_of d)
link_of-wide Empty = refl
link_of-wide Console = refl
link_of-wide (File file at) = refl
link_of-wide (Request r at) = refl
link_of-wide (Reply r) = refl
link_of-wide (Ctx name cap) = refl

no_link-wide : (o : Option (Name × Cap)) → is_none (option_map wide_link o) ≡ is_none o
no_link-wide None = refl
no_link-wide (Some l) = refl

module _ (w : World) (c : Name) where
  chosen_descriptor : (b : Bool) (d : Descriptor) → cond b (wide_descriptor d) Empty ≡ wide_descriptor (cond b d Empty)
  chosen_descriptor true d = refl
  chosen_descriptor false d = refl

  pub descriptor-wide : (n : ℕ) → descriptor_for (wide w) c n ≡ wide_descriptor (descriptor_for w c n)
  unfolding descriptor_for
  descriptor-wide n = ap (λ d. cond (nat_lt n SLOTS) d Empty) (slot-wide w c n) ∙ chosen_descriptor (nat_lt n SLOTS) _

  pub empty_slot-wide : (n : ℕ) → is_empty (descriptor_for (wide w) c n) ≡ is_empty (descriptor_for w c n)
  empty_slot-wide n = ap is_empty (descriptor-wide n) ∙ empty-wide (descriptor_for w c n)

  pub links-wide : (n : ℕ) → link_of (descriptor_for (wide w) c n) ≡ option_map wide_link (link_of (descriptor_for w c n))
  links-wide n = ap link_of (descriptor-wide n) ∙ link_of-wide (descriptor_for w c n)

  pub slot_refusals-wide : (n : ℕ) → slot_refusals (wide w) c n ≡ slot_refusals w c n
  unfolding slot_refusals
  slot_refusals-wide n = λ i.
      (empty_slot-wide n i, BadFd) ∷ ((ap is_none (links-wide n) ∙ no_link-wide (link_of (descriptor_for w c n))) i, WrongKind) ∷ []

  link_or : (o : Option (Name × Cap)) → unwrap_or (option_map wide_link o) (c, empty_cap) ≡ wide_link (unwrap_or o (c, empty_cap))
  link_or None = ap (λ cap. (c, cap)) (sym empty-wide_cap)
  link_or (Some l) = refl

  pub link-wide : (n : ℕ) → unwrap_or (link_of (descriptor_for (wide w) c n)) (c, empty_cap) ≡ wide_link (unwrap_or (link_of (descriptor_for w c n)) (c, empty_cap))
  link-wide n = ap (λ o. unwrap_or o (c, empty_cap)) (links-wide n) ∙ link_or (link_of (descriptor_for w c n))

is_so : (b : Bool) → not b ≡ false → b ≡ true
is_so true is = refl
is_so false is = cc

-- items whose pages are within those of a world are within more
within_more : (pages : ℕ) → pages ≤ MOST_PAGES → (kind : Kind) (to : ℕ) → nat_le to (limit pages kind) ≡ true → nat_le to (limit MOST_PAGES kind) ≡ true
within_more pages few kinds.Page to is = grind (arith, nat_tests)
within_more pages few kinds.Slot to is = is
within_more pages few kinds.Cred to is = is

pub all_within-more : (pages : ℕ) → pages ≤ MOST_PAGES → (items : List Item) → all_within pages items ≡ true → all_within MOST_PAGES items ≡ true
unfolding all_within
all_within-more pages few [] is = refl
all_within-more pages few (item ∷ items) is = by (nat_lt item.from item.to) (nat_le item.to (limit pages item.kind)) refl (all_within-more pages few items) is
  where
    by : (a b : Bool) → nat_le item.to (limit pages item.kind) ≡ b →
        (list_all (λ (i : Item). nat_lt i.from i.to && nat_le i.to (limit pages i.kind)) items ≡ true → list_all (λ (i : Item). nat_lt i.from i.to && nat_le i.to (limit MOST_PAGES i.kind)) items ≡ true) →
        ((a && b) && list_all (λ (i : Item). nat_lt i.from i.to && nat_le i.to (limit pages i.kind)) items) ≡ true →
        ((a && nat_le item.to (limit MOST_PAGES item.kind)) && list_all (λ (i : Item). nat_lt i.from i.to && nat_le i.to (limit MOST_PAGES i.kind)) items) ≡ true
    by true true inside later is = let here = within_more pages few item.kind item.to inside in let rest = later is in grind arith
    by true false past later is = cc
    by false b at later is = cc

-- items within the pages of a world name no page past the last one
unnamed_past : (pages : ℕ) (items : List Item) → all_within pages items ≡ true → (p : ℕ) → pages ≤ p → is_named items (Page p) ≡ false
unfolding all_within mode
unnamed_past pages [] is p past = refl
unnamed_past pages (item ∷ items) is p past = by item.kind refl (unnamed_past pages items)
  where
    by : (kind : Kind) → item.kind ≡ kind → (all_within pages items ≡ true → (q : ℕ) → pages ≤ q → is_named items (Page q) ≡ false) → is_named (item ∷ items) (Page p) ≡ false
    by kind at later = grind (arith, nat_tests)

module _ (w : World) (ends : HasNoMore w) (c : Name) (call : SpecCall) (at count : ℕ) where
  pub items-wide : items_of (wide w) c call at count ≡ items_of w c call at count
  unfolding items_of item_bytes
  items-wide = ap (λ o. items_in call (unwrap_or o [])) (bytes-wide w ends c at (count * ITEM_BYTES))

  -- the table of items, and rows after it that are the same once the items are within the pages
  pub first_items-wide : (rows others : List (Bool × Refusal)) → (all_within w.size.pages (items_of w c call at count) ≡ true → first_refusal others ≡ first_refusal rows) →
      first_refusal (item_refusals w c call at count ++ rows) ≢ Some BadRange →
      first_refusal (item_refusals (wide w) c call at count ++ others) ≡ first_refusal (item_refusals w c call at count ++ rows)
  unfolding item_refusals items_of item_bytes
  first_items-wide rows others same free =
      let bytes = bytes-wide w ends c at (count * ITEM_BYTES) in
      let list : List Item = items_in call (asked w c at count) in
      let front : List (Bool × Refusal) = (nat_lt MOST_ITEMS count, TooManyItems) ∷ (is_none (item_bytes w c at count), BadAddress) ∷ (not (all_taken call (asked w c at count)), BadMode) ∷ [] in
      (λ i. first_refusal ((nat_lt MOST_ITEMS count, TooManyItems)
      ∷ (is_none (bytes i), BadAddress)
      ∷ (not (all_taken call (unwrap_or (bytes i) [])), BadMode)
      ∷ (not (all_within MOST_PAGES (items_in call (unwrap_or (bytes i) []))), BadRange)
      ∷ (has_overlap (items_in call (unwrap_or (bytes i) [])), Overlap) ∷ others))
      ∙ first-past front (not (all_within w.size.pages list)) (not (all_within MOST_PAGES list)) ((has_overlap list, Overlap) ∷ rows) ((has_overlap list, Overlap) ∷ others)
      (λ inside. ap not (all_within-more w.size.pages ends.few list (is_so _ inside)))
      (λ inside. ap (cond (has_overlap list) (Some Overlap)) (same (is_so _ inside)))
      free

-- tests that agree on the keys that there are
any_key-alike : (pages : ℕ) (f g : Key → Bool) → ((k : Key) → IsKey pages k → f k ≡ g k) → any_key pages f ≡ any_key pages g
any_key-alike pages f g same =
    same_bool (any_key pages f) (any_key pages g)
    (λ e. let found = some_key pages f e in any_key-some pages g found.0 found.1 (sym (same found.0 found.1) ∙ found.2))
    (λ e. let found = some_key pages g e in any_key-some pages f found.0 found.1 (same found.0 found.1 ∙ found.2))

-- a capability that is full or empty: it has the same keys of the pages that there are, and covers the same items
module _ (pages : ℕ) (few : pages ≤ MOST_PAGES) where
  empty_has : (k : Key) → has_key empty_cap k ≡ false
  unfolding empty_cap
  empty_has k = zeros_have_none empty_cap refl refl refl k

  same_keys : (cap : Cap) → (cap ≡ full_cap pages) ⊎ (cap ≡ empty_cap) → (k : Key) → IsKey pages k → has_key (wide_cap cap) k ≡ has_key cap k
  same_keys cap (inl full) k within =
      let here = full_has pages cap full k (within_most k within) in
      let there = full_has MOST_PAGES (wide_cap cap) (ap wide_cap full ∙ full-wide pages) k (within_most k within) in
      let inside : nat_lt (number_of k) (limit pages (kind_of k)) ≡ true = grind (arith, nat_tests) in
      let more : nat_lt (number_of k) (limit MOST_PAGES (kind_of k)) ≡ true = let most : number_of k < limit MOST_PAGES (kind_of k) = within_most k within in grind (arith, nat_tests) in
      there ∙ more ∙ sym (here ∙ inside)
    where
      within_most : (q : Key) → IsKey pages q → IsKey MOST_PAGES q
      within_most (Page p) is = omega (arith, is, few)
      within_most (Slot n) is = is
      within_most Cred is = is
  same_keys cap (inr empty) k within = ap (λ c. has_key c k) (ap wide_cap empty ∙ empty-wide_cap ∙ sym empty)

  -- a test of keys whose pages past the last one fail
  any_key-same : (test wider : Key → Bool) → ((k : Key) → IsKey pages k → wider k ≡ test k) → ((p : ℕ) → pages ≤ p → wider (Page p) ≡ false) → any_key MOST_PAGES wider ≡ any_key pages test
  any_key-same test wider same none = any_key-most wider pages MOST_PAGES few none ∙ any_key-alike pages wider test same

  pub covers-wide : (cap : Cap) → (cap ≡ full_cap pages) ⊎ (cap ≡ empty_cap) → (items : List Item) → all_within pages items ≡ true → covers MOST_PAGES (wide_cap cap) items ≡ covers pages cap items
  unfolding covers
  covers-wide cap is items inside =
      ap not (any_key-same (λ k. is_named items k && not (has_key cap k)) (λ k. is_named items k && not (has_key (wide_cap cap) k))
      (λ k within. ap (λ b. is_named items k && not b) (same_keys cap is k within))
      (λ p past. ap (λ b. b && not (has_key (wide_cap cap) (Page p))) (unnamed_past pages items inside p past)))

  -- and it has all keys of the same kinds
  kinds_full : (most : ℕ) → most ≤ MOST_PAGES → (cap : Cap) → cap ≡ full_cap most → (mask : ℕ) → has_kinds most cap mask ≡ true
  unfolding has_kinds
  kinds_full most few_most cap full mask =
      ap not (any_key-none most (λ k. is_chosen mask (kind_of k) && not (has_key cap k)) (λ k within.
      let has = full_has most cap full k (most_key k within) in
      let inside : nat_lt (number_of k) (limit most (kind_of k)) ≡ true = grind (arith, nat_tests) in
      ap (λ b. is_chosen mask (kind_of k) && not b) (has ∙ inside) ∙ never (is_chosen mask (kind_of k))))
    where
      never : (b : Bool) → (b && false) ≡ false
      never true = refl
      never false = refl

      most_key : (q : Key) → IsKey most q → IsKey MOST_PAGES q
      most_key (Page p) is = omega (arith, is, few_most)
      most_key (Slot n) is = is
      most_key Cred is = is

  kinds_empty : 1 ≤ pages → (mask : ℕ) → has_kinds MOST_PAGES empty_cap mask ≡ has_kinds pages empty_cap mask
  unfolding has_kinds
  kinds_empty some mask = ap not (by (is_chosen mask kinds.Page) refl)
    where
      by : (b : Bool) → is_chosen mask kinds.Page ≡ b →
          any_key MOST_PAGES (λ k. is_chosen mask (kind_of k) && not (has_key empty_cap k)) ≡ any_key pages (λ k. is_chosen mask (kind_of k) && not (has_key empty_cap k))
      by true chosen =
          let first : (is_chosen mask kinds.Page && not (has_key empty_cap (Page 0))) ≡ true = let none = empty_has (Page 0) in grind arith in
          any_key-some MOST_PAGES (λ k. is_chosen mask (kind_of k) && not (has_key empty_cap k)) (Page 0) (omega arith) first
          ∙ sym (any_key-some pages (λ k. is_chosen mask (kind_of k) && not (has_key empty_cap k)) (Page 0) (omega (arith, some)) first)
      by false other = any_key-most (λ k. is_chosen mask (kind_of k) && not (has_key empty_cap k)) pages MOST_PAGES few (λ p past. ap (λ b. b && not (has_key empty_cap (Page p))) other)

  pub kinds-wide : 1 ≤ pages → (cap : Cap) → (cap ≡ full_cap pages) ⊎ (cap ≡ empty_cap) → (mask : ℕ) → has_kinds MOST_PAGES (wide_cap cap) mask ≡ has_kinds pages cap mask
  kinds-wide some cap (inl full) mask = kinds_full MOST_PAGES (omega arith) (wide_cap cap) (ap wide_cap full ∙ full-wide pages) mask ∙ sym (kinds_full pages few cap full mask)
  kinds-wide some cap (inr empty) mask =
      ap (λ c. has_kinds MOST_PAGES c mask) (ap wide_cap empty ∙ empty-wide_cap) ∙ kinds_empty some mask ∙ ap (λ c. has_kinds pages c mask) (sym empty)
