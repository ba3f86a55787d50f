-- What a call names: slots, items, links, where one context is blank; and a capability without keys.
use Rattle.std.proofs.Common.{◌≡◌, ◌≢◌, ℕ, ◌*◌, ◌<◌, ◌≤◌, refl, sym, ap, ◌∙◌, Bool, true, false, cond, Some, None, List, [], ◌∷◌, ◌++◌, arith}
use Rattle.std.proofs.lemmas.Bool.{false≢true}
use Rattle.std.proofs.lemmas.Bool.Decides.{nat_tests}
use Rattle.std.specs.Prelude.{is_none, is_some, nat_lt, not, unwrap_or}
use Rattle.std.specs.List.{find}
use Rattle.std.specs.Option.{option_map}
use Rattle.guest_call.specs.Asked.{item_bytes, item_refusals, items_of}
use Rattle.guest_call.specs.Guest.{descriptor_for, link_of, slot_refusals}
use Rattle.lwc_base.specs.Capabilities.{covers, empty_cap}
use Rattle.lwc_base.specs.Modes.{IsItem, IsKey, IsSpec, limit, mode, names}
use Rattle.lwc_base.specs.Refusals.{first_refusal}
use Rattle.lwc_base.specs.Summaries.{is_empty}
use Rattle.lwc_base.specs.World.{World}
use Rattle.lwc_base.specs.declared.descriptor.Cap.{Cap}
use Rattle.lwc_base.specs.declared.descriptor.Descriptor.{Descriptor}
use Rattle.lwc_base.specs.declared.descriptor.Descriptor.TheVariants.{Empty}
use Rattle.lwc_base.specs.declared.item.Item.{Item}
use Rattle.lwc_base.specs.declared.item.Mode.{Mode}
use Rattle.lwc_types.specs.declared.key.TheConstants.{SLOTS}
use Rattle.lwc_types.specs.declared.key.Key.{Key}
use Rattle.lwc_types.specs.declared.key.Key.TheVariants.{Page, Slot, Cred}
use Rattle.lwc_types.specs.declared.key.Kind.{Kind}
use Rattle.lwc_types.specs.declared.key.Kind.TheVariants as kind
use Rattle.lwc_types.specs.declared.limits.TheConstants.{MOST_ITEMS, MOST_PAGES}
use Rattle.lwc_types.specs.declared.name.Name.{Name}
use Rattle.lwc_types.specs.declared.refusal.Refusal.{Refusal}
use Rattle.lwc_types.specs.declared.refusal.Refusal.TheVariants.{BadAddress, BadFd, BadMode, BadRange, Overlap, TooManyItems, WrongKind}
use Rattle.res_spec.specs.Items.{all_taken, all_within, has_overlap, items_in}
use Rattle.res_spec.specs.declared.items.SpecCall.{SpecCall}
use Rattle.res_spec.specs.declared.items.TheConstants.{ITEM_BYTES}
use Rattle.access_cap.proofs.Keys.{within_most}
use Rattle.lwc_base.proofs.Caps.{covers-all}
use Rattle.world_views.specs.Outside.{LacksKeys}
use Rattle.world_views.proofs.BlankChanges.{asks-alike, blanks-alike}
use Rattle.world_views.specs.Blank.{blank}

-- the first row that holds, where the rows after some others lead to the same
pub first-append : (front rows others : List (Bool × Refusal)) → (first_refusal front ≡ None → first_refusal rows ≡ first_refusal others) →
    first_refusal (front ++ rows) ≡ first_refusal (front ++ others)
first-append [] rows others same = same refl
first-append (row ∷ front) rows others same = by row.0 (first-append front rows others) same
  where
    by : (b : Bool) → ((first_refusal front ≡ None → first_refusal rows ≡ first_refusal others) → first_refusal (front ++ rows) ≡ first_refusal (front ++ others)) →
        (cond b (Some row.1) (first_refusal front) ≡ None → first_refusal rows ≡ first_refusal others) →
        cond b (Some row.1) (first_refusal (front ++ rows)) ≡ cond b (Some row.1) (first_refusal (front ++ others))
    by true later is = refl
    by false later is = later is

-- where no row holds, none of the first ones does, and none of the others
pub none-append : (front rows : List (Bool × Refusal)) → first_refusal (front ++ rows) ≡ None → (first_refusal front ≡ None) × (first_refusal rows ≡ None)
none-append [] rows none = (refl, none)
none-append (row ∷ front) rows none = by row.0 (none-append front rows) none
  where
    by : (b : Bool) → (first_refusal (front ++ rows) ≡ None → (first_refusal front ≡ None) × (first_refusal rows ≡ None)) → cond b (Some row.1) (first_refusal (front ++ rows)) ≡ None →
        (cond b (Some row.1) (first_refusal front) ≡ None) × (first_refusal rows ≡ None)
    by true later is = cc
    by false later is = later is

-- the context that a descriptor names, with its capability, and else another one without a key
abbrev pub link_or : Name → Descriptor → Name × Cap
link_or c d = unwrap_or (link_of d) (c, empty_cap)

-- the first key of an item
key_of : Kind → ℕ → Key
key_of kind.Page n = Page n
key_of kind.Slot n = Slot n
key_of kind.Cred n = Cred

key-within : (pages : ℕ) (kind : Kind) (from to : ℕ) → from < to → to ≤ limit pages kind → IsKey pages (key_of kind from)
unfolding key_of
key-within pages kind.Page from to some within = omega (arith, some, within)
key-within pages kind.Slot from to some within = omega (arith, some, within)
key-within pages kind.Cred from to some within = omega arith

key-named : (pages : ℕ) (kind : Kind) (mode : Mode) (from to : ℕ) → from < to → to ≤ limit pages kind →
    names (record { kind = kind; mode = mode; from = from; to = to }) (key_of kind from) ≡ true
unfolding key_of
key-named pages kind.Page mode from to some within = grind (arith, nat_tests)
key-named pages kind.Slot mode from to some within = grind (arith, nat_tests)
key-named pages kind.Cred mode from to some within = grind (arith, nat_tests)

-- a capability without keys covers no item
pub nothing-covered : (pages : ℕ) (cap : Cap) (items : List Item) → pages ≤ MOST_PAGES → LacksKeys cap → IsSpec pages items → covers pages cap items ≡ true → items ≡ []
unfolding mode
nothing-covered pages cap [] few lacks spec is = refl
nothing-covered pages cap (item ∷ rest) few lacks spec is =
    let first : IsItem pages item = spec.each 0 item (omega arith) in
    let k : Key = key_of item.kind item.from in
    let named : names item k ≡ true = key-named pages item.kind item.mode item.from item.to first.some first.within in
    let key : IsKey pages k = key-within pages item.kind item.from item.to first.some first.within in
    absurd (false≢true (sym (lacks k (within_most pages few k key)) ∙ (covers-all pages cap (item ∷ rest)).0 is k key
    (ap (λ b. is_some (option_map (λ (i : Item). i.mode) (cond b (Some item) (find (λ i. names i k) rest)))) named)))

module _ (keep : Bool) (v : Name) (w : World) (c : Name) where
  pub descriptor-blank : (n : ℕ) → descriptor_for (blank keep v w) c n ≡ descriptor_for w c n
  unfolding descriptor_for
  descriptor-blank n = ap (λ d. cond (nat_lt n SLOTS) d Empty) ((blanks-alike keep v w).slot c n)

  pub slot_refusals-blank : (n : ℕ) → slot_refusals (blank keep v w) c n ≡ slot_refusals w c n
  unfolding slot_refusals
  slot_refusals-blank n = λ i. (is_empty (descriptor-blank n i), BadFd) ∷ (is_none (link_of (descriptor-blank n i)), WrongKind) ∷ []

  module _ (outside : c ≢ v) where
    pub items-blank : (call : SpecCall) (at count : ℕ) → items_of (blank keep v w) c call at count ≡ items_of w c call at count
    unfolding items_of item_bytes
    items-blank call at count = ap (λ o. items_in call (unwrap_or o [])) ((asks-alike keep v w c outside).bytes at (count * ITEM_BYTES))

    pub item_refusals-blank : (call : SpecCall) (at count : ℕ) → item_refusals (blank keep v w) c call at count ≡ item_refusals w c call at count
    unfolding item_refusals items_of item_bytes
    item_refusals-blank call at count =
        let bytes = (asks-alike keep v w c outside).bytes at (count * ITEM_BYTES) in
        λ i.
        (nat_lt MOST_ITEMS count, TooManyItems)
        ∷ (is_none (bytes i), BadAddress)
        ∷ (not (all_taken call (unwrap_or (bytes i) [])), BadMode)
        ∷ (not (all_within w.size.pages (items_in call (unwrap_or (bytes i) []))), BadRange)
        ∷ (has_overlap (items_in call (unwrap_or (bytes i) [])), Overlap)
        ∷ []
