-- What lent keys cover where they are all keys or none.
use Rattle.std.proofs.Common.{◌≡◌, ◌∙◌, ◌&&◌, ◌||◌, ◌+◌, zero, suc, ap, arith, sym, subst, refl, true, false, not, Bool, List, ℕ, ◌<◌, ◌≤◌}
use Rattle.std.specs.Prelude.{All, nat_lt}
use Rattle.std.specs.List.{list_any, range_with_len}
use Rattle.std.proofs.lemmas.Bool.{both_ways, lt-ltb, ltb-true, not_from_false, false_from_ne_true}
use Rattle.std.proofs.lemmas.Bool.Decides.{nat_tests}
use Rattle.std.proofs.lemmas.List.Folds.{Any-from_list_any, list_any_at}
use Rattle.access_cap.specs.Kinds.{has_kinds, is_chosen}
use Rattle.access_cap.proofs.Bits.{is_named-any}
use Rattle.access_cap.proofs.Keys.{full_has, within_most, zeros_have_none}
use Rattle.lwc_base.specs.Capabilities.{covers, empty_cap, full_cap, has_bit, has_key, is_named}
use Rattle.lwc_base.specs.declared.descriptor.Cap.{Cap}
use Rattle.lwc_base.specs.declared.item.Item.{Item}
use Rattle.lwc_base.specs.Modes.{IsItem, IsKey, kind_of, limit, names}
use Rattle.lwc_base.specs.Sharing.{any_key}
use Rattle.lwc_base.proofs.Needs.{any_key-none, any_key-some}
use Rattle.lwc_types.specs.declared.key.TheConstants.{SLOTS}
use Rattle.lwc_types.specs.declared.key.Key.{Key}
use Rattle.lwc_types.specs.declared.key.Key.TheVariants.{Page, Slot, Cred}
use Rattle.lwc_types.specs.declared.key.Kind.{Kind}
use Rattle.lwc_types.specs.declared.key.Kind.TheVariants as kind
use Rattle.lwc_types.specs.declared.limits.TheConstants.{MOST_PAGES}

-- whether a key passes a test and is missing
abbrev is_missing : Cap → (Key → Bool) → Key → Bool
is_missing cap test k = test k && not (has_key cap k)

empty_has : (k : Key) → has_key empty_cap k ≡ false
unfolding empty_cap
empty_has k = zeros_have_none empty_cap refl refl refl k

here : (t h : Bool) → h ≡ true → (t && not h) ≡ false
here t h has = grind arith

lacking : (t h : Bool) → h ≡ false → (t && not h) ≡ t
lacking t h lacks = grind arith

module _ (pages : ℕ) (few : pages ≤ MOST_PAGES) where
  none_of_full : (all : ℕ) (test : Key → Bool) → pages ≤ all → any_key pages (is_missing (full_cap all) test) ≡ false
  none_of_full all test most = any_key-none pages _ (λ k within.
      here (test k) _ (full_has all (full_cap all) refl k (within_most pages few k within) ∙ lt-ltb _ _ (wider k within)))
    where
      wider : (k : Key) → IsKey pages k → IsKey all k
      wider (Page p) within = omega arith
      wider (Slot n) within = within
      wider Cred within = within

  pub full_covers : (all : ℕ) (items : List Item) → pages ≤ all → covers pages (full_cap all) items ≡ true
  unfolding covers
  full_covers all items most = not_from_false _ (none_of_full all (is_named items) most)

  pub full_has_kinds : (all mask : ℕ) → pages ≤ all → has_kinds pages (full_cap all) mask ≡ true
  unfolding has_kinds
  full_has_kinds all mask most = not_from_false _ (none_of_full all (λ k. is_chosen mask (kind_of k)) most)

-- all keys that pass a test are missing where there is no key
all_missing : (pages : ℕ) (test : Key → Bool) → any_key pages (is_missing empty_cap test) ≡ any_key pages test
all_missing pages test = ap (any_key pages) (λ i k. lacking (test k) (has_key empty_cap k) (empty_has k) i)

pub empty_covers : (pages : ℕ) (items : List Item) → not (any_key pages (is_named items)) ≡ covers pages empty_cap items
unfolding covers
empty_covers pages items = ap not (sym (all_missing pages (is_named items)))

pub empty_has_kinds : (pages mask : ℕ) → not (any_key pages (λ k. is_chosen mask (kind_of k))) ≡ has_kinds pages empty_cap mask
unfolding has_kinds
empty_has_kinds pages mask = ap not (sym (all_missing pages (λ k. is_chosen mask (kind_of k))))

-- a test that does not look at the number holds of one exactly if there is one
any_alike : (n a : ℕ) (t : Bool) → list_any (λ p. t) (range_with_len a n) ≡ (nat_lt 0 n && t)
any_alike zero a t = refl
any_alike (suc n) a t = let rest = any_alike n (a + 1) t in grind arith

pub chosen_any : (pages mask : ℕ) →
    any_key pages (λ k. is_chosen mask (kind_of k)) ≡ ((nat_lt 0 pages && has_bit mask 0) || has_bit mask 1 || has_bit mask 2)
unfolding any_key
chosen_any pages mask = rw (any_alike pages 0 (has_bit mask 0), any_alike SLOTS 0 (has_bit mask 1)) refl

-- the key of a kind and a number
key_at : Kind → ℕ → Key
key_at kind.Page n = Page n
key_at kind.Slot n = Slot n
key_at kind.Cred n = Cred

-- the first key of an item is one of those that there are where its number is below the limit, and is named
first_key : (pages : ℕ) (item : Item) (t : Kind) → item.kind ≡ t → IsItem MOST_PAGES item → item.from < limit pages item.kind →
    IsKey pages (key_at t item.from) × (names item (key_at t item.from) ≡ true)
unfolding key_at
first_key pages item kind.Page is valid below = (rw is at below, grind (arith, nat_tests, valid.some))
first_key pages item kind.Slot is valid below = (rw is at below, grind (arith, nat_tests, valid.some))
first_key pages item kind.Cred is valid below = (omega arith, grind (arith, nat_tests, valid.some, valid.within))

-- an item that names a key of a context begins below the limit
begins : (pages : ℕ) (item : Item) (k : Key) → IsKey pages k → names item k ≡ true → nat_lt item.from (limit pages item.kind) ≡ true
begins pages item (Page p) within named = grind (arith, nat_tests)
begins pages item (Slot n) within named = grind (arith, nat_tests)
begins pages item Cred within named = grind (arith, nat_tests)

module _ (pages : ℕ) (items : List Item) (valid : All (IsItem MOST_PAGES) items) where
  abbrev begin : Item → Bool
  begin item = nat_lt item.from (limit pages item.kind)

  named_if : list_any begin items ≡ true → any_key pages (is_named items) ≡ true
  named_if some =
      let found = Any-from_list_any begin items some in
      let first = first_key pages found.1 found.1.kind refl (subst (IsItem MOST_PAGES) found.3 (valid found.0 found.1 found.2)) (ltb-true _ _ found.4) in
      any_key-some pages (is_named items) (key_at found.1.kind found.1.from) first.0
      (is_named-any items _ ∙ list_any_at _ items found.0 found.1 found.2 (ap (λ x. names x (key_at found.1.kind found.1.from)) found.3 ∙ first.1))

  none_if : list_any begin items ≡ false → any_key pages (is_named items) ≡ false
  none_if none = any_key-none pages (is_named items) (λ k within. false_from_ne_true _ (λ named.
      let found = Any-from_list_any (λ item. names item k) items (sym (is_named-any items k) ∙ named) in
      both_ways _ none (list_any_at begin items found.0 found.1 found.2 (ap begin found.3 ∙ begins pages found.1 k within found.4))))

  pub named_any : list_any begin items ≡ any_key pages (is_named items)
  named_any = same (list_any begin items) refl
    where
      same : (t : Bool) → list_any begin items ≡ t → list_any begin items ≡ any_key pages (is_named items)
      same true is = is ∙ sym (named_if is)
      same false is = is ∙ sym (none_if is)
