-- When a group is needed: where a value moves under a key that there is.
use Rattle.std.proofs.Common.{◌≡◌, ℕ, zero, suc, ◌+◌, ◌<◌, ◌≤◌, refl, true, false, Bool, List, arith, rules}
use Rattle.std.specs.List.{list_any, range_with_len}
use Rattle.std.proofs.lemmas.Bool.{or_from, or_left, or_right}
use Rattle.lwc_base.specs.declared.cell.Cell.TheVariants.{Own}
use Rattle.lwc_base.specs.declared.item.Item.{Item}
use Rattle.lwc_base.specs.declared.item.Mode.TheVariants.{Share}
use Rattle.lwc_base.specs.Keys.{ValueOf, is_there}
use Rattle.lwc_base.specs.Modes.{IsKey, mode_or_copy}
use Rattle.lwc_base.specs.Sharing.{any_key, has_own, is_moved, needs_group}
use Rattle.lwc_base.specs.World.{World, context}
use Rattle.lwc_types.specs.declared.key.TheConstants.{SLOTS}
use Rattle.lwc_types.specs.declared.key.Key.{Key}
use Rattle.lwc_types.specs.declared.key.Key.TheVariants.{Page, Slot, Cred}
use Rattle.lwc_types.specs.declared.name.Name.{Name}

-- one number of a range passes
pub some_in_range : (test : ℕ → Bool) (n a k : ℕ) → a ≤ k → k < a + n → test k ≡ true → list_any test (range_with_len a n) ≡ true
some_in_range test zero a k low high passes = absurd (omega arith)
some_in_range test (suc n) a k low high passes = let rest = some_in_range test n (a + 1) k in grind arith

-- none does
none_in_range : (test : ℕ → Bool) (n a : ℕ) → ((k : ℕ) → k < a + n → test k ≡ false) → list_any test (range_with_len a n) ≡ false
none_in_range test zero a fails = refl
none_in_range test (suc n) a fails = let here = fails a (omega arith) in let rest = none_in_range test n (a + 1) (λ k high. fails k (omega arith)) in grind arith

-- a key that there is passes
pub any_key-some : (pages : ℕ) (test : Key → Bool) (k : Key) → IsKey pages k → test k ≡ true → any_key pages test ≡ true
unfolding any_key
any_key-some pages test (Page p) within passes = or_left _ _ (or_left _ _ (some_in_range (λ q. test (Page q)) pages 0 p (omega arith) (omega arith) passes))
any_key-some pages test (Slot n) within passes = or_left _ _ (or_right _ _ (some_in_range (λ m. test (Slot m)) SLOTS 0 n (omega arith) (omega arith) passes))
any_key-some pages test Cred within passes = or_right _ _ passes

-- none does
pub any_key-none : (pages : ℕ) (test : Key → Bool) → ((k : Key) → IsKey pages k → test k ≡ false) → any_key pages test ≡ false
unfolding any_key
any_key-none pages test fails = search (rules, or_from, none_in_range)

module _ (w : World) (c : Name) (items : List Item) where
  abbrev moves : Key → Bool
  moves k = is_moved (mode_or_copy items k) k ((context w c).cell k)

  -- a group is needed where a value moves, which is the context's own under share
  pub needed-key : (k : Key) → IsKey w.size.pages k → moves k ≡ true → needs_group w c items ≡ true
  unfolding needs_group
  needed-key k within is = any_key-some w.size.pages moves k within is

  pub needed-own : (k : Key) (value : ValueOf k) → IsKey w.size.pages k → mode_or_copy items k ≡ Share → (context w c).cell k ≡ Own value → is_there k value ≡ true →
      needs_group w c items ≡ true
  needed-own k value within mode is there = needed-key k within (grind arith)

  -- and none is where none moves
  pub not_needed : ((k : Key) → IsKey w.size.pages k → mode_or_copy items k ≡ Share → has_own k ((context w c).cell k) ≡ false) → needs_group w c items ≡ false
  unfolding needs_group
  not_needed none = any_key-none w.size.pages moves (λ k within. let fails = none k within in grind arith)
