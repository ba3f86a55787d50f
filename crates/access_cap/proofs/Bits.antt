-- The bits of words.
use Rattle.std.proofs.Common.{◌≡◌, ◌∙◌, inl, inr, ap, refl, ℕ, ◌+◌, ◌-◌, ◌*◌, ◌^◌, ◌<◌, min, eqb, Bool, true, false, not, ◌&&◌, ◌||◌, List, [], ◌∷◌, length, get_or, take, arith, bit_and, bit_or, w64}
use Rattle.std.specs.Prelude.{nat_lt}
use Rattle.std.specs.List.{list_any}
use Rattle.std.proofs.lemmas.Bool.{cases_lt}
use Rattle.std.proofs.lemmas.Bool.Decides.{nat_tests}
use Rattle.std.proofs.lemmas.List.Folds.{list_any_more}
use Rattle.std.proofs.lemmas.Nat.{and_le_l}
use Rattle.std.proofs.lemmas.Nat.Bits.{bit_at-lt, bit_at-zero, bit_at_and, bit_at_not, bit_at_ones, bit_at_ones_above, bit_at_or, same_from_bits_below}
use Rattle.lwc_base.specs.Capabilities.{has_bit, is_named}
use Rattle.lwc_base.specs.declared.item.Item.{Item}
use Rattle.lwc_base.specs.Modes.{mode, kind_of, names, number_of, same_kind}
use Rattle.lwc_types.specs.declared.key.Key.{Key}
use Rattle.lwc_types.specs.declared.key.Kind.{Kind}
use Rattle.lwc_types.specs.declared.key.Kind.TheVariants.{Page, Slot, Cred}

pub has_bit-or : (a b i : ℕ) → has_bit (bit_or a b) i ≡ (has_bit a i || has_bit b i)
has_bit-or a b i = rw (bit_at_or a b i) (grind (arith, nat_tests, bit_at-lt a i, bit_at-lt b i))

pub has_bit-and : (a b i : ℕ) → has_bit (bit_and a b) i ≡ (has_bit a i && has_bit b i)
has_bit-and a b i = rw (bit_at_and a b i) (grind (arith, nat_tests, bit_at-lt a i, bit_at-lt b i))

pub has_bit-not : (a i : ℕ) → a < 2 ^ 64 → i < 64 → has_bit (18446744073709551615 - a) i ≡ not (has_bit a i)
has_bit-not a i fits within = rw (bit_at_not w64 a i fits within) (grind (arith, nat_tests, bit_at-lt a i))

pub has_bit-without : (a b i : ℕ) → b < 2 ^ 64 → i < 64 → has_bit (bit_and a (18446744073709551615 - b)) i ≡ (has_bit a i && not (has_bit b i))
has_bit-without a b i fits within = has_bit-and a (18446744073709551615 - b) i ∙ ap (λ (t : Bool). has_bit a i && t) (has_bit-not b i fits within)

-- the low word has the bits of the numbers below the end
pub low_word-has : (end i b count word : ℕ) → count ≡ min 64 (end - 64 * i) → word ≡ 2 ^ count - 1 → b < 64 → has_bit word b ≡ nat_lt (64 * i + b) end
low_word-has end i b count word many is within = elim (cases_lt b count) as (λ _. has_bit word b ≡ nat_lt (64 * i + b) end) [
  | inl below ↦ (let one = bit_at_ones count b below in rw is (rw one (grind (arith, nat_tests))))
  | inr above ↦ (let none = bit_at_ones_above count b above in rw is (rw none (grind (arith, nat_tests))))
]

pub has_bit-zero : (n i : ℕ) → n ≡ 0 → has_bit n i ≡ false
has_bit-zero n i none = rw none (ap (λ (x : ℕ). eqb x 1) (bit_at-zero i))

-- a number with no bits is zero
no_bits : (n : ℕ) → n < 2 ^ 64 → ((i : ℕ) → i < 64 → has_bit n i ≡ false) → n ≡ 0
no_bits n fits none =
    same_from_bits_below 64 n 0 fits (omega arith) (λ i within. let off = none i within in let zero_at = bit_at-zero i in grind (arith, nat_tests, bit_at-lt n i))

-- a word has each bit of another exactly if that one is zero without it
module _ (word part : ℕ) (fits : word < 2 ^ 64) where
  pub part-has : bit_and part (18446744073709551615 - word) ≡ 0 → (b : ℕ) → b < 64 → has_bit part b ≡ true → has_bit word b ≡ true
  part-has none b within has =
      let is = has_bit-without part word b fits within in
      let off = has_bit-zero (bit_and part (18446744073709551615 - word)) b none in grind arith

  pub part-none : part < 2 ^ 64 → ((b : ℕ) → b < 64 → has_bit part b ≡ true → has_bit word b ≡ true) → bit_and part (18446744073709551615 - word) ≡ 0
  part-none few all = no_bits (bit_and part (18446744073709551615 - word)) (omega (arith, and_le_l part (18446744073709551615 - word), few)) (λ i within.
      let is = has_bit-without part word i fits within in let each = all i within in grind arith)

same_kind-refl : (a : Kind) → same_kind a a ≡ true
same_kind-refl Page = refl
same_kind-refl Slot = refl
same_kind-refl Cred = refl

same_kinds : (a b : Kind) → a ≡ b → same_kind a b ≡ true
same_kinds a b same = rw same (same_kind-refl b)

-- the bits that are below the end of an item and not below its begin are those of the keys that it names
pub item-has : (item : Item) (k : Key) (n b low high : ℕ) → item.kind ≡ kind_of k → number_of k ≡ n → b < 64 → low < 2 ^ 64 →
    has_bit low b ≡ nat_lt n item.from → has_bit high b ≡ nat_lt n item.to → has_bit (bit_and high (18446744073709551615 - low)) b ≡ names item k
item-has item k n b low high kind number within fits before inside =
    let same = same_kinds item.kind (kind_of k) kind in
    let is = has_bit-without high low b fits within in grind (arith, nat_tests)

-- items name a key if one of them does
pub is_named-any : (items : List Item) (k : Key) → is_named items k ≡ list_any (λ item. names item k) items
unfolding mode
is_named-any [] k = refl
is_named-any (x ∷ xs) k = let rest = is_named-any xs k in grind arith

pub is_named-none : (k : Key) → is_named [] k ≡ false
unfolding mode
is_named-none k = refl

-- one item more adds the bits of the keys that it names
pub one_item_more : (items : List Item) (i : ℕ) (item : Item) (k : Key) (b word more : ℕ) → i < length items →
    has_bit word b ≡ is_named (take i items) k → has_bit more b ≡ names (get_or items i item) k → has_bit (bit_or word more) b ≡ is_named (take (i + 1) items) k
one_item_more items i item k b word more within before here =
    let any = list_any_more (λ x. names x k) items i item within in
    rw (has_bit-or word more b, before, here, is_named-any (take i items) k, is_named-any (take (i + 1) items) k, any) refl
