-- A capability is the set of its keys: each set has one, and two with the same keys are equal.
use Rattle.std.proofs.Common.{◌≡◌, ◌∙◌, ◌↔◌, ◌⊎◌, inl, inr, sym, ap, refl, ℕ, zero, suc, ◌+◌, ◌-◌, ◌*◌, ◌/◌, ◌%◌, ◌^◌, ◌<◌, Bool, true, false, not, ◌&&◌, List, get_or, map, arith}
use Rattle.std.specs.Prelude.{if◌then◌else◌, All}
use Rattle.std.specs.Int.{bit_at}
use Rattle.std.specs.List.{list_any, range_with_len}
use Rattle.std.proofs.Math.Nat.{eq-or-lt_of_le}
use Rattle.std.proofs.lemmas.Grind.{common_steps, same_number_lists}
use Rattle.std.proofs.lemmas.Bool.{and_from, both_ways, not-true, not_from_false, true_from_ne_false}
use Rattle.std.proofs.lemmas.Bool.Decides.{nat_tests}
use Rattle.std.proofs.lemmas.List.Folds.{list_any_at, list_any_none}
use Rattle.std.proofs.lemmas.List.FromFn.{get_or-map-range_with_len, get_or-range_with_len, length-map-range_with_len, length-range_with_len}
use Rattle.std.proofs.lemmas.Nat.Bits.{bit_at_cat_low, bit_at_cat_high, bit_at-lt, same_from_bits_below}
use Rattle.lwc_base.specs.Capabilities.{IsCap, bits_of, cap_of, covers, has_bit, has_key, is_named, restricted}
use Rattle.lwc_base.specs.declared.descriptor.Cap.{Cap}
use Rattle.lwc_base.specs.declared.item.Item.{Item}
use Rattle.lwc_base.specs.Modes.{IsKey}
use Rattle.lwc_base.proofs.Needs.{any_key-none, any_key-some}
use Rattle.lwc_types.specs.declared.key.Key.{Key}
use Rattle.lwc_types.specs.declared.key.Key.TheVariants.{Page, Slot, Cred}
use Rattle.lwc_types.specs.declared.limits.TheConstants.{MOST_PAGES}

-- one bit more goes above the bits that there are
bits_of-more : (n : ℕ) (test : ℕ → Bool) → bits_of (suc n) test ≡ (if test n then 1 else 0) * 2 ^ n + bits_of n test
bits_of-more n test = grind arith

bits_of-lt : (n : ℕ) (test : ℕ → Bool) → bits_of n test < 2 ^ n
bits_of-lt zero test = omega arith
bits_of-lt (suc n) test = let rest = bits_of-lt n test in grind (arith, common_steps)

lowest : (b : Bool) → bit_at (if b then 1 else 0) 0 ≡ (if b then 1 else 0)
lowest true = refl
lowest false = refl

bit_at-more : (n i : ℕ) (test : ℕ → Bool) → (i ≡ n) ⊎ (i < n) → ((i < n) → bit_at (bits_of n test) i ≡ (if test i then 1 else 0)) →
    bit_at (bits_of (suc n) test) i ≡ (if test i then 1 else 0)
bit_at-more n i test (inl same) rest =
    let none : n - n ≡ 0 = omega arith in
    rw (same, bits_of-more n test, bit_at_cat_high (if test n then 1 else 0) n (bits_of n test) n (bits_of-lt n test) (omega arith), none) (lowest (test n))
bit_at-more n i test (inr below) rest = rw (bits_of-more n test) (bit_at_cat_low (if test n then 1 else 0) n (bits_of n test) i below ∙ rest below)

bit_at-bits_of : (n i : ℕ) (test : ℕ → Bool) → i < n → bit_at (bits_of n test) i ≡ (if test i then 1 else 0)
bit_at-bits_of zero i test within = absurd (omega arith)
bit_at-bits_of (suc n) i test within = bit_at-more n i test (eq-or-lt_of_le (omega arith)) (bit_at-bits_of n i test)

-- the bits of a test are those that pass it
bits_of-has : (n i : ℕ) (test : ℕ → Bool) → i < n → has_bit (bits_of n test) i ≡ test i
bits_of-has n i test within = let is = bit_at-bits_of n i test within in grind (arith, nat_tests)

-- numbers with the same bits are equal
same_bits : (n a b : ℕ) → a < 2 ^ n → b < 2 ^ n → ((i : ℕ) → i < n → has_bit a i ≡ has_bit b i) → a ≡ b
same_bits n a b few less same =
    same_from_bits_below n a b few less (λ i within. let is = same i within in grind (arith, nat_tests, bit_at-lt a i, bit_at-lt b i))

same_fields : (a b : Cap) → a.pages ≡ b.pages → a.slots ≡ b.slots → a.cred ≡ b.cred → a ≡ b
same_fields a b pages slots cred = λ i. record { pages = pages i; slots = slots i; cred = cred i }

-- so many words of bits, each with a test of its own
abbrev words_of : ℕ → ℕ → (ℕ → ℕ → Bool) → List ℕ
words_of count width test = map (λ i. bits_of width (test i)) (range_with_len 0 count)

words_of-at : (count width i d : ℕ) (test : ℕ → ℕ → Bool) → i < count → get_or (words_of count width test) i d ≡ bits_of width (test i)
words_of-at count width i d test within = get_or-map-range_with_len (λ k. bits_of width (test k)) 0 count i i d within (omega arith)

words_of-has : (count width i b : ℕ) (test : ℕ → ℕ → Bool) → i < count → b < width → has_bit (get_or (words_of count width test) i 0) b ≡ test i b
words_of-has count width i b test inside within = rw (words_of-at count width i 0 test inside) (bits_of-has width b (test i) within)

words_of-fit : (count width : ℕ) (test : ℕ → ℕ → Bool) → All (λ word. word < 2 ^ width) (words_of count width test)
words_of-fit count width test k d within =
    rw (words_of-at count width k d test (omega (arith, length-map-range_with_len (λ i. bits_of width (test i)) 0 count))) (bits_of-lt width (test k))

pub cap_of-has : (test : Key → Bool) (k : Key) → IsKey MOST_PAGES k → has_key (cap_of test) k ≡ test k
unfolding has_key cap_of
cap_of-has test (Page p) within =
    words_of-has 256 64 (p / 64) (p % 64) (λ i b. test (Page (64 * i + b))) (omega arith) (omega arith) ∙ ap (λ (q : ℕ). test (Page q)) (omega arith)
cap_of-has test (Slot n) within = bits_of-has 64 n (λ m. test (Slot m)) within
cap_of-has test Cred within = refl

pub cap_of-valid : (test : Key → Bool) → IsCap (cap_of test)
unfolding cap_of
cap_of-valid test = record {
  words = length-map-range_with_len (λ i. bits_of 64 (λ b. test (Page (64 * i + b)))) 0 256;
  pages = words_of-fit 256 64 (λ i b. test (Page (64 * i + b)));
  slots = bits_of-lt 64 (λ n. test (Slot n));
}

module _ (a b : Cap) (first : IsCap a) (second : IsCap b) (same : (k : Key) → IsKey MOST_PAGES k → has_key a k ≡ has_key b k) where
  same_page : (p i n : ℕ) → p / 64 ≡ i → p % 64 ≡ n → p < MOST_PAGES → has_bit (get_or a.pages i 0) n ≡ has_bit (get_or b.pages i 0) n
  unfolding has_key
  same_page p i n word bit within = rw (word, bit) at (same (Page p) within)

  same_pages : a.pages ≡ b.pages
  same_pages = same_number_lists a.pages b.pages (first.words ∙ sym second.words)
      (λ i within. same_bits 64 (get_or a.pages i 0) (get_or b.pages i 0) (first.pages i 0 within) (second.pages i 0 (omega arith))
      (λ n inside. same_page (64 * i + n) i n (omega arith) (omega arith) (omega arith)))

  pub same_keys : a ≡ b
  unfolding has_key
  same_keys = same_fields a b same_pages
      (same_bits 64 a.slots b.slots first.slots second.slots (λ n inside. same (Slot n) inside)) (same Cred (omega arith))

pub restricted-has : (cap : Cap) (items : List Item) (k : Key) → IsKey MOST_PAGES k → has_key (restricted cap items) k ≡ (has_key cap k && is_named items k)
unfolding restricted
restricted-has cap items k within = cap_of-has (λ key. has_key cap key && is_named items key) k within

pub restricted-twice : (cap : Cap) (items others : List Item) (k : Key) → IsKey MOST_PAGES k →
    has_key (restricted (restricted cap items) others) k ≡ (has_key cap k && is_named items k && is_named others k)
restricted-twice cap items others k within = rw (restricted-has (restricted cap items) others k within, restricted-has cap items k within) refl

-- a number below n passes, or none does
pub some_below : (test : ℕ → Bool) (n k : ℕ) → k < n → test k ≡ true → list_any test (range_with_len 0 n) ≡ true
some_below test n k within passes =
    list_any_at test (range_with_len 0 n) k 0 (rw (length-range_with_len 0 n) within) (ap test (get_or-range_with_len 0 n k 0 within ∙ omega arith) ∙ passes)

pub none_below : (test : ℕ → Bool) (n : ℕ) → ((k : ℕ) → k < n → test k ≡ false) → list_any test (range_with_len 0 n) ≡ false
none_below test n fails =
    list_any_none test (range_with_len 0 n) (λ k d within. let inside : k < n = omega (arith, length-range_with_len 0 n) in ap test (get_or-range_with_len 0 n k d inside ∙ omega arith) ∙ fails k inside)

-- a capability covers items exactly if no key that they name is missing
is_missing : Cap → List Item → Key → Bool
is_missing cap items k = is_named items k && not (has_key cap k)

covered : (cap : Cap) (items : List Item) (k : Key) → (is_named items k ≡ true → has_key cap k ≡ true) → is_missing cap items k ≡ false
unfolding is_missing
covered cap items k each = grind arith

uncovered : (cap : Cap) (items : List Item) (k : Key) → is_named items k ≡ true → has_key cap k ≡ false → is_missing cap items k ≡ true
unfolding is_missing
uncovered cap items k named lacks = and_from _ _ named (not_from_false _ lacks)

pub covers-all : (pages : ℕ) (cap : Cap) (items : List Item) →
    (covers pages cap items ≡ true) ↔ ((k : Key) → IsKey pages k → is_named items k ≡ true → has_key cap k ≡ true)
unfolding covers is_missing
covers-all pages cap items = (
  (λ all k within named. true_from_ne_false (has_key cap k) (λ lacks.
      both_ways _ (not-true _ all) (any_key-some pages (is_missing cap items) k within (uncovered cap items k named lacks)))),
  (λ each. not_from_false _ (any_key-none pages (is_missing cap items) (λ k within. covered cap items k (each k within)))),
)
