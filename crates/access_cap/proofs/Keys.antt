-- The keys of a capability, by its words.
use Rattle.std.proofs.Common.{◌⊎◌, inl, inr, Bool, true, false, not, ◌&&◌, List, length, get_or, map, set, replicate, refl, sym, ap, subst, ◌∙◌, ◌≡◌, ◌↔◌, ℕ, ◌+◌, ◌-◌, ◌*◌, ◌/◌, ◌%◌, ◌^◌, ◌<◌, ◌≤◌, min, zero, suc, eqb, bit_and, arith}
use Rattle.std.specs.Prelude.{nat_lt}
use Rattle.std.specs.Int.{bit_at}
use Rattle.std.specs.List.{range_with_len}
use Rattle.std.proofs.Math.Nat.{eq-or-lt_of_le}
use Rattle.std.proofs.lemmas.Bool.{both_ways, eq-eqb, false_from_ne_true, ne_eqb, not-true, not_from_false}
use Rattle.std.proofs.lemmas.Nat.{and_le_r}
use Rattle.std.proofs.lemmas.Nat.Bits.{and_pow, bit_at-lt}
use Rattle.std.proofs.lemmas.Grind.{get_or-set_at, same_number_lists}
use Rattle.std.proofs.lemmas.List.{get_or-set_other, get_or_default, length-set}
use Rattle.std.proofs.lemmas.List.FromFn.{get_or-map-range_with_len}
use Rattle.access_cap.proofs.Bits.{has_bit-and, has_bit-zero, low_word-has}
use Rattle.lwc_base.specs.Capabilities.{IsCap, full_cap, full_word, has_bit, has_key, is_named, restricted}
use Rattle.lwc_base.specs.declared.descriptor.Cap.{Cap}
use Rattle.lwc_base.specs.declared.item.Item.{Item}
use Rattle.lwc_base.specs.Modes.{IsKey, kind_of, limit, number_of}
use Rattle.lwc_base.proofs.Caps.{cap_of-valid, restricted-has, same_keys}
use Rattle.lwc_types.specs.declared.key.Key.{Key}
use Rattle.lwc_types.specs.declared.key.Key.TheVariants.{Page, Slot, Cred}
use Rattle.lwc_types.specs.declared.limits.TheConstants.{MOST_PAGES}

-- the words below a place are what each has to be
pub record HasWords (is_word : ℕ → ℕ → Type 0) (i : ℕ) (words : List ℕ) : Type 0 where
  pub whole : length words ≡ 256
  pub below : (k : ℕ) → k < i → is_word k (get_or words k 0)

pub no_words : (is_word : ℕ → ℕ → Type 0) → HasWords is_word 0 (replicate 256 0)
no_words is_word = record { whole = refl; below = λ k below. absurd (omega (arith, below)) }

module _ (is_word : ℕ → ℕ → Type 0) (i word : ℕ) (words : List ℕ) (within : i < 256) (is : is_word i word) (has : HasWords is_word i words) where
  word_below : (k : ℕ) → (k ≡ i) ⊎ (k < i) → is_word k (get_or (set words i word) k 0)
  word_below k (inl same) = subst (is_word k) (sym (get_or-set_at words i k word 0 same (omega (arith, within, has.whole)))) (subst (λ (n : ℕ). is_word n word) (sym same) is)
  word_below k (inr below) = subst (is_word k) (sym (get_or-set_other words i k word 0 (λ same. omega (arith, same, below)))) (has.below k below)

  pub one_word_more : HasWords is_word (i + 1) (set words i word)
  one_word_more = record {
    whole = length-set words i word ∙ has.whole;
    below = λ k below. word_below k (eq-or-lt_of_le (omega (arith, below)));
  }

pub all_words : (is_word : ℕ → ℕ → Type 0) (i : ℕ) (words : List ℕ) → 256 ≤ i → i ≤ 256 → HasWords is_word i words → HasWords is_word 256 words
all_words is_word i words end most has = record { whole = has.whole; below = λ k below. has.below k (omega (arith, below, end)) }

-- the words of a full capability, and no other, are its words
pub is_full : (pages i : ℕ) (words : List ℕ) → 256 ≤ i → i ≤ 256 → HasWords (λ k word. word ≡ full_word pages k) i words →
    record { pages = words; slots = 18446744073709551615; cred = true } ≡ full_cap pages
unfolding full_cap
is_full pages i words end most has =
    ap (λ (l : List ℕ). record { pages = l; slots = 18446744073709551615; cred = true })
    (same_number_lists words (map (full_word pages) (range_with_len 0 256)) has.whole
    (λ k within. has.below k (omega (arith, within, has.whole, end)) ∙ sym (get_or-map-range_with_len (full_word pages) 0 256 k k 0 (omega (arith, within, has.whole)) (omega arith))))

-- the full capability has the keys of this number of pages, of the slots and of the credential
pub full_has : (pages : ℕ) (cap : Cap) → cap ≡ full_cap pages →
    (key : Key) → IsKey MOST_PAGES key → has_key cap key ≡ nat_lt (number_of key) (limit pages (kind_of key))
unfolding has_key full_cap
full_has pages cap is (Page p) inside =
    ap (λ (x : Cap). has_bit (get_or x.pages (p / 64) 0) (p % 64)) is
    ∙ low_word-has pages (p / 64) (p % 64) (min 64 (pages - 64 * (p / 64))) _ refl
    (get_or-map-range_with_len (full_word pages) 0 256 (p / 64) (p / 64) 0 (omega arith) (omega arith)) (omega arith)
    ∙ ap (λ (q : ℕ). nat_lt q pages) (omega arith)
full_has pages cap is (Slot n) inside = ap (λ (x : Cap). has_bit x.slots n) is ∙ low_word-has 64 0 n 64 _ refl refl inside ∙ ap (λ (m : ℕ). nat_lt m 64) (omega arith)
full_has pages cap is Cred inside = ap (λ (x : Cap). x.cred) is

pub within_most : (pages : ℕ) → pages ≤ MOST_PAGES → (key : Key) → IsKey pages key → IsKey MOST_PAGES key
within_most pages few (Page p) within = omega arith
within_most pages few (Slot n) within = within
within_most pages few Cred within = within

-- a list of zeros reads as zero everywhere
pub zero_at : (count i : ℕ) → get_or {A = ℕ} (replicate count 0) i 0 ≡ 0
zero_at zero i = refl
zero_at (suc count) zero = refl
zero_at (suc count) (suc i) = zero_at count i

-- a capability of zeros has no key
pub zeros_have_none : (cap : Cap) → cap.pages ≡ replicate 256 0 → cap.slots ≡ 0 → cap.cred ≡ false → (key : Key) → has_key cap key ≡ false
unfolding has_key
zeros_have_none cap words slots cred (Page p) = has_bit-zero (get_or cap.pages (p / 64) 0) (p % 64) (rw words (zero_at 256 (p / 64)))
zeros_have_none cap words slots cred (Slot n) = has_bit-zero cap.slots n slots
zeros_have_none cap words slots cred Cred = cred

-- what is kept where a test holds, and else false
pub kept : (x y t : Bool) → x ≡ y → t ≡ true → x ≡ (y && t)
kept x y t same is = grind arith

pub both_same : (x y t u : Bool) → x ≡ y → t ≡ u → (x && t) ≡ (y && u)
both_same x y t u first second = cc

pub left_out : (x y t : Bool) → x ≡ false → t ≡ false → x ≡ (y && t)
left_out x y t none fails = grind arith

-- a word of the keys that a capability has and items name
pub record IsMeetWord (cap : Cap) (items : List Item) (i word : ℕ) : Type 0 where
  pub fits : word < 2 ^ 64
  pub bits : (b : ℕ) → b < 64 → has_bit word b ≡ (has_bit (get_or cap.pages i 0) b && is_named items (Page (64 * i + b)))

-- the words of such a capability
pub record IsMeet (cap : Cap) (items : List Item) (part : Cap) : Type 0 where
  pub words : HasWords (IsMeetWord cap items) 256 part.pages
  pub fits : part.slots < 2 ^ 64
  pub slots : (n : ℕ) → n < 64 → has_bit part.slots n ≡ (has_bit cap.slots n && is_named items (Slot n))
  pub cred : part.cred ≡ (cap.cred && is_named items Cred)

-- where a bit of one word tells a test, both words tell it with the other bit
pub both_bits : (a b i : ℕ) (t : Bool) → has_bit b i ≡ t → has_bit (bit_and a b) i ≡ (has_bit a i && t)
both_bits a b i t is = has_bit-and a b i ∙ ap (λ (x : Bool). has_bit a i && x) is

pub is_meet_word : (cap : Cap) (items : List Item) (i word : ℕ) → word < 2 ^ 64 → ((b : ℕ) → b < 64 → has_bit word b ≡ is_named items (Page (64 * i + b))) →
    IsMeetWord cap items i (bit_and (get_or cap.pages i 0) word)
is_meet_word cap items i word few named = record {
  fits = omega (arith, and_le_r (get_or cap.pages i 0) word, few);
  bits = λ b within. both_bits (get_or cap.pages i 0) word b _ (named b within);
}

meet_has : (cap part : Cap) (items : List Item) → IsMeet cap items part → (k : Key) → IsKey MOST_PAGES k → has_key part k ≡ (has_key cap k && is_named items k)
unfolding has_key
meet_has cap part items is (Page p) within =
    (is.words.below (p / 64) (omega arith)).bits (p % 64) (omega arith)
    ∙ ap (λ (q : ℕ). has_bit (get_or cap.pages (p / 64) 0) (p % 64) && is_named items (Page q)) (omega arith)
meet_has cap part items is (Slot n) within = is.slots n within
meet_has cap part items is Cred within = is.cred

-- it is the restriction, since capabilities are sets of keys
is_cap : (cap part : Cap) (items : List Item) → IsMeet cap items part → IsCap part
is_cap cap part items is =
    let fits = λ (k : ℕ) (within : k < 256). (is.words.below k within).fits in
    record { words = is.words.whole; pages = λ k d within. rw (get_or_default part.pages k d 0 within) (fits k (omega (arith, is.words.whole))); slots = is.fits }

pub meet_is : (cap part : Cap) (items named : List Item) → items ≡ named → IsMeet cap items part → part ≡ restricted cap named
unfolding restricted
meet_is cap part items named same is = rw (← same) (same_keys part (restricted cap items) (is_cap cap part items is) (cap_of-valid (λ k. has_key cap k && is_named items k))
    (λ k within. meet_has cap part items is k within ∙ sym (restricted-has cap items k within)))

-- a number has a bit exactly if that is left where the others are masked out
one_times : (b p : ℕ) → b < 2 → 0 < p → eqb (b * p) p ≡ eqb b 1
one_times zero p low some = ne_eqb (0 * p) p (λ none. omega (arith, none, some))
one_times (suc zero) p low some = eq-eqb (1 * p) p (omega arith)
one_times (suc (suc b)) p low some = absurd (omega (arith, low))

pub masked_bit : (n k p : ℕ) → p ≡ 2 ^ k → 0 < p → eqb (bit_and n p) p ≡ has_bit n k
masked_bit n k p is some =
    let masked : bit_and n p ≡ bit_at n k * p = rw is (and_pow n k) in
    ap (λ (m : ℕ). eqb m p) masked ∙ one_times (bit_at n k) p (bit_at-lt n k) some

-- each key of one capability is one of another
abbrev pub HasKeysOf : Cap → Cap → Type 0
HasKeysOf cap part = (k : Key) → IsKey MOST_PAGES k → has_key part k ≡ true → has_key cap k ≡ true

-- each bit of one word is one of another
abbrev pub HasBitsOf : ℕ → ℕ → Type 0
HasBitsOf word part = (b : ℕ) → b < 64 → has_bit part b ≡ true → has_bit word b ≡ true

-- a capability has each key of another if its words have each bit, and else it lacks one
module _ (cap part : Cap) where
  keys_of_words : ((i : ℕ) → i < 256 → HasBitsOf (get_or cap.pages i 0) (get_or part.pages i 0)) → HasBitsOf cap.slots part.slots → (part.cred ≡ true → cap.cred ≡ true) →
      HasKeysOf cap part
  unfolding has_key
  keys_of_words words slots cred (Page p) within has = words (p / 64) (omega arith) (p % 64) (omega arith) has
  keys_of_words words slots cred (Slot n) within has = slots n within has
  keys_of_words words slots cred Cred within has = cred has

  at_page : HasKeysOf cap part → (p i b : ℕ) → p / 64 ≡ i → p % 64 ≡ b → p < MOST_PAGES → has_bit (get_or part.pages i 0) b ≡ true → has_bit (get_or cap.pages i 0) b ≡ true
  unfolding has_key
  at_page all p i b word bit within = rw (word, bit) at (all (Page p) within)

  pub word_of_keys : (i : ℕ) → i < 256 → HasKeysOf cap part → HasBitsOf (get_or cap.pages i 0) (get_or part.pages i 0)
  word_of_keys i within all b inside has = at_page all (64 * i + b) i b (omega arith) (omega arith) (omega arith) has

  pub slots_of_keys : HasKeysOf cap part → HasBitsOf cap.slots part.slots
  unfolding has_key
  slots_of_keys all b within has = all (Slot b) within has

  cred_of_keys : HasKeysOf cap part → part.cred ≡ true → cap.cred ≡ true
  unfolding has_key
  cred_of_keys all has = all Cred (omega arith) has

  pub includes_from : (t : Bool) → ((i : ℕ) → i < 256 → HasBitsOf (get_or cap.pages i 0) (get_or part.pages i 0)) → HasBitsOf cap.slots part.slots →
      ((t ≡ true) ↔ (part.cred ≡ true → cap.cred ≡ true)) → (t ≡ true) ↔ HasKeysOf cap part
  includes_from t words slots cred = ((λ is. keys_of_words words slots (cred.0 is)), (λ all. cred.1 (cred_of_keys all)))

-- a test that fails tells against all that needs it
pub refuted : {P Q : Type 0} (r t : Bool) → ((r ≡ true) ↔ P) → r ≡ false → t ≡ false → (Q → P) → (t ≡ true) ↔ Q
refuted r t is fails same needs = ((λ wrong. absurd (both_ways t same wrong)), (λ all. absurd (both_ways r fails (is.1 (needs all)))))

pub implied : (a b : Bool) → a ≡ false → (not b ≡ true) ↔ (b ≡ true → a ≡ true)
implied a b fails = ((λ off has. absurd (both_ways b (not-true b off) has)), (λ each. not_from_false b (false_from_ne_true b (λ has. both_ways a fails (each has)))))
