-- The keys that an access capability has.
use Rattle.std.specs.Prelude.{◌≡◌, ◌<◌, ℕ, zero, suc, ◌+◌, ◌-◌, ◌*◌, ◌/◌, ◌%◌, ◌^◌, ◌==◌, ◌&&◌, if◌then◌else◌, Bool}
use Rattle.std.specs.Prelude.{true, false, not, List, All, is_some, length, map, min, replicate, slice_index}
use Rattle.std.specs.List.{range_with_len}
use Rattle.lwc_base.specs.declared.descriptor.Cap.{Cap}
use Rattle.lwc_base.specs.declared.item.Item.{Item}
use Rattle.lwc_base.specs.Modes.{mode}
use Rattle.lwc_base.specs.Sharing.{any_key}
use Rattle.lwc_types.specs.declared.key.Key.{Key}
use Rattle.lwc_types.specs.declared.key.Key.TheVariants.{Page, Slot, Cred}

-- whether a number has a bit
abbrev pub has_bit : ℕ → ℕ → Bool
has_bit number i = (number / 2 ^ i) % 2 == 1

-- whether a capability has a key: page p is bit p mod 64 of word p / 64, slot n is bit n of the slots
unfoldable pub has_key : Cap → Key → Bool
has_key cap (Page p) = has_bit (slice_index cap.pages (p / 64)) (p % 64)
has_key cap (Slot n) = has_bit cap.slots n
has_key cap Cred = cap.cred

-- the capability of no key
unfoldable pub empty_cap : Cap
empty_cap = record { pages = replicate 256 0; slots = 0; cred = false }

-- word i of the pages of a full capability: a bit for each of the 64 pages from 64 i on that there are
abbrev pub full_word : ℕ → ℕ → ℕ
full_word pages i = 2 ^ min 64 (pages - 64 * i) - 1

-- the capability of every key: this number of pages, at most 16384, all slots and the credential
unfoldable pub full_cap : ℕ → Cap
full_cap pages =
    record { pages = map (full_word pages) (range_with_len 0 256); slots = 2 ^ 64 - 1; cred = true }

-- the number that has the bits below n that pass a test, and no other
abbrev pub bits_of : ℕ → (ℕ → Bool) → ℕ
bits_of zero test = 0
bits_of (suc n) test = bits_of n test + (if test n then 2 ^ n else 0)

-- the capability of the keys that pass a test
unfoldable pub cap_of : (Key → Bool) → Cap
cap_of test = record {
  pages = map (λ i. bits_of 64 (λ b. test (Page (64 * i + b)))) (range_with_len 0 256);
  slots = bits_of 64 (λ n. test (Slot n));
  cred = test Cred;
}

-- whether an item names a key
abbrev pub is_named : List Item → Key → Bool
is_named items k = is_some (mode items k)

-- the capability of the keys that a capability has and items name
unfoldable pub restricted : Cap → List Item → Cap
restricted cap items = cap_of (λ k. has_key cap k && is_named items k)

-- whether a capability has each key that items name, where there is this number of pages
unfoldable pub covers : ℕ → Cap → List Item → Bool
covers pages cap items = not (any_key pages (λ k. is_named items k && not (has_key cap k)))

-- the words of a capability are numbers of 64 bits
pub record IsCap (cap : Cap) : Type 0 where
  pub words : length cap.pages ≡ 256
  pub pages : All (λ word. word < 2 ^ 64) cap.pages
  pub slots : cap.slots < 2 ^ 64
