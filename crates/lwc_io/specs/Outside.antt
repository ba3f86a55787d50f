-- What files and sinks give and take, and how they count what failed.
use Rattle.std.specs.Prelude.{◌≡◌, ◌↔◌, ℕ, ◌+◌, ◌<◌, ◌≤◌, min, List, [], ◌∷◌, ◌++◌, length, take, drop, Option, None}
use Rattle.std.specs.Prelude.{Some, option_map, Result, Ok, Err, IfSome}

-- a fetch: of the file of that name, from the offset `at` on, of at most `most` bytes; it gave this number of
-- them, 0 at the file's end, and none where it failed
pub record Fetch : Type 0 where
  pub name : List ℕ
  pub at : ℕ
  pub most : ℕ
  pub given : Option ℕ

-- files as contracts see them: the contents by name, where they are known, the faults of each name, and all
-- fetches so far, in their order
pub record FilesView : Type 0 where
  pub contents : List ℕ → Option (List ℕ)
  pub faults : List ℕ → ℕ
  pub fetches : List Fetch

-- a sink as contracts see it: all the bytes that it took, where they are known, and its faults
pub record SinkView : Type 0 where
  pub taken : Option (List ℕ)
  pub faults : ℕ

-- the number of bytes that a fetch gave, by its result: none where it failed
abbrev pub given_by : {E : Type 0} → Result ℕ E → Option ℕ
given_by (Ok n) = Some n
given_by (Err e) = None

-- a fetch of the file of that name, from the offset `at` on, into this buffer, and what it gave
abbrev pub fetch_into : List ℕ → ℕ → List ℕ → Option ℕ → Fetch
fetch_into name at buffer given = record { name = name; at = at; most = length buffer; given = given }

-- the fetches, and one more
abbrev pub with_fetch : List Fetch → List ℕ → ℕ → List ℕ → Option ℕ → List Fetch
with_fetch fetches name at buffer given = fetches ++ fetch_into name at buffer given ∷ []

-- one more, or the most that a u64 can count
abbrev pub incremented : ℕ → ℕ
incremented count = min (count + 1) 18446744073709551615

-- one fault was counted, and no other
abbrev pub CountsOneFault : ℕ → ℕ → Type 0
CountsOneFault before now = now ≡ incremented before

-- the buffer begins with n bytes of the file from `at` on; if it has room, n is 0 exactly at the file's end
pub record IsPiece (file : List ℕ) (at n : ℕ) (buffer : List ℕ) : Type 0 where
  pub bytes : take n buffer ≡ take n (drop at file)
  pub end : 0 < length buffer → (n ≡ 0) ↔ (length file ≤ at)

-- known bytes with the piece behind them; unknown bytes stay unknown
abbrev pub appended : Option (List ℕ) → List ℕ → Option (List ℕ)
appended known piece = option_map (λ bytes. bytes ++ piece) known

-- the contents may be these bytes: where they are known, they are these
abbrev pub MayBeContents : Option (List ℕ) → List ℕ → Type 0
MayBeContents contents bytes = IfSome contents (λ known. known ≡ bytes)

-- the first bytes of the text were taken, and nothing else
abbrev pub IsPartTaken : Option (List ℕ) → Option (List ℕ) → List ℕ → Type 0
IsPartTaken before after text = (n : ℕ) × (after ≡ appended before (take n text))
