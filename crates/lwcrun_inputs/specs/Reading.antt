-- Whole files.
use Rattle.std.specs.Prelude.{◌≡◌, ◌<◌, ◌≤◌, ◌+◌, ◌-◌, ◌++◌, ℕ, List, [], ◌∷◌, Option, Some, IfSome, All}
use Rattle.std.specs.Prelude.{length, min, take}
use Rattle.std.specs.List.{AllPairs}
use Rattle.lwc_io.specs.Outside.{Fetch, MayBeContents}
use Rattle.lwcrun_inputs.specs.declared.reading.TheConstants.{CHUNK}

-- the contents may begin with these bytes: where they are known, they do
abbrev pub MayBeginWith : Option (List ℕ) → List ℕ → Type 0
MayBeginWith contents bytes = IfSome contents (λ known. take (length bytes) known ≡ bytes)

-- the contents may be longer than the limit: where they are known, they are
abbrev pub MayExceed : ℕ → Option (List ℕ) → Type 0
MayExceed limit contents = (bytes : List ℕ) × MayBeContents contents bytes × (limit < length bytes)

-- a fetch gave some bytes, all of them before this offset
abbrev pub GaveBefore : ℕ → Fetch → Type 0
GaveBefore at f = (n : ℕ) × (f.given ≡ Some n) × (0 < n) × (f.at + n ≤ at)

-- these fetches read one file onward: each asks for what is left up to one byte past the limit, and at most
-- for a chunk, and each before the last one gave some bytes, all of them before the fetches after it
pub record ReadsOnward (name : List ℕ) (limit : ℕ) (fetches : List Fetch) : Type 0 where
  pub named : All (λ f. f.name ≡ name) fetches
  pub within : All (λ f. (f.at ≤ limit) × (f.most ≡ min (limit + 1 - f.at) CHUNK)) fetches
  pub onward : AllPairs (λ f g. GaveBefore g.at f) fetches

-- besides, the last one was at the end of the file
pub record ReadsToTheEnd (name : List ℕ) (limit : ℕ) (fetches : List Fetch) : Type 0 where
  pub onward : ReadsOnward name limit fetches
  pub front : List Fetch
  pub last : Fetch
  pub is : fetches ≡ front ++ last ∷ []
  pub end : last.given ≡ Some 0

-- what was fetched between the fetches before and those after has this property
abbrev pub Fetched : (List Fetch → Type 0) → List Fetch → List Fetch → Type 0
Fetched P before after = (made : List Fetch) × (after ≡ before ++ made) × P made
