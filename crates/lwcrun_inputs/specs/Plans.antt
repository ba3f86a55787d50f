-- What a call of the program asks of the outside, one thing after another, and where that leads.
use Rattle.std.specs.Prelude.{◌≡◌, ◌⊎◌, ◌<◌, ℕ, List, [], ◌++◌, Option, Result, Ok, Err, All, OnOk}
use Rattle.lwc_io.specs.Outside.{Fetch, MayBeContents}
use Rattle.lwcrun_inputs.specs.Reading.{ReadsOnward, ReadsToTheEnd}

-- a file of a name, up to a limit, is read and its bytes say what follows, or an input is refused, or a
-- work is done and its text is written
pub data Plan (R W : Type 0) : Type 0 where
  Read : List ℕ → ℕ → (List ℕ → Plan R W) → Plan R W
  Refuse : R → Plan R W
  Write : W → Plan R W

-- the contents of each file by its name, where they are known
abbrev pub FileContents : Type 0
FileContents = List ℕ → Option (List ℕ)

-- what the file of a name may be read as, on the way to an end of a plan: its contents, where they are known; and on
-- the way to a work, bytes
pub record MayBeReadAs {R W : Type 0} (files : FileContents) (name : List ℕ) (end : Result W R)
    (bytes : List ℕ) : Type 0 where
  pub contents : MayBeContents (files name) bytes
  pub range : OnOk end (All (λ b. b < 256) bytes)

-- a plan leads to this work, or to this refusal: by what each file that it comes to may be read as
abbrev pub LeadsTo : {R W : Type 0} → FileContents → Plan R W → Result W R → Type 0
LeadsTo files (Read name limit next) end =
    (bytes : List ℕ) × MayBeReadAs files name end bytes × LeadsTo files (next bytes) end
LeadsTo files (Refuse refusal) end = end ≡ Err refusal
LeadsTo files (Write work) end = end ≡ Ok work

-- over contents that the files may have, the plan reads the file of that name
abbrev pub Reads : {R W : Type 0} → FileContents → Plan R W → List ℕ → Type 0
Reads files (Read name limit next) asked =
    (asked ≡ name) ⊎ ((bytes : List ℕ) × MayBeContents (files name) bytes × Reads files (next bytes) asked)
Reads files (Refuse refusal) asked = ⊥
Reads files (Write work) asked = ⊥

-- over contents that the files may have, these are fetches of the plan: each file that it reads is read
-- onward, once, and to the end before what follows it; what the plan does not come to is not fetched
abbrev pub AreFetchesOf : {R W : Type 0} → FileContents → Plan R W → List Fetch → Type 0
AreFetchesOf files (Read name limit next) fetches =
    ReadsOnward name limit fetches
    ⊎ ((first rest : List Fetch) × (fetches ≡ first ++ rest) × ReadsToTheEnd name limit first
    × ((bytes : List ℕ) × MayBeContents (files name) bytes × AreFetchesOf files (next bytes) rest))
AreFetchesOf files (Refuse refusal) fetches = fetches ≡ []
AreFetchesOf files (Write work) fetches = fetches ≡ []

-- what follows an input that was accepted; else it is refused
abbrev pub accepted : {A R W : Type 0} → Result A R → (A → Plan R W) → Plan R W
accepted (Ok value) next = next value
accepted (Err refusal) next = Refuse refusal

-- where the plan leads over these contents of the files
abbrev pub outcome : {R W : Type 0} → (List ℕ → List ℕ) → Plan R W → Result W R
outcome bytes (Read name limit next) = outcome bytes (next (bytes name))
outcome bytes (Refuse refusal) = Err refusal
outcome bytes (Write work) = Ok work
