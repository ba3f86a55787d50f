-- What the parts of a call answer: a file that is read by a grammar, and the files of a plan.
use Rattle.std.specs.Prelude.{◌≡◌, ◌<◌, ℕ, List, Result, Ok, Err, All}
use Rattle.lwc_io.specs.Outside.{CountsOneFault, FilesView, MayBeContents}
use Rattle.lwcrun_inputs.specs.Ends.{End}
use Rattle.lwcrun_inputs.specs.Ends as ends
use Rattle.lwcrun_inputs.specs.Plans.{Plan, LeadsTo, Reads}

-- a file that was read by a grammar: its value, or the end of the call without it
pub data Found (A R : Type 0) : Type 0 where
  Value : A → Found A R
  Missing : End R → Found A R

-- what was found in a file is what the grammar gives for its contents, and no fetch failed; or one did, or
-- memory ran out
unfoldable pub ReadsBy : {A R : Type 0}
    → (List ℕ → Result A R) → FilesView → FilesView → List ℕ → Found A R → Type 0
ReadsBy grammar files after name (Value x) =
    (bytes : List ℕ) × MayBeContents (files.contents name) bytes × All (λ b. b < 256) bytes
    × (grammar bytes ≡ Ok x) × (after.faults ≡ files.faults)
ReadsBy grammar files after name (Missing ends.NoMemory) = Unit {0}
ReadsBy grammar files after name (Missing (ends.Unread asked)) =
    (asked ≡ name) × CountsOneFault (files.faults name) (after.faults name)
ReadsBy grammar files after name (Missing (ends.Refused refusal)) =
    (bytes : List ℕ) × MayBeContents (files.contents name) bytes × (grammar bytes ≡ Err refusal)
    × (after.faults ≡ files.faults)
ReadsBy grammar files after name (Missing _) = ⊥

-- what was gathered of the files of a plan is the work that it leads to, and no fetch failed; or a file was not read or
-- was refused, or memory ran out
unfoldable pub Gathers : {R W : Type 0} → FilesView → FilesView → Plan R W → Found W R → Type 0
Gathers files after p (Value work) = LeadsTo files.contents p (Ok work) × (after.faults ≡ files.faults)
Gathers files after p (Missing ends.NoMemory) = Unit {0}
Gathers files after p (Missing (ends.Unread name)) =
    Reads files.contents p name × CountsOneFault (files.faults name) (after.faults name)
Gathers files after p (Missing (ends.Refused refusal)) =
    LeadsTo files.contents p (Err refusal) × (after.faults ≡ files.faults)
Gathers files after p (Missing _) = ⊥
