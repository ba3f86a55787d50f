-- How a call of the program ends, and what holds then.
use Rattle.std.specs.Prelude.{◌≡◌, ℕ, List, Ok, Err}
use Rattle.lwc_io.specs.Outside.{CountsOneFault, FilesView, IsPartTaken, SinkView, appended}
use Rattle.lwcrun_inputs.specs.Plans.{Plan, LeadsTo, Reads}

-- the ends: all was written; out of memory; the line is not accepted; a file was not read; the text was not
-- written whole; an input was refused
pub data End (R : Type 0) : Type 0 where
  Done : End R
  NoMemory : End R
  Usage : End R
  Unread : List ℕ → End R
  Unwritten : End R
  Refused : R → End R

-- the files and the output of a call, before it and after it
pub record Outside : Type 0 where
  pub files : FilesView
  pub files_after : FilesView
  pub out : SinkView
  pub out_after : SinkView

-- the output is as it was: nothing was written to it, and no write failed
abbrev pub IsUnwritten : Outside → Type 0
IsUnwritten o = o.out_after ≡ o.out

-- no fetch failed: the count of faults of each name is what it was
abbrev pub NoFetchFailed : Outside → Type 0
NoFetchFailed o = o.files_after.faults ≡ o.files.faults

-- nothing failed: each count of faults is what it was
pub record NothingFailed (o : Outside) : Type 0 where
  pub files : NoFetchFailed o
  pub out : o.out_after.faults ≡ o.out.faults

-- one fetch of the file of that name failed
abbrev pub FetchFailed : Outside → List ℕ → Type 0
FetchFailed o name = CountsOneFault (o.files.faults name) (o.files_after.faults name)

-- one write to the output failed
abbrev pub WriteFailed : Outside → Type 0
WriteFailed o = CountsOneFault o.out.faults o.out_after.faults

-- what holds at each end of a plan, where `IsText work text` says which texts a work may have
unfoldable pub Ended : {R W : Type 0} → (W → List ℕ → Type 0) → Outside → Plan R W → End R → Type 0
Ended {R} {W} IsText o p Done =
    (work : W) × LeadsTo o.files.contents p (Ok work)
    × ((text : List ℕ) × IsText work text × (o.out_after.taken ≡ appended o.out.taken text))
    × NothingFailed o
Ended {R} {W} IsText o p NoMemory = IsUnwritten o
Ended {R} {W} IsText o p Usage = ⊥
Ended {R} {W} IsText o p (Unread name) = Reads o.files.contents p name × FetchFailed o name × IsUnwritten o
Ended {R} {W} IsText o p Unwritten =
    (work : W) × LeadsTo o.files.contents p (Ok work)
    × ((text : List ℕ) × IsText work text × IsPartTaken o.out.taken o.out_after.taken text) × WriteFailed o
    × NoFetchFailed o
Ended {R} {W} IsText o p (Refused refusal) =
    LeadsTo o.files.contents p (Err refusal) × IsUnwritten o × NoFetchFailed o
