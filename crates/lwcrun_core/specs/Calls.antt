-- What a call of the program promises.
use Rattle.std.specs.Prelude.{◌≡◌, ◌⊎◌, ℕ, List, [], ◌∷◌, Option, None, Some, Result, Ok, Err, All}
use Rattle.lwc_io.specs.Outside.{FilesView, SinkView}
use Rattle.lwcrun_inputs.specs.declared.ending.Rejection.{Rejection}
use Rattle.lwcrun_inputs.specs.declared.status.ExitStatus.{ExitStatus}
use Rattle.lwcrun_inputs.specs.declared.status.ExitStatus.TheVariants as statuses
use Rattle.lwcrun_inputs.specs.Ends.{End, Outside, Ended, FetchFailed, IsUnwritten, WriteFailed}
use Rattle.lwcrun_inputs.specs.Ends as ends
use Rattle.lwcrun_core.specs.Works.{FileList, IsText, Work, plan_of, task_of}
use Rattle.lwcrun_line.specs.Lines.{Command, IsStream}
use Rattle.lwcrun_inputs.specs.Plans.{AreFetchesOf, FileContents, outcome}
use Rattle.lwcrun_inputs.specs.Reading.{Fetched}
use Rattle.lwcrun_core.specs.StreamEnds.{WroteReplies}
use Rattle.lwcrun_inputs.specs.Statuses.{IsAnswered, status_of_rejection}

-- what holds at each end of a command: what holds at that end of its plan; or a stream's memory ran out behind the
-- replies
abbrev pub CommandEnded : Outside → Command → End Rejection → Type 0
CommandEnded o command e =
    Ended IsText o (plan_of command) e
    ⊎ (IsStream command × (e ≡ ends.NoMemory) × WroteReplies o (plan_of command))

-- what holds at each end of a call: what holds at that end of the command; a line that is not accepted ends by that,
-- or out of memory, and nothing is fetched or written
unfoldable pub CallEnded : Outside → Option Command → End Rejection → Type 0
CallEnded o None e = ((e ≡ ends.Usage) ⊎ (e ≡ ends.NoMemory)) × IsUnwritten o × (o.files_after ≡ o.files)
CallEnded o (Some command) e = CommandEnded o command e

-- the line asks for a stream, and its replies were written and nothing else
abbrev pub WroteOnlyReplies : Outside → Option Command → Type 0
WroteOnlyReplies o asked =
    (command : Command) × (asked ≡ Some command) × IsStream command × WroteReplies o (plan_of command)

-- how a call ended, its exit status, and its message on the error output
abbrev pub Answers : Outside → Option Command → ExitStatus → SinkView → SinkView → Type 0
Answers o asked status err err_after =
    (e : End Rejection) × CallEnded o asked e × IsAnswered e status err err_after

-- this is the name of one of these files
abbrev pub IsNamed : FileList → List ℕ → Type 0
IsNamed [] q = ⊥
IsNamed (file ∷ files) q = (q ≡ file.1) ⊎ IsNamed files q

-- the files that a command names
abbrev pub Names : Command → List ℕ → Type 0
Names command q = IsNamed (task_of command).files q

-- a call fetched what its command's plan comes to, and nothing where the line is not accepted
abbrev pub FetchesPlan : Option Command → FilesView → FilesView → Type 0
FetchesPlan None files after = after.fetches ≡ files.fetches
FetchesPlan (Some command) files after =
    Fetched (AreFetchesOf files.contents (plan_of command)) files.fetches after.fetches

-- a call fetched no file but those that its command names, and nothing where the line is not accepted
abbrev pub FetchesNamed : Option Command → FilesView → FilesView → Type 0
FetchesNamed None files after = after.fetches ≡ files.fetches
FetchesNamed (Some command) files after =
    Fetched (All (λ f. Names command f.name)) files.fetches after.fetches

-- the files that the command names have these contents
abbrev pub AreContents : FileContents → Command → (List ℕ → List ℕ) → Type 0
AreContents files command bytes = (q : List ℕ) → Names command q → files q ≡ Some (bytes q)

-- a fetch of a file that the line names failed
abbrev pub FileFailed : Option Command → Outside → Type 0
FileFailed None o = ⊥
FileFailed (Some command) o = (q : List ℕ) × Names command q × FetchFailed o q

-- this is the exit status of a rejection to which the command leads over these contents
abbrev pub IsRejected : Command → (List ℕ → List ℕ) → ExitStatus → Type 0
IsRejected command bytes status =
    (rejection : Rejection) × (outcome bytes (plan_of command) ≡ Err rejection)
    × (status ≡ status_of_rejection rejection)

-- no fetch of a file that the command names failed, and no write of the text did
pub record NoFault (o : Outside) (command : Command) : Type 0 where
  pub files : (q : List ℕ) → Names command q → FetchFailed o q → ⊥
  pub out : WriteFailed o → ⊥

-- the files that the command names have these contents, and nothing failed
pub record IsUndisturbed (o : Outside) (command : Command) (bytes : List ℕ → List ℕ) : Type 0 where
  pub contents : AreContents o.files.contents command bytes
  pub faults : NoFault o command

-- the exit status of where a plan leads
abbrev pub status_by : Result Work Rejection → ExitStatus
status_by (Ok work) = statuses.Ok
status_by (Err rejection) = status_of_rejection rejection

-- the exit status is this one, or memory ran out
abbrev pub IsOrNoMemory : ExitStatus → ExitStatus → Type 0
IsOrNoMemory result status = (result ≡ status) ⊎ (result ≡ statuses.NoMemory)
