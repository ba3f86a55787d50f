-- What comes of a line over files in memory.
use Rattle.std.specs.Prelude.{◌≡◌, ℕ, List, [], Some}
use Rattle.lwc_io.specs.Memory.{Named, bytes_of}
use Rattle.lwcrun_core.specs.Calls.{CallEnded}
use Rattle.lwcrun_inputs.specs.Statuses.{exit_number, message_of, status_of}
use Rattle.lwcrun_inputs.specs.declared.status.ExitStatus.{ExitStatus}
use Rattle.lwcrun_line.specs.Lines.{command_of}
use Rattle.lwcrun_inputs.specs.declared.ending.Rejection.{Rejection}
use Rattle.lwcrun_inputs.specs.Ends.{End, Outside}

-- a call over these files, whose output took these bytes and nothing before them, ended so
pub record EndedOver (words : List (List ℕ)) (files : List Named) (e : End Rejection) (output : List ℕ) : Type 0 where
  pub outside : Outside
  pub contents : outside.files.contents ≡ bytes_of files
  pub before : outside.out.taken ≡ Some []
  pub after : outside.out_after.taken ≡ Some output
  pub ended : CallEnded outside (command_of words) e

-- what came of a line over these files: what comes of it in the program, by the same clauses, with the status and the
-- message of that end
pub record IsOutcome (words : List (List ℕ)) (files : List Named) (status : ExitStatus)
    (output text : List ℕ) : Type 0 where
  pub end : End Rejection
  pub over : EndedOver words files end output
  pub by : status ≡ status_of end
  pub told : text ≡ message_of end

-- the same with the number of the status
abbrev pub IsAnswer : List (List ℕ) → List Named → ℕ → List ℕ → List ℕ → Type 0
IsAnswer words files number output text =
    (status : ExitStatus) × (number ≡ exit_number status) × IsOutcome words files status output text
