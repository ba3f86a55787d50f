-- How a stream ends, and what holds then.
use Rattle.std.specs.Prelude.{◌≡◌, ◌⊎◌, ℕ, List, Ok}
use Rattle.kernel_core.specs.Histories.{IsComplete}
use Rattle.kernel_core.specs.Runs.{run}
use Rattle.kernel_core.specs.Start.{Inputs, start}
use Rattle.lwc_io.specs.Outside.{appended}
use Rattle.lwc_text.specs.Report.{replies_text}
use Rattle.lwcrun_inputs.specs.Ends.{End, Outside, Ended, NothingFailed}
use Rattle.lwcrun_inputs.specs.Ends as ends
use Rattle.lwcrun_core.specs.Works.{IsText, Work}
use Rattle.lwcrun_core.specs.Works as works
use Rattle.lwcrun_inputs.specs.Plans.{LeadsTo, Plan}
use Rattle.lwcrun_inputs.specs.declared.ending.Rejection.{Rejection}

-- the plan leads to a stream, the replies of a complete history were written, and nothing failed
abbrev pub WroteReplies : Outside → Plan Rejection Work → Type 0
WroteReplies o p =
    (inputs : Inputs) × (steps : List ℕ) × LeadsTo o.files.contents p (Ok (works.Streaming inputs))
    × IsComplete (start inputs) steps
    × (o.out_after.taken ≡ appended o.out.taken (replies_text (run (start inputs) steps))) × NothingFailed o

-- what holds at each end of a stream's plan: memory may run out behind the replies, too
abbrev pub StreamEnded : Outside → Plan Rejection Work → End Rejection → Type 0
StreamEnded o p e = Ended IsText o p e ⊎ ((e ≡ ends.NoMemory) × WroteReplies o p)
