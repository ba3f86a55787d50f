-- What the requests of a serve may rely on.
use Rattle.std.specs.Prelude.{◌≡◌, ◌⊎◌, ◌<◌, ◌++◌, ℕ, List, Option, Some, length, map}
use Rattle.std.specs.Option.{option_map}
use Rattle.kernel_core.specs.Machine.{reply_of}
use Rattle.kernel_core.specs.Runs.{run}
use Rattle.kernel_core.specs.Start.{Inputs, start}
use Rattle.lwc_base.specs.Channels.{bytes_in}
use Rattle.lwc_gen.specs.Generated.{generated}
use Rattle.lwc_gen.specs.Summary.{recorded_reply, summary_line, totals_of}
use Rattle.lwc_names.specs.Numbered.{numbered}
use Rattle.request_isolation.specs.Alone.{alone}
use Rattle.kernel_core.specs.declared.settings.Job.TheVariants as jobs
use Rattle.request_isolation.specs.Needs.{HadFrames, HasFrames, IsShort}
use Rattle.request_isolation.specs.Replies.{HasReply}
use Rattle.snapshot_host.specs.declared.finishing.Finished.{Finished}

-- each request has a reply
abbrev pub EachHasReply : Inputs → List ℕ → Type 0
EachHasReply inputs steps = (r : ℕ) → r < length inputs.requests → HasReply (run (start inputs) steps) r

-- what a request with these bytes is replied by itself, as request 0
abbrev pub reply_alone : Inputs → List ℕ → Option Finished
reply_alone inputs bytes = alone inputs.image inputs.settings.budget 0 bytes

-- there are frames for as many requests at once as there are workers, or two more than the peak that is printed
abbrev pub HasEnough : Inputs → List ℕ → Type 0
HasEnough inputs steps = HasFrames inputs ⊎ HadFrames inputs steps

-- where there are enough frames, each reply has the status and the
-- bytes that a request with the same bytes gets by itself, as request 0; it bears its request's number
abbrev pub RepliesAreAlone : Inputs → List ℕ → Type 0
RepliesAreAlone inputs steps =
    HasEnough inputs steps → (r : ℕ) (told : Finished) → reply_of (run (start inputs) steps) r ≡ Some told →
    option_map (numbered r) (reply_alone inputs (bytes_in inputs.requests r)) ≡ Some told

-- in a serve with such frames, no thread's next step finds too few, after each beginning of these steps
abbrev pub NoneIsShort : Inputs → List ℕ → Type 0
NoneIsShort inputs steps =
    (workers : ℕ) → inputs.settings.job ≡ jobs.Serve workers → HasEnough inputs steps →
    (before rest : List ℕ) (t : ℕ) → steps ≡ before ++ rest → IsShort (run (start inputs) before) t → ⊥

-- the summary of the replies that generated requests get, each by itself
abbrev pub summary_alone : ℕ → List ℕ
summary_alone number =
    summary_line number
    (totals_of (map (λ bytes. recorded_reply (reply_alone (generated number) bytes)) (generated number).requests))
