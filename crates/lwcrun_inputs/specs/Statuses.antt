-- The exit status of each end, and its message.
use Rattle.std.specs.Prelude.{◌≡◌, ◌⊎◌, ℕ, List, [], ◌∷◌, ◌++◌, codes, decimal}
use Rattle.guest_asm.specs.Rules as sources
use Rattle.guest_image.specs.Rules as images
use Rattle.lwc_io.specs.Outside.{CountsOneFault, IsPartTaken, SinkView, appended}
use Rattle.lwc_text.specs.Rules as inputs
use Rattle.lwcrun_inputs.specs.declared.ending.Rejection.{Rejection}
use Rattle.lwcrun_inputs.specs.declared.ending.Rejection.TheVariants as rejections
use Rattle.lwcrun_inputs.specs.declared.status.ExitStatus.{ExitStatus}
use Rattle.lwcrun_inputs.specs.declared.status.ExitStatus.TheVariants as statuses
use Rattle.lwcrun_inputs.specs.Ends.{End}
use Rattle.lwcrun_inputs.specs.Ends as ends

-- the number of an exit status
abbrev pub exit_number : ExitStatus → ℕ
exit_number statuses.Ok = 0
exit_number statuses.NoMemory = 1
exit_number statuses.Usage = 2
exit_number statuses.ReadFault = 3
exit_number statuses.WriteFault = 4
exit_number statuses.ImageRefused = 5
exit_number statuses.InputRefused = 6
exit_number statuses.ImageTooLarge = 7

-- the exit status of a refused input
abbrev pub status_of_rejection : Rejection → ExitStatus
status_of_rejection (rejections.Image rule at) = statuses.ImageRefused
status_of_rejection (rejections.Source rule at) = statuses.ImageRefused
status_of_rejection (rejections.Input rule at) = statuses.InputRefused
status_of_rejection (rejections.TooLarge pages frames) = statuses.ImageTooLarge

-- the exit status of an end
abbrev pub status_of : End Rejection → ExitStatus
status_of ends.Done = statuses.Ok
status_of ends.NoMemory = statuses.NoMemory
status_of ends.Usage = statuses.Usage
status_of (ends.Unread name) = statuses.ReadFault
status_of ends.Unwritten = statuses.WriteFault
status_of (ends.Refused rejection) = status_of_rejection rejection

-- a message: these words behind the program's name
abbrev pub message : List ℕ → List ℕ
message words = codes "lwcrun: " ++ words ++ 10 ∷ []

-- the words of a usage message
abbrev pub usage_words : List ℕ
usage_words =
    codes "usage: lwcrun replay IMAGE SCHEDULE [REQUESTS], run IMAGE, serve IMAGE REQUESTS, "
    ++ codes "asm SOURCE, dis IMAGE, gen NUMBER, lift IMAGE, monitor IMAGE SCHEDULE, vault IMAGE VAULT SCHEDULE, "
    ++ codes "debug IMAGE SCHEDULE SCRIPT, stream IMAGE REQUESTS, guard IMAGE SCHEDULE; "
    ++ codes "--frames F --budget B --workers W"

-- why an input was refused, in words
abbrev pub rejection_words : Rejection → List ℕ
rejection_words (rejections.Image rule at) =
    codes "image refused: " ++ images.rule_name rule ++ codes " at " ++ decimal at
rejection_words (rejections.Source rule at) =
    codes "image refused: " ++ sources.rule_name rule ++ codes " at " ++ decimal at
rejection_words (rejections.Input rule at) =
    codes "input refused: " ++ inputs.rule_name rule ++ codes " at " ++ decimal at
rejection_words (rejections.TooLarge pages frames) =
    codes "image has " ++ decimal pages ++ codes " pages, frames are " ++ decimal frames

-- the message of an end: none where all was written, and else one line
unfoldable pub message_of : End Rejection → List ℕ
message_of ends.Done = []
message_of ends.NoMemory = message (codes "no memory")
message_of ends.Usage = message usage_words
message_of (ends.Unread name) = message (codes "cannot read " ++ name)
message_of ends.Unwritten = message (codes "cannot write")
message_of (ends.Refused rejection) = message (rejection_words rejection)

-- a sink took a text and nothing else, and no write failed; or one did, and it took the first bytes and
-- nothing else
abbrev pub Takes : List ℕ → SinkView → SinkView → Type 0
Takes text before after =
    ((after.taken ≡ appended before.taken text) × (after.faults ≡ before.faults))
    ⊎ (IsPartTaken before.taken after.taken text × CountsOneFault before.faults after.faults)

-- an end was answered by its exit status and its message; where there is none, nothing was done to the error
-- output
pub record IsAnswered (e : End Rejection) (status : ExitStatus) (err err_after : SinkView) : Type 0 where
  pub by : status ≡ status_of e
  pub message : Takes (message_of e) err err_after
  pub quiet : e ≡ ends.Done → err_after ≡ err

-- the end that is answered: the end itself, or out of memory where there was none for the message of a refusal
abbrev pub MayBeAnsweredAs : End Rejection → End Rejection → Type 0
MayBeAnsweredAs (ends.Refused rejection) e = (e ≡ ends.Refused rejection) ⊎ (e ≡ ends.NoMemory)
MayBeAnsweredAs end e = e ≡ end
