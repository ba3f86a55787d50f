-- What is promised of each mode whose text was written.
use Rattle.std.specs.Prelude.{◌≡◌, ◌≢◌, ◌≤◌, ◌+◌, ℕ, List, [], Option, None, Some, Ok, All, length}
use Rattle.confinement.specs.EachStep.{IsConfinedRun}
use Rattle.guest_asm.specs.Drafts.{assembled}
use Rattle.guest_dis.specs.Listing.{listing}
use Rattle.guest_image.specs.Limits.{IsImage, lifted, pages_of}
use Rattle.guest_image.specs.Spelling.{spelling}
use Rattle.guest_image.specs.declared.image.Image.{Image}
use Rattle.guest_image.specs.declared.image.TheConstants.{VAULT_SLOT}
use Rattle.guest_image.specs.declared.image.Vault.{Vault}
use Rattle.kernel_core.specs.Histories.{IsComplete}
use Rattle.kernel_core.specs.Runs.{kept, run}
use Rattle.kernel_core.specs.Start.{Inputs, inputs_of, start, threads_for}
use Rattle.kernel_core.specs.declared.settings.Settings.{Settings}
use Rattle.lift_law.specs.Lifting.{RunsLifted}
use Rattle.lwc_types.specs.declared.limits.TheConstants.{MOST_STEPS}
use Rattle.lwc_debug.specs.Scripts.{IsScript}
use Rattle.lwc_debug.specs.Transcript.{transcript_of_schedule}
use Rattle.lwc_debug.specs.declared.command.Command as debug
use Rattle.lwc_debug.specs.declared.debugging.TheConstants.{MOST_DEBUGGED_STEPS}
use Rattle.lwc_gen.specs.Generated.{generated}
use Rattle.lwc_gen.specs.Summary.{summary_after}
use Rattle.lwc_io.specs.Outside.{appended}
use Rattle.lwc_guard.specs.Promises.{IsGuardedRun}
use Rattle.lwc_guard.specs.Reports.{guarded_text}
use Rattle.lwc_monitor.specs.Promises.{IsMonitoredRun}
use Rattle.lwc_monitor.specs.Reports.{monitored_text}
use Rattle.lwc_text.specs.Lines.{steps_text}
use Rattle.lwc_text.specs.Report.{report_of_schedule, stream_text}
use Rattle.lwc_text.specs.Requests.{IsRequestFile}
use Rattle.lwc_text.specs.Schedules.{IsSchedule}
use Rattle.lwc_text.specs.VaultFiles.{IsVaultFile}
use Rattle.lwc_vault.specs.Secrets.{KeepsSecret, beside}
use Rattle.lwcrun_core.specs.Serving.{EachHasReply, HasEnough, NoneIsShort, RepliesAreAlone, summary_alone}
use Rattle.lwcrun_line.specs.Lines.{Command}
use Rattle.lwcrun_line.specs.Lines as commands
use Rattle.lwcrun_inputs.specs.Ends.{Outside}
use Rattle.lwcrun_inputs.specs.Inputs.{serve_steps}
use Rattle.kernel_core.specs.declared.settings.Job.TheVariants as jobs
use Rattle.request_isolation.specs.Restored.{AllRest, IsRestored}

-- the bytes are an image, whose pages fit the frames
pub record IsFitting (settings : Settings) (bytes : List ℕ) (x : Image) : Type 0 where
  pub image : IsImage x
  pub spelled : bytes ≡ spelling x
  pub fits : length x.pages ≤ settings.frames

-- the requests of a replay: those in the file of this name; a run has none
abbrev pub AreRequestsIn : Option (List ℕ) → (List ℕ → List ℕ) → List (List ℕ) → Type 0
AreRequestsIn None bytes asked = asked ≡ []
AreRequestsIn (Some name) bytes asked = IsRequestFile (bytes name) asked

-- a replay's files are accepted: an image, a schedule of its threads, and requests
pub record IsReplay
    (bytes : List ℕ → List ℕ) (image schedule : List ℕ) (requests : Option (List ℕ)) (settings : Settings)
    (x : Image) (steps : List ℕ) (asked : List (List ℕ)) : Type 0 where
  pub guest : IsFitting settings (bytes image) x
  pub scheduled : IsSchedule (threads_for x settings.job) MOST_STEPS (bytes schedule) steps
  pub requested : AreRequestsIn requests bytes asked

-- the files of a replay beside a vault are accepted: an image, a vault for it, whose slot it leaves free and whose
-- pages fit the frames together with its own, and a schedule of its threads
pub record IsVaultReplay
    (bytes : List ℕ → List ℕ) (image vault schedule : List ℕ) (settings : Settings)
    (x : Image) (v : Vault) (steps : List ℕ) : Type 0 where
  pub guest : IsImage x
  pub spelled : bytes image ≡ spelling x
  pub secret : IsVaultFile (length x.text) (pages_of x.form) (bytes vault) v
  pub free : All (λ s. s.slot ≢ VAULT_SLOT) x.slots
  pub fits : length x.pages + length v.pages ≤ settings.frames
  pub scheduled : IsSchedule (threads_for x settings.job) MOST_STEPS (bytes schedule) steps

-- a debugged run's files are accepted: an image, a schedule of its threads, and a script
pub record IsDebugged
    (bytes : List ℕ → List ℕ) (image schedule script : List ℕ) (settings : Settings)
    (x : Image) (steps : List ℕ) (asked : List debug.Command) : Type 0 where
  pub guest : IsFitting settings (bytes image) x
  pub scheduled : IsSchedule (threads_for x settings.job) MOST_DEBUGGED_STEPS (bytes schedule) steps
  pub scripted : IsScript (bytes script) asked

-- a serve's files are accepted: an image, and requests that take no more steps than there may be
pub record IsServe
    (bytes : List ℕ → List ℕ) (image requests : List ℕ) (settings : Settings)
    (x : Image) (asked : List (List ℕ)) : Type 0 where
  pub guest : IsFitting settings (bytes image) x
  pub requested : IsRequestFile (bytes requests) asked
  pub few : serve_steps settings (length asked) ≤ MOST_STEPS

-- the text was written, and nothing else
abbrev pub Wrote : Outside → List ℕ → Type 0
Wrote o text = o.out_after.taken ≡ appended o.out.taken text

-- the steps of a schedule that are kept
abbrev pub kept_of : Inputs → List ℕ → List ℕ
kept_of inputs schedule = kept (start inputs) schedule

-- what a report prints of its steps is a schedule of them for a replay of these inputs
abbrev pub IsListed : Inputs → List ℕ → Type 0
IsListed inputs steps =
    IsSchedule (threads_for inputs.image inputs.settings.job) MOST_STEPS (steps_text steps) steps

-- threads made some complete history of these inputs, and its report was written: each step is confined, and a replay
-- may have the list of steps that the report prints
pub record WroteHistory (o : Outside) (inputs : Inputs) : Type 0 where
  pub steps : List ℕ
  pub complete : IsComplete (start inputs) steps
  pub confined : IsConfinedRun inputs steps
  pub listed : IsListed inputs steps
  pub text : Wrote o (report_of_schedule inputs steps)

-- workers made some complete history of this serve, and this text of it was written: each request has a reply; with
-- enough frames that is the one which the request gets by itself, and no step finds too few; at the end nothing is
-- left of the requests; each step is confined, and a replay may have the list of steps that the text prints
pub record WroteServe (tell : Inputs → List ℕ → List ℕ) (o : Outside) (inputs : Inputs) : Type 0 where
  pub steps : List ℕ
  pub complete : IsComplete (start inputs) steps
  pub replied : EachHasReply inputs steps
  pub alone : RepliesAreAlone inputs steps
  pub spared : NoneIsShort inputs steps
  pub restored : IsRestored inputs (run (start inputs) steps)
  pub confined : IsConfinedRun inputs steps
  pub listed : IsListed inputs steps
  pub text : Wrote o (tell inputs steps)

-- in a serve of which no worker serves a request after these steps, nothing is left of the requests
abbrev pub RestoresAtRest : Inputs → List ℕ → Type 0
RestoresAtRest inputs steps =
    (workers : ℕ) → inputs.settings.job ≡ jobs.Serve workers → AllRest (run (start inputs) steps)
    → IsRestored inputs (run (start inputs) steps)

-- `replay`: the files are accepted, and the report of the steps that are kept was written; of these steps each is
-- confined, and in a serve, with enough frames, replies are those of the requests alone and no step finds too few; at
-- rest nothing is left of the requests
pub record WroteReplay
    (o : Outside) (bytes : List ℕ → List ℕ) (image schedule : List ℕ) (requests : Option (List ℕ))
    (settings : Settings) : Type 0 where
  pub guest : Image
  pub steps : List ℕ
  pub asked : List (List ℕ)
  pub accepted : IsReplay bytes image schedule requests settings guest steps asked
  pub alone : let inputs = inputs_of guest asked settings in RepliesAreAlone inputs (kept_of inputs steps)
  pub spared : let inputs = inputs_of guest asked settings in NoneIsShort inputs (kept_of inputs steps)
  pub restored : let inputs = inputs_of guest asked settings in RestoresAtRest inputs (kept_of inputs steps)
  pub confined : let inputs = inputs_of guest asked settings in IsConfinedRun inputs (kept_of inputs steps)
  pub text : Wrote o (report_of_schedule (inputs_of guest asked settings) steps)

-- `run`: the file is accepted, and a history of its threads was written
pub record WroteRun (o : Outside) (bytes : List ℕ) (settings : Settings) : Type 0 where
  pub guest : Image
  pub accepted : IsFitting settings bytes guest
  pub history : WroteHistory o (inputs_of guest [] settings)

-- `serve` and `stream`: the files are accepted, and this text of a serve was written
pub record WroteServed
    (tell : Inputs → List ℕ → List ℕ) (o : Outside) (bytes : List ℕ → List ℕ) (image requests : List ℕ)
    (settings : Settings) : Type 0 where
  pub guest : Image
  pub asked : List (List ℕ)
  pub accepted : IsServe bytes image requests settings guest asked
  pub serve : WroteServe tell o (inputs_of guest asked settings)

-- `asm`: the source is one of an image, and the bytes of the image were written
pub record WroteImage (o : Outside) (source : List ℕ) : Type 0 where
  pub guest : Image
  pub accepted : assembled source ≡ Ok guest
  pub text : Wrote o (spelling guest)

-- `dis`: the bytes are those of an image, and its source was written
pub record WroteSource (o : Outside) (bytes : List ℕ) : Type 0 where
  pub guest : Image
  pub image : IsImage guest
  pub spelled : bytes ≡ spelling guest
  pub text : Wrote o (listing guest)

-- `lift`: the bytes are those of an image, and those of the lifted one were written, which runs the same where no
-- step meets a limit of pages
pub record WroteLifted (o : Outside) (bytes : List ℕ) : Type 0 where
  pub guest : Image
  pub image : IsImage guest
  pub spelled : bytes ≡ spelling guest
  pub same : RunsLifted guest
  pub text : Wrote o (spelling (lifted guest))

-- `gen`: workers made some complete history of the generated serve, and its summary was written, with enough frames
-- that of the replies which the requests get by themselves
pub record WroteSummary (o : Outside) (number : ℕ) : Type 0 where
  pub steps : List ℕ
  pub complete : IsComplete (start (generated number)) steps
  pub confined : IsConfinedRun (generated number) steps
  pub spared : NoneIsShort (generated number) steps
  pub alone : HasEnough (generated number) steps →
      summary_after (generated number) number steps ≡ summary_alone number
  pub text : Wrote o (summary_after (generated number) number steps)

-- `monitor`: the files are accepted, and the report of the steps that are kept under traps was written; these leave
-- trapped contexts, and all others, as they should
pub record WroteMonitored
    (o : Outside) (bytes : List ℕ → List ℕ) (image schedule : List ℕ) (settings : Settings) : Type 0 where
  pub guest : Image
  pub steps : List ℕ
  pub accepted : IsReplay bytes image schedule None settings guest steps []
  pub monitored : IsMonitoredRun (inputs_of guest [] settings) steps
  pub text : Wrote o (monitored_text (inputs_of guest [] settings) steps)

-- `guard`: the files are accepted, and the report of the steps that are kept under guards was written; these give
-- threads back to their monitors
pub record WroteGuarded
    (o : Outside) (bytes : List ℕ → List ℕ) (image schedule : List ℕ) (settings : Settings) : Type 0 where
  pub guest : Image
  pub steps : List ℕ
  pub accepted : IsReplay bytes image schedule None settings guest steps []
  pub guarded : IsGuardedRun (inputs_of guest [] settings) steps
  pub text : Wrote o (guarded_text (inputs_of guest [] settings) steps)

-- `vault`: the files are accepted, and the report of the steps that are kept beside the vault was written; it tells
-- no more of the vault than this hands out, and each step is confined
pub record WroteBeside
    (o : Outside) (bytes : List ℕ → List ℕ) (image vault schedule : List ℕ) (settings : Settings) : Type 0 where
  pub guest : Image
  pub kept_vault : Vault
  pub steps : List ℕ
  pub accepted : IsVaultReplay bytes image vault schedule settings guest kept_vault steps
  pub secret : KeepsSecret (inputs_of guest [] settings) kept_vault steps
  pub confined : let inputs = beside (inputs_of guest [] settings) kept_vault in
      IsConfinedRun inputs (kept_of inputs steps)
  pub text : Wrote o (report_of_schedule (beside (inputs_of guest [] settings) kept_vault) steps)

-- `debug`: the files are accepted, and the answers to the script were written, each at its place of the steps that are
-- kept; each of these is confined
pub record WroteAnswers
    (o : Outside) (bytes : List ℕ → List ℕ) (image schedule script : List ℕ) (settings : Settings) : Type 0 where
  pub guest : Image
  pub steps : List ℕ
  pub asked : List debug.Command
  pub accepted : IsDebugged bytes image schedule script settings guest steps asked
  pub confined : let inputs = inputs_of guest [] settings in IsConfinedRun inputs (kept_of inputs steps)
  pub text : Wrote o (transcript_of_schedule (inputs_of guest [] settings) steps asked)

-- what is promised of a command over the contents of its files, by its mode
abbrev pub Headline : Outside → Command → (List ℕ → List ℕ) → Type 0
Headline o (commands.Replay image schedule requests settings) bytes =
    WroteReplay o bytes image schedule requests settings
Headline o (commands.Run image settings) bytes = WroteRun o (bytes image) settings
Headline o (commands.Serve image requests settings) bytes =
    WroteServed report_of_schedule o bytes image requests settings
Headline o (commands.Asm source) bytes = WroteImage o (bytes source)
Headline o (commands.Dis image) bytes = WroteSource o (bytes image)
Headline o (commands.Gen number) bytes = WroteSummary o number
Headline o (commands.Lift image) bytes = WroteLifted o (bytes image)
Headline o (commands.Monitor image schedule settings) bytes = WroteMonitored o bytes image schedule settings
Headline o (commands.Guard image schedule settings) bytes = WroteGuarded o bytes image schedule settings
Headline o (commands.Vault image vault schedule settings) bytes = WroteBeside o bytes image vault schedule settings
Headline o (commands.Debug image schedule script settings) bytes = WroteAnswers o bytes image schedule script settings
Headline o (commands.Stream image requests settings) bytes =
    WroteServed stream_text o bytes image requests settings

-- the contents of the command's files are accepted
abbrev pub IsRunnable : Command → (List ℕ → List ℕ) → Type 0
IsRunnable (commands.Replay image schedule requests settings) bytes =
    (x : Image) × (steps : List ℕ) × (asked : List (List ℕ))
    × IsReplay bytes image schedule requests settings x steps asked
IsRunnable (commands.Run image settings) bytes = (x : Image) × IsFitting settings (bytes image) x
IsRunnable (commands.Serve image requests settings) bytes =
    (x : Image) × (asked : List (List ℕ)) × IsServe bytes image requests settings x asked
IsRunnable (commands.Asm source) bytes = (x : Image) × (assembled (bytes source) ≡ Ok x)
IsRunnable (commands.Dis image) bytes = (x : Image) × IsImage x × (bytes image ≡ spelling x)
IsRunnable (commands.Gen number) bytes = Unit {0}
IsRunnable (commands.Lift image) bytes = (x : Image) × IsImage x × (bytes image ≡ spelling x)
IsRunnable (commands.Monitor image schedule settings) bytes =
    (x : Image) × (steps : List ℕ) × IsReplay bytes image schedule None settings x steps []
IsRunnable (commands.Guard image schedule settings) bytes =
    (x : Image) × (steps : List ℕ) × IsReplay bytes image schedule None settings x steps []
IsRunnable (commands.Vault image vault schedule settings) bytes =
    (x : Image) × (v : Vault) × (steps : List ℕ) × IsVaultReplay bytes image vault schedule settings x v steps
IsRunnable (commands.Debug image schedule script settings) bytes =
    (x : Image) × (steps : List ℕ) × (asked : List debug.Command)
    × IsDebugged bytes image schedule script settings x steps asked
IsRunnable (commands.Stream image requests settings) bytes =
    (x : Image) × (asked : List (List ℕ)) × IsServe bytes image requests settings x asked
