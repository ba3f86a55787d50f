-- What a call does: its work, its plan, and the text that it writes.
use Rattle.std.specs.Prelude.{◌≡◌, ℕ, List, [], ◌∷◌, Option, None, Some, Result}
use Rattle.guest_dis.specs.Listing.{listing}
use Rattle.lwc_types.specs.declared.limits.TheConstants.{MOST_IMAGE_BYTES, MOST_REQUEST_FILE_BYTES}
use Rattle.lwc_types.specs.declared.limits.TheConstants.{MOST_SCHEDULE_BYTES, MOST_SOURCE_BYTES, MOST_STEPS}
use Rattle.guest_image.specs.Limits.{lifted}
use Rattle.guest_image.specs.Spelling.{spelling}
use Rattle.guest_image.specs.declared.image.Form.TheVariants.{One}
use Rattle.guest_image.specs.declared.image.Image.{Image}
use Rattle.guest_image.specs.declared.image.Vault.{Vault}
use Rattle.kernel_core.specs.declared.settings.Settings.{Settings}
use Rattle.kernel_core.specs.Histories.{IsComplete}
use Rattle.kernel_core.specs.Start.{Inputs, inputs_of, start, threads_for}
use Rattle.lwc_gen.specs.Generated.{generated}
use Rattle.lwc_gen.specs.Summary.{summary_after}
use Rattle.lwc_debug.specs.Transcript.{transcript_of_schedule}
use Rattle.lwc_debug.specs.declared.command.Command as debug
use Rattle.lwc_debug.specs.declared.debugging.TheConstants.{MOST_DEBUGGED_STEPS}
use Rattle.lwc_debug.specs.declared.script.TheConstants.{MOST_SCRIPT_BYTES}
use Rattle.lwc_guard.specs.Reports.{guarded_text}
use Rattle.lwc_monitor.specs.Reports.{monitored_text}
use Rattle.lwc_text.specs.Report.{report_of_schedule, stream_text}
use Rattle.lwc_text.specs.declared.vault.TheConstants.{MOST_VAULT_BYTES}
use Rattle.lwcrun_inputs.specs.declared.ending.Rejection.{Rejection}
use Rattle.lwcrun_core.specs.Beside.{fitting_vault_for, script_of}
use Rattle.lwcrun_inputs.specs.Inputs.{bounded_requests_of, fitting_image_of, image_of}
use Rattle.lwcrun_inputs.specs.Inputs.{requests_of, schedule_of, source_of}
use Rattle.lwcrun_line.specs.Lines.{Command, default_settings}
use Rattle.lwcrun_line.specs.Lines as commands
use Rattle.lwcrun_inputs.specs.Plans.{Plan, Read, Write, accepted}

-- what is done when all inputs are accepted: the steps of a schedule, beside a vault if there is one; all steps of
-- threads that go on by themselves; the bytes of an image, or its source; all steps of a generated serve; the steps
-- of a schedule, in which contexts may be trapped, or trapped and guarded; the answers to a script in the steps of a schedule; all steps of
-- a serve, whose replies are written first
pub data Work : Type 0 where
  Replaying : Inputs → List ℕ → Work
  Running : Inputs → Work
  Spelling : Image → Work
  Disassembling : Image → Work
  Generating : ℕ → Work
  Monitoring : Inputs → List ℕ → Work
  Guarding : Inputs → List ℕ → Work
  Debugging : Inputs → List ℕ → List debug.Command → Work
  Streaming : Inputs → Work

-- the texts that a work may have; threads that go on by themselves may make any complete history
abbrev pub IsText : Work → List ℕ → Type 0
IsText (Replaying inputs schedule) text = text ≡ report_of_schedule inputs schedule
IsText (Running inputs) text =
    (steps : List ℕ) × IsComplete (start inputs) steps × (text ≡ report_of_schedule inputs steps)
IsText (Spelling image) text = text ≡ spelling image
IsText (Disassembling image) text = text ≡ listing image
IsText (Generating number) text =
    (steps : List ℕ) × IsComplete (start (generated number)) steps
    × (text ≡ summary_after (generated number) number steps)
IsText (Monitoring inputs schedule) text = text ≡ monitored_text inputs schedule
IsText (Guarding inputs schedule) text = text ≡ guarded_text inputs schedule
IsText (Debugging inputs schedule script) text = text ≡ transcript_of_schedule inputs schedule script
IsText (Streaming inputs) text =
    (steps : List ℕ) × IsComplete (start inputs) steps × (text ≡ stream_text inputs steps)

-- what is read as a file: an image whose pages fit the frames, or any image; the image of a source; the steps of a
-- schedule, at most this number; requests, or such that a serve of them takes no more steps than there may be; a vault
-- beside the image, with which the frames are tested; a script
pub data FileKind : Type 0 where
  FittingImage : FileKind
  AnyImage : FileKind
  Source : FileKind
  Schedule : ℕ → FileKind
  Requests : FileKind
  BoundedRequests : FileKind
  VaultFile : FileKind
  ScriptFile : FileKind

-- what was read so far: an image, a vault beside it if there is one, the steps of a schedule, requests, and the
-- commands of a script
pub record Gathered : Type 0 where
  pub image : Image
  pub vault : Option Vault
  pub steps : List ℕ
  pub requests : List (List ℕ)
  pub script : List debug.Command

-- an image of nothing, which no task reads a schedule by: each reads an image first
abbrev pub blank : Image
blank = record { form = One; text = []; uid = 0; pages = []; files = []; slots = []; entries = [] }

-- nothing was read
abbrev pub nothing_read : Gathered
nothing_read = record { image = blank; vault = None; steps = []; requests = []; script = [] }

-- an image and a schedule were read
abbrev pub scheduled : Image → List ℕ → Gathered
scheduled image steps = record nothing_read { image = image; steps = steps }

-- a file is read by a grammar, and what it is says what follows
abbrev pub read_by : {A : Type 0} → (List ℕ → Result A Rejection) → ℕ → List ℕ → (A → Plan Rejection Work) →
    Plan Rejection Work
read_by grammar limit name next = Read name limit (λ bytes. accepted (grammar bytes) next)

-- a file is read behind these parts and becomes one of them; then comes what follows
abbrev pub read_file : FileKind → List ℕ → Settings → Gathered → (Gathered → Plan Rejection Work) → Plan Rejection Work
read_file FittingImage name settings parts next =
    read_by (fitting_image_of settings.frames) MOST_IMAGE_BYTES name (λ x. next (record parts { image = x }))
read_file AnyImage name settings parts next =
    read_by image_of MOST_IMAGE_BYTES name (λ x. next (record parts { image = x }))
read_file Source name settings parts next =
    read_by source_of MOST_SOURCE_BYTES name (λ x. next (record parts { image = x }))
read_file (Schedule most) name settings parts next =
    read_by (schedule_of (threads_for parts.image settings.job) most) MOST_SCHEDULE_BYTES name
    (λ steps. next (record parts { steps = steps }))
read_file Requests name settings parts next =
    read_by requests_of MOST_REQUEST_FILE_BYTES name (λ asked. next (record parts { requests = asked }))
read_file BoundedRequests name settings parts next =
    read_by (bounded_requests_of settings) MOST_REQUEST_FILE_BYTES name
    (λ asked. next (record parts { requests = asked }))
read_file VaultFile name settings parts next =
    read_by (fitting_vault_for settings.frames parts.image) MOST_VAULT_BYTES name
    (λ v. next (record parts { vault = Some v }))
read_file ScriptFile name settings parts next =
    read_by script_of MOST_SCRIPT_BYTES name (λ script. next (record parts { script = script }))

-- files that are read in order, what each is read as and its name
abbrev pub FileList : Type 0
FileList = List (FileKind × List ℕ)

-- files are read behind these parts, each tested before the next, and then a work is done with all parts
abbrev pub read_files : FileList → Settings → (Gathered → Work) → Gathered → Plan Rejection Work
read_files [] settings work parts = Write (work parts)
read_files (file ∷ files) settings work parts =
    read_file file.0 file.1 settings parts (read_files files settings work)

-- the requests of a replay; a run has none
abbrev pub requests_named : Option (List ℕ) → FileList
requests_named None = []
requests_named (Some name) = (Requests, name) ∷ []

-- a command's task: the files that it reads in order, the settings that these are tested with, and what is done with
-- them
pub record Task : Type 0 where
  pub files : FileList
  pub settings : Settings
  pub work : Gathered → Work

-- a task of these
abbrev pub new_task : FileList → Settings → (Gathered → Work) → Task
new_task files settings work = record { files = files; settings = settings; work = work }

-- the steps of a schedule, plain, under traps or under guards
abbrev pub replay_task : (Inputs → List ℕ → Work) → List ℕ → List ℕ → Option (List ℕ) → Settings → Task
replay_task work image schedule requests settings =
    new_task ((FittingImage, image) ∷ (Schedule MOST_STEPS, schedule) ∷ requests_named requests) settings
    (λ p. work (inputs_of p.image p.requests settings) p.steps)

-- a serve or a stream
abbrev pub server_task : (Inputs → Work) → List ℕ → List ℕ → Settings → Task
server_task work image requests settings =
    new_task ((FittingImage, image) ∷ (BoundedRequests, requests) ∷ []) settings
    (λ p. work (inputs_of p.image p.requests settings))

-- the table of what commands read and do
abbrev pub task_of : Command → Task
task_of (commands.Replay image schedule requests settings) = replay_task Replaying image schedule requests settings
task_of (commands.Run image settings) =
    new_task ((FittingImage, image) ∷ []) settings (λ p. Running (inputs_of p.image [] settings))
task_of (commands.Serve image requests settings) = server_task Running image requests settings
task_of (commands.Asm source) = new_task ((Source, source) ∷ []) default_settings (λ p. Spelling p.image)
task_of (commands.Dis image) = new_task ((AnyImage, image) ∷ []) default_settings (λ p. Disassembling p.image)
task_of (commands.Gen number) = new_task [] default_settings (λ p. Generating number)
task_of (commands.Lift image) = new_task ((AnyImage, image) ∷ []) default_settings (λ p. Spelling (lifted p.image))
task_of (commands.Monitor image schedule settings) = replay_task Monitoring image schedule None settings
task_of (commands.Guard image schedule settings) = replay_task Guarding image schedule None settings
task_of (commands.Vault image vault schedule settings) =
    new_task ((AnyImage, image) ∷ (VaultFile, vault) ∷ (Schedule MOST_STEPS, schedule) ∷ []) settings
    (λ p. Replaying (record (inputs_of p.image [] settings) { vault = p.vault }) p.steps)
task_of (commands.Debug image schedule script settings) =
    new_task ((FittingImage, image) ∷ (Schedule MOST_DEBUGGED_STEPS, schedule) ∷ (ScriptFile, script) ∷ []) settings
    (λ p. Debugging (inputs_of p.image [] settings) p.steps p.script)
task_of (commands.Stream image requests settings) = server_task Streaming image requests settings

-- what is done by a task
unfoldable pub plan_by : Task → Plan Rejection Work
plan_by task = read_files task.files task.settings task.work nothing_read

-- what a command does
abbrev pub plan_of : Command → Plan Rejection Work
plan_of command = plan_by (task_of command)
