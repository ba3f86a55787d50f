-- Runs that a caller keeps as a value, and what it sees of them.
use Rattle.std.specs.Prelude.{◌≡◌, ◌≢◌, ◌<◌, ◌≤◌, ◌*◌, if◌then◌else◌, ℕ, zero, suc, List, [], Option, None, Some, Ok}
use Rattle.std.specs.Prelude.{Err, length, nat_lt, All}
use Rattle.std.specs.FinMap as fm
use Rattle.guest_image.specs.Reading.{image_at}
use Rattle.guest_image.specs.declared.image.Image.{Image}
use Rattle.kernel_core.specs.Kernel.{History, machine_of}
use Rattle.kernel_core.specs.Machine.{work}
use Rattle.kernel_core.specs.Runs.{kept, peak}
use Rattle.kernel_core.specs.Settings.{IsSettings}
use Rattle.kernel_core.specs.Start.{Inputs, start, thread_count}
use Rattle.kernel_core.specs.declared.settings.Job.{Job}
use Rattle.kernel_core.specs.declared.settings.Job.TheVariants as jobs
use Rattle.kernel_core.specs.declared.settings.Settings.{Settings}
use Rattle.kernel_core.specs.declared.thread.ThreadView.{ThreadView}
use Rattle.guest_image.specs.declared.fault.ImageRule.{ImageRule}
use Rattle.lwc_base.specs.Cells.{slot_at}
use Rattle.lwc_base.specs.Frames.{used}
use Rattle.lwc_base.specs.declared.descriptor.Descriptor.{Descriptor}
use Rattle.lwc_base.specs.declared.descriptor.Descriptor.TheVariants as descriptors
use Rattle.lwc_base.specs.Memory.{load}
use Rattle.lwc_base.specs.World.{World, is_live}
use Rattle.lwc_types.specs.Faults.{fault_number}
use Rattle.lwc_types.specs.declared.fault.ThreadStatus.{ThreadStatus}
use Rattle.lwc_types.specs.declared.fault.ThreadStatus.TheVariants as statuses
use Rattle.lwc_types.specs.Outcomes.{Refusal}
use Rattle.lwc_types.specs.declared.key.TheConstants.{SLOTS}
use Rattle.lwc_types.specs.declared.limits.TheConstants.{MOST_STEPS}
use Rattle.lwc_types.specs.declared.name.Name.{Name}
use Rattle.lwc_types.specs.declared.page.TheConstants.{PAGE_BYTES}
use Rattle.lwc_text.specs.Requests.{requests_at}
use Rattle.lwc_text.specs.declared.fault.InputRule.{InputRule}
use Rattle.run_views.specs.declared.runs.Run.{Run}
use Rattle.run_views.specs.declared.runs.RunError.{RunError}
use Rattle.run_views.specs.declared.runs.RunError.TheVariants as errors
use Rattle.run_views.specs.declared.shapes.SlotState.{SlotState}
use Rattle.run_views.specs.declared.shapes.ThreadState.{ThreadState}
use Rattle.run_views.specs.declared.shapes.Totals.{Totals}

-- what a kernel does for this number of workers: it runs the image's threads where there are none
abbrev pub job_for : ℕ → Job
job_for zero = jobs.Run
job_for (suc n) = jobs.Serve (suc n)

-- the settings of a run
abbrev pub settings_of : Run → Settings
settings_of run = record { frames = run.frames; budget = run.budget; job = job_for run.workers }

-- the requests of a job: none in a run, and else those that the bytes spell
abbrev pub AreRequestsOf : Job → List ℕ → List (List ℕ) → Type 0
AreRequestsOf jobs.Run bytes requests = (bytes ≡ []) × (requests ≡ [])
AreRequestsOf (jobs.Serve workers) bytes requests = requests_at bytes ≡ Ok requests

-- a run is opened with this: the image and the requests that its bytes spell, and its settings
pub record IsOpenedBy (run : Run) (inputs : Inputs) : Type 0 where
  pub image : image_at run.image.now ≡ Ok inputs.image
  pub vault : inputs.vault ≡ None
  pub requests : AreRequestsOf inputs.settings.job run.requests.now inputs.requests
  pub settings : inputs.settings ≡ settings_of run

-- a kernel is where a caller's run is: it was opened so, and has kept the steps of threads that had not ended
pub record IsAt (run : Run) (k : History) : Type 0 where
  pub inputs : IsOpenedBy run k.inputs
  pub steps : k.steps ≡ kept (start k.inputs) run.steps.now

-- the steps of a run are few enough, and each is of a thread that it has
pub record AreSteps (run : Run) : Type 0 where
  pub few : length run.steps.now ≤ MOST_STEPS
  pub threads : (inputs : Inputs) → IsOpenedBy run inputs → All (λ t. t < thread_count inputs) run.steps.now

-- bytes are no requests of a job: a run has none, and those of a serve break a rule
abbrev pub AreRefusedOf : Job → List ℕ → Type 0
AreRefusedOf jobs.Run bytes = bytes ≢ []
AreRefusedOf (jobs.Serve workers) bytes = (refusal : Refusal InputRule) × (requests_at bytes ≡ Err refusal)

-- the cause of an error, where no kernel is where a run is: what of it is refused
abbrev pub MayRefuse : Run → RunError → Type 0
MayRefuse run errors.OutOfMemory = Unit {0}
MayRefuse run errors.Image = (refusal : Refusal ImageRule) × (image_at run.image.now ≡ Err refusal)
MayRefuse run errors.Requests = AreRefusedOf (job_for run.workers) run.requests.now
MayRefuse run errors.TooLarge =
    (image : Image) × (image_at run.image.now ≡ Ok image) × (run.frames < length image.pages)
MayRefuse run errors.Settings = IsSettings (settings_of run) → ⊥
MayRefuse run errors.Steps = AreSteps run → ⊥
MayRefuse run errors.Missing = ⊥
MayRefuse run errors.Length = ⊥

-- this holds where a caller's run is
abbrev pub Sees : Run → (History → Type 0) → Type 0
Sees run holds = (k : History) × IsAt run k × holds k

-- the world of a kernel
abbrev pub world_of : History → World
world_of k = (machine_of k).environment.world

-- the bytes of a page, where the context is live and the page is there
abbrev pub page_at : World → Name → ℕ → Option (List ℕ)
page_at w name p =
    if is_live w name then (if nat_lt p w.size.pages then load w name (p * PAGE_BYTES) PAGE_BYTES else None) else None

-- what a slot has, where the context is live and has a slot of this number
abbrev pub slot_in : World → Name → ℕ → Option Descriptor
slot_in w name n = if is_live w name then (if nat_lt n SLOTS then Some (slot_at w name n) else None) else None

-- the size of a run as a caller sees it
abbrev pub totals_of : History → Totals
totals_of k = record {
  threads = thread_count k.inputs;
  steps = length k.steps;
  work = work (machine_of k);
  contexts = fm.len (world_of k).contexts;
  frames = used (world_of k);
  peak = peak (start k.inputs) k.steps;
}

-- the number of a status, and the code of one: of what a thread ended with, or the fault's
abbrev pub status_number : ThreadStatus → ℕ
status_number statuses.Idle = 0
status_number statuses.Running = 1
status_number (statuses.Done code) = 2
status_number (statuses.Faulted fault) = 3

abbrev pub status_code : ThreadStatus → ℕ
status_code statuses.Idle = 0
status_code statuses.Running = 0
status_code (statuses.Done code) = code
status_code (statuses.Faulted fault) = fault_number fault

-- a thread as a caller sees it
abbrev pub state_of : ThreadView → ThreadState
state_of view = record {
  code = status_code view.status;
  pc = view.regs.pc;
  registers = view.regs.r;
  status = status_number view.status;
  job = view.context.job;
  context = view.context.k;
}

-- a slot as a caller sees it: the number of its kind, and two numbers
abbrev pub slot_of : Descriptor → SlotState
slot_of descriptors.Empty = record { kind = 0; first = 0; second = 0 }
slot_of descriptors.Console = record { kind = 1; first = 0; second = 0 }
slot_of (descriptors.File file at) = record { kind = 2; first = file; second = at }
slot_of (descriptors.Request r at) = record { kind = 3; first = r; second = at }
slot_of (descriptors.Reply r) = record { kind = 4; first = r; second = 0 }
slot_of (descriptors.Ctx name cap) = record { kind = 5; first = name.job; second = name.k }

-- the number of an error
abbrev pub run_error_number : RunError → ℕ
run_error_number errors.OutOfMemory = 1
run_error_number errors.Image = 5
run_error_number errors.Requests = 6
run_error_number errors.TooLarge = 7
run_error_number errors.Settings = 10
run_error_number errors.Steps = 11
run_error_number errors.Missing = 12
run_error_number errors.Length = 13

-- a status that is not 0 is the number of an error of which this holds
abbrev pub SaysWhy : ℕ → (RunError → Type 0) → Type 0
SaysWhy status holds = status ≢ 0 → (error : RunError) × (status ≡ run_error_number error) × holds error
