-- The inputs of a call.
use Rattle.std.specs.Prelude.{ℕ, ◌+◌, ◌*◌, if◌then◌else◌, nat_lt, length, List, Result, Ok, Err}
use Rattle.lwc_types.specs.Outcomes.{Refusal}
use Rattle.guest_asm.specs.Drafts.{assembled}
use Rattle.guest_image.specs.declared.image.Image.{Image}
use Rattle.guest_image.specs.Reading.{image_at}
use Rattle.kernel_core.specs.declared.settings.Job.{Job}
use Rattle.kernel_core.specs.declared.settings.Job.TheVariants.{Run, Serve}
use Rattle.kernel_core.specs.declared.settings.Settings.{Settings}
use Rattle.lwc_types.specs.declared.limits.TheConstants.{MOST_STEPS}
use Rattle.lwc_text.specs.Requests.{requests_at}
use Rattle.lwc_text.specs.Schedules.{schedule_at}
use Rattle.lwc_text.specs.declared.fault.InputRule.TheVariants.{TooMuchWork}
use Rattle.lwcrun_inputs.specs.declared.ending.Rejection.{Rejection}
use Rattle.lwcrun_inputs.specs.declared.ending.Rejection.TheVariants as rejections

-- what was read, or the rejection of a refusal
abbrev pub or_rejected : {R A : Type 0} → (R → ℕ → Rejection) → Result A (Refusal R) → Result A Rejection
or_rejected reject (Ok x) = Ok x
or_rejected reject (Err refusal) = Err (reject refusal.rule refusal.at)

-- what was read is tested further, or was rejected
abbrev pub then_tested : {A B : Type 0} → Result A Rejection → (A → Result B Rejection) → Result B Rejection
then_tested (Ok x) test = test x
then_tested (Err rejection) test = Err rejection

-- bytes that are no more than a limit; else they are rejected by this
abbrev pub within_limit : ℕ → Rejection → List ℕ → Result (List ℕ) Rejection
within_limit limit too_long bytes = if nat_lt limit (length bytes) then Err too_long else Ok bytes

-- the image that bytes spell, or why they are rejected
unfoldable pub image_of : List ℕ → Result Image Rejection
image_of bytes = or_rejected rejections.Image (image_at bytes)

-- an image whose pages fit the frames; else it is rejected
abbrev pub fitted : ℕ → Image → Result Image Rejection
fitted frames image =
    if nat_lt frames (length image.pages) then Err (rejections.TooLarge (length image.pages) frames) else Ok image

-- the image that bytes spell, where its pages fit the frames, or why they are rejected
unfoldable pub fitting_image_of : ℕ → List ℕ → Result Image Rejection
fitting_image_of frames bytes = then_tested (image_of bytes) (fitted frames)

-- the image that a source makes, or why the source is rejected
unfoldable pub source_of : List ℕ → Result Image Rejection
source_of bytes = or_rejected rejections.Source (assembled bytes)

-- the steps that bytes name for a number of threads, at most this number, or why they are rejected
unfoldable pub schedule_of : ℕ → ℕ → List ℕ → Result (List ℕ) Rejection
schedule_of threads most bytes = or_rejected rejections.Input (schedule_at threads most bytes)

-- the requests that bytes spell, or why they are rejected
unfoldable pub requests_of : List ℕ → Result (List (List ℕ)) Rejection
requests_of bytes = or_rejected rejections.Input (requests_at bytes)

-- the number of workers of a job; a run has none
abbrev pub worker_count : Job → ℕ
worker_count Run = 0
worker_count (Serve workers) = workers

-- the most steps of a serve: for each request its budget and one more, and one for each worker
abbrev pub serve_steps : Settings → ℕ → ℕ
serve_steps settings requests = requests * (settings.budget + 1) + worker_count settings.job

-- requests whose serve takes no more steps than there may be; else they are rejected at the end of their file
abbrev pub bounded : Settings → ℕ → List (List ℕ) → Result (List (List ℕ)) Rejection
bounded settings end requests =
    if nat_lt MOST_STEPS (serve_steps settings (length requests)) then Err (rejections.Input TooMuchWork end)
    else Ok requests

-- the requests that bytes spell, where their serve takes no more steps than there may be, or why they are
-- rejected
unfoldable pub bounded_requests_of : Settings → List ℕ → Result (List (List ℕ)) Rejection
bounded_requests_of settings bytes = then_tested (requests_of bytes) (bounded settings (length bytes))
