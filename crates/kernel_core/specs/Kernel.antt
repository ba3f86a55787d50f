-- What contracts see of a kernel.
use Rattle.std.specs.Prelude.{◌≡◌, ◌≢◌, ℕ, ◌+◌, ◌-◌, ◌++◌, ◌∷◌, ◌≤◌, [], All, if◌then◌else◌, IfSome, List, None}
use Rattle.std.specs.Prelude.{Option, Some, length, slice_get}
use Rattle.std.specs.Option.{option_map}
use Rattle.guest_image.specs.Limits.{IsImage, IsVault, pages_of}
use Rattle.guest_image.specs.declared.image.Image.{Image}
use Rattle.guest_image.specs.declared.image.TheConstants.{VAULT_SLOT}
use Rattle.guest_image.specs.declared.image.Vault.{Vault}
use Rattle.kernel_core.specs.Machine.{Machine, is_ended, recorded}
use Rattle.kernel_core.specs.Runs.{last_finished, run}
use Rattle.kernel_core.specs.Settings.{IsSettings}
use Rattle.kernel_core.specs.Start.{Inputs, start}
use Rattle.kernel_core.specs.declared.settings.Job.{Job}
use Rattle.kernel_core.specs.declared.settings.Job.TheVariants.{Run, Serve}
use Rattle.kernel_core.specs.declared.thread.Thread.{Thread}
use Rattle.kernel_core.specs.declared.thread.ThreadView.{ThreadView}
use Rattle.kernel_core.specs.declared.thread.Turn.{Turn}
use Rattle.snapshot_host.specs.declared.finishing.Finished.{Finished}
use Rattle.lwc_types.specs.declared.limits.TheConstants.{MOST_REQUESTS, MOST_REQUEST_BYTES}

-- requests within their limits
pub record AreRequests (requests : List (List ℕ)) : Type 0 where
  pub few : length requests ≤ MOST_REQUESTS
  pub short : All (λ request. length request ≤ MOST_REQUEST_BYTES) requests

-- the requests that a job may have: a run has none
abbrev pub MayHave : Job → List (List ℕ) → Type 0
MayHave Run requests = requests ≡ []
MayHave (Serve workers) requests = AreRequests requests

-- the number of pages of an image, and of the vault beside it if there is one
abbrev pub pages_in : Image → Option Vault → ℕ
pages_in image None = length image.pages
pages_in image (Some v) = length image.pages + length v.pages

-- a run of an image may have a vault: one for its text and its form, where no slot of the image is the vault's
pub record CanKeep (image : Image) (job : Job) (v : Vault) : Type 0 where
  pub run : job ≡ Run
  pub vault : IsVault (length image.text) (pages_of image.form) v
  pub free : All (λ s. s.slot ≢ VAULT_SLOT) image.slots

-- what a kernel can be opened with: an image, and a vault for it or none, that fit the frames together,
-- settings, and requests of their job
pub record CanOpen (inputs : Inputs) : Type 0 where
  pub image : IsImage inputs.image
  pub vault : IfSome inputs.vault (CanKeep inputs.image inputs.settings.job)
  pub settings : IsSettings inputs.settings
  pub fits : pages_in inputs.image inputs.vault ≤ inputs.settings.frames
  pub requests : MayHave inputs.settings.job inputs.requests

-- a kernel: what it was opened with, the steps that it has kept, and how many more it has room for
pub record History : Type 0 where
  pub inputs : Inputs
  pub steps : List ℕ
  pub room : ℕ

-- a kernel that was just opened
abbrev pub opened : Inputs → ℕ → History
opened inputs room = record { inputs = inputs; steps = []; room = room }

-- the machine that a kernel has come to
unfoldable pub machine_of : History → Machine
machine_of h = run (start h.inputs) h.steps

-- a kernel after one step of a thread: the step is kept, and takes room, unless the thread had ended
unfoldable pub stepped : History → ℕ → History
stepped h t =
    if is_ended (machine_of h) t then h else record h { steps = h.steps ++ t ∷ []; room = h.room - 1 }

-- what a step has left of its thread: its registers, its status, and the request that it finished, if it did
abbrev pub turn_of : Thread → Option Finished → Turn
turn_of x finished = record { regs = x.regs; status = x.status; finished = finished }

-- what the last step of a thread left
unfoldable pub turn : History → ℕ → Option Turn
turn h t =
    option_map (λ x. turn_of x (last_finished (start h.inputs) h.steps t None)) (slice_get (machine_of h).threads t)

-- the turn of a thread whose last step finished the request of this number, or none
unfoldable pub turn_at : Machine → ℕ → Option ℕ → Option Turn
turn_at m t r =
    option_map (λ x. turn_of x (recorded m.serve r)) (slice_get m.threads t)

-- what can be seen of a thread
unfoldable pub view_of : Machine → ℕ → Option ThreadView
view_of m t =
    option_map (λ x. record { status = x.status; context = x.context; regs = x.regs }) (slice_get m.threads t)
