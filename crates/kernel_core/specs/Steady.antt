-- What each kernel keeps true of itself.
use Rattle.std.specs.Prelude.{◌≡◌, ℕ, ◌+◌, ◌≤◌, List, Option, length}
use Rattle.guest_image.specs.declared.image.Image.{Image}
use Rattle.guest_image.specs.declared.image.Vault.{Vault}
use Rattle.guest_isa.specs.declared.instr.Instr.{Instr}
use Rattle.kernel_core.specs.Kernel.{CanOpen, History, machine_of}
use Rattle.kernel_core.specs.Machine.{Machine, Serve}
use Rattle.kernel_core.specs.Runs.{peak}
use Rattle.kernel_core.specs.Start.{start}
use Rattle.kernel_core.specs.declared.settings.Settings.{Settings}
use Rattle.kernel_core.specs.declared.thread.Thread.{Thread}
use Rattle.kernel_core.specs.Step.{beside}
use Rattle.lwc_base.specs.Channels.{Channels}
use Rattle.lwc_base.specs.World.{World}
use Rattle.lwc_types.specs.declared.limits.TheConstants.{MOST_STEPS}

-- the history of a kernel's parts
abbrev pub history : Image → Option Vault → List (List ℕ) → Settings → List ℕ → ℕ → History
history image vault requests settings steps room = record {
  inputs = record { image = image; vault = vault; requests = requests; settings = settings };
  steps = steps;
  room = room;
}

-- the machine of a kernel's parts
abbrev pub machine : World → Channels → List Thread → List Instr → Option Serve → Machine
machine world channels threads text serve = record {
  threads = threads;
  environment = beside world channels;
  text = text;
  serve = serve;
}

-- a kernel's parts are the machine that it has come to, and its peak is that of its steps
pub record IsSteady (m : Machine) (most_used : ℕ) (h : History) : Type 0 where
  pub inputs : CanOpen h.inputs
  pub machine : m ≡ machine_of h
  pub peak : most_used ≡ peak (start h.inputs) h.steps
  pub room : length h.steps + h.room ≤ MOST_STEPS
