-- A request by itself: what it is replied when no other request is served.
use Rattle.std.specs.Prelude.{ℕ, ◌+◌, ◌*◌, ◌++◌, List, [], ◌∷◌, None, Option, replicate}
use Rattle.std.specs.Option.{option_map}
use Rattle.guest_image.specs.Limits.{pages_of}
use Rattle.guest_image.specs.declared.image.Image.{Image}
use Rattle.kernel_core.specs.Machine as machine
use Rattle.kernel_core.specs.Machine.{Machine, reply_of}
use Rattle.kernel_core.specs.Runs.{run}
use Rattle.kernel_core.specs.Start.{Inputs, start}
use Rattle.kernel_core.specs.declared.settings.Job.TheVariants.{Serve}
use Rattle.snapshot_host.specs.declared.finishing.Finished.{Finished}

-- a serve of one worker with this number of frames, in which the request comes last, after empty ones
abbrev pub inputs_alone : Image → ℕ → ℕ → ℕ → List ℕ → Inputs
inputs_alone image frames budget r bytes = record {
  image = image;
  vault = None;
  requests = replicate r [] ++ bytes ∷ [];
  settings = record { frames = frames; budget = budget; job = Serve 1 };
}

-- the serve once the requests before this one are taken
abbrev pub taken_to : ℕ → machine.Serve → machine.Serve
taken_to r s = record s { next = r }

-- the machine that the request is served from by itself: it is the next one
unfoldable pub start_alone : Image → ℕ → ℕ → ℕ → List ℕ → Machine
start_alone image frames budget r bytes =
    let m = start (inputs_alone image frames budget r bytes) in
    record m { serve = option_map (taken_to r) m.serve }

-- the steps of the one worker: one in which it begins the request, and the request's budget
abbrev pub steps_alone : ℕ → List ℕ
steps_alone budget = replicate (budget + 1) 0

-- frames of which a request never wants more, since a step makes at most a context and a group
abbrev pub ample : Image → ℕ → ℕ
ample image budget = 2 * (budget + 1) * pages_of image.form

-- what is recorded of the request by itself, with this number of frames
abbrev pub alone_in : ℕ → Image → ℕ → ℕ → List ℕ → Option Finished
alone_in frames image budget r bytes =
    reply_of (run (start_alone image frames budget r bytes) (steps_alone budget)) r

-- what is recorded of the request by itself
abbrev pub alone : Image → ℕ → ℕ → List ℕ → Option Finished
alone image budget r bytes = alone_in (ample image budget) image budget r bytes
