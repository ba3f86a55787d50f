-- Runs of the machine over a list of steps, each the number of the thread that makes it.
use Rattle.std.specs.Prelude.{ℕ, ◌==◌, if◌then◌else◌, List, [], ◌∷◌, Option, max}
use Rattle.kernel_core.specs.Machine.{Machine, is_ended}
use Rattle.kernel_core.specs.Step.{finishes, step}
use Rattle.lwc_base.specs.Frames.{used}
use Rattle.snapshot_host.specs.declared.finishing.Finished.{Finished}

-- the machine after the steps, one after another
abbrev pub run : Machine → List ℕ → Machine
run m [] = m
run m (t ∷ ts) = run (step m t) ts

-- the steps of threads that had not ended when their turn came
abbrev pub kept : Machine → List ℕ → List ℕ
kept m [] = []
kept m (t ∷ ts) = if is_ended m t then kept m ts else t ∷ kept (step m t) ts

-- the number of frames in use
abbrev pub frames_of : Machine → ℕ
frames_of m = used m.environment.world

-- the most frames that were in use, before the first step and after each
abbrev pub peak : Machine → List ℕ → ℕ
peak m [] = frames_of m
peak m (t ∷ ts) = max (frames_of m) (peak (step m t) ts)

-- what the last of these steps that a thread makes finishes; what was last finished before them if it makes
-- none
abbrev pub last_finished : Machine → List ℕ → ℕ → Option Finished → Option Finished
last_finished m [] t before = before
last_finished m (s ∷ ss) t before = last_finished (step m s) ss t (if s == t then finishes m t else before)
