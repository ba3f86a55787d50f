-- Lists of steps as histories of a machine.
use Rattle.std.specs.Prelude.{◌≡◌, ◌==◌, if◌then◌else◌, ℕ, List, [], ◌∷◌, ◌++◌, Option, None, Some, true, count_by}
use Rattle.kernel_core.specs.Kernel.{turn}
use Rattle.kernel_core.specs.Machine.{Machine, is_ended}
use Rattle.kernel_core.specs.Runs.{kept, run}
use Rattle.kernel_core.specs.Start.{Inputs}
use Rattle.kernel_core.specs.Step.{finishes, step}
use Rattle.kernel_core.specs.declared.thread.Turn.{Turn}
use Rattle.snapshot_host.specs.declared.finishing.Finished.{Finished}

-- each step is made by a thread that had not ended
abbrev pub IsLegal : Machine → List ℕ → Type 0
IsLegal m steps = kept m steps ≡ steps

-- a legal history after which all threads have ended; a number that no thread has counts as ended
pub record IsComplete (m : Machine) (steps : List ℕ) : Type 0 where
  pub legal : IsLegal m steps
  pub ended : (t : ℕ) → is_ended (run m steps) t ≡ true

-- the number of steps of a thread in a history
abbrev pub steps_by : ℕ → List ℕ → ℕ
steps_by t steps = count_by (λ s. s == t) steps

-- a history goes on by steps of others and then one of this thread
pub record GoesOn (t : ℕ) (before after : List ℕ) : Type 0 where
  pub others : List ℕ
  pub none : steps_by t others ≡ 0
  pub after_is : after ≡ before ++ (others ++ t ∷ [])

-- what a history of a start leaves of a thread
abbrev pub turn_after : Inputs → List ℕ → ℕ → Option Turn
turn_after inputs steps t = turn (record { inputs = inputs; steps = steps; room = 0 }) t

-- what a step finishes, as a list of one reply or of none
abbrev pub replies_of : Option Finished → List Finished
replies_of None = []
replies_of (Some x) = x ∷ []

-- what those of the steps finish that a thread makes, in order
unfoldable pub finishes_by : Machine → List ℕ → ℕ → List Finished
finishes_by m [] t = []
finishes_by m (s ∷ ss) t = (if s == t then replies_of (finishes m t) else []) ++ finishes_by (step m s) ss t
