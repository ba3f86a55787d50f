-- How the turns of a thread are counted.
use Rattle.std.specs.Prelude.{◌≡◌, ◌+◌, ◌++◌, ℕ, List}
use Rattle.kernel_core.specs.Histories.{steps_by}
use Rattle.process_core.specs.Running.{Carried}

-- the pass has seen further steps, and so many of them as its thread made were counted
pub record HasTurned (before : Carried) (turns : ℕ) (after : Carried) (later : ℕ) : Type 0 where
  pub more : List ℕ
  pub seen : after.held.seen ≡ before.held.seen ++ more
  pub counted : later ≡ turns + steps_by before.held.number more
