-- What is still to be read of a file.
use Rattle.std.specs.Prelude.{ℕ, List}

-- an offset, and the bytes from there on
pub record Rest : Type 0 where
  pub at : ℕ
  pub bytes : List ℕ
