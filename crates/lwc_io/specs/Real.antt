-- The files and the sink of the system, as their contracts see them.
use Rattle.std.specs.Prelude.{ℕ, List}
use Rattle.lwc_io.specs.Outside.{Fetch}

-- files of the system: the runtime that reaches them, the number of fetches that failed, and all fetches so
-- far
pub record SystemFiles (R : Type 0) : Type 0 where
  pub runtime : R
  pub faults : ℕ
  pub fetches : List Fetch

-- a sink of the system: its writer, and the number of writes that failed
pub record SystemSink (W : Type 0) : Type 0 where
  pub writer : W
  pub faults : ℕ
