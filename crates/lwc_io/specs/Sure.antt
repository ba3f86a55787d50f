-- The files that never fail, as their contracts see them.
use Rattle.std.specs.Prelude.{List}
use Rattle.lwc_io.specs.Memory.{Named}
use Rattle.lwc_io.specs.Outside.{Fetch}

-- files in memory, and all fetches so far
pub record FilesThatNeverFail : Type 0 where
  pub files : List Named
  pub fetches : List Fetch
