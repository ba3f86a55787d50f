-- Recorded replies under other numbers.
use Rattle.std.specs.Prelude.{ℕ}
use Rattle.snapshot_host.specs.declared.finishing.Finished.{Finished}

-- a recorded reply under the number of a request: the same status and bytes
abbrev pub numbered : ℕ → Finished → Finished
numbered r f = record f { request = r }
