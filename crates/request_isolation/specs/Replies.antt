-- The replies that a serve has recorded.
use Rattle.std.specs.Prelude.{◌≡◌, ℕ, Some}
use Rattle.kernel_core.specs.Machine.{Machine, reply_of}
use Rattle.snapshot_host.specs.declared.finishing.Finished.{Finished}

-- a reply is recorded for a request
pub record HasReply (m : Machine) (r : ℕ) : Type 0 where
  pub reply : Finished
  pub recorded : reply_of m r ≡ Some reply
