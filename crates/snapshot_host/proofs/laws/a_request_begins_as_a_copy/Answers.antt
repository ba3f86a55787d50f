use Rattle.snapshot_host.proofs.Copies.{begun, no_group, shares_nothing}
use Rattle.snapshot_host.proofs.CopyRanges.{ranges_copied}
use Rattle.snapshot_host.proofs.laws.a_request_begins_as_a_copy.Goals as goal

pub returns : goal.returns
returns c = record { begun = begun; no_group = no_group; same = shares_nothing; ranges = ranges_copied }
