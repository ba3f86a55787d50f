use Rattle.lwc_base.proofs.Room.{store-bytes}
use Rattle.lwc_base.proofs.StoredBytes.{store-apart, store-common, store-other_keys}
use Rattle.lwc_base.proofs.laws.storing.what_is_stored_reads_back.Goals as goal

pub returns-clause-bytes : goal.returns-clause-bytes
returns-clause-bytes c = store-bytes

pub returns-clause-apart : goal.returns-clause-apart
returns-clause-apart c = store-apart

pub returns-clause-common : goal.returns-clause-common
returns-clause-common c = store-common

pub returns-clause-others : goal.returns-clause-others
returns-clause-others c = store-other_keys
