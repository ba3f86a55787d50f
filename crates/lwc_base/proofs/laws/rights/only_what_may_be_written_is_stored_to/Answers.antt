use Rattle.lwc_base.proofs.Rights.{store-kept, store-writable}
use Rattle.lwc_base.proofs.laws.rights.only_what_may_be_written_is_stored_to.Goals as goal

pub returns-clause-writable : goal.returns-clause-writable
returns-clause-writable c = store-writable

pub returns-clause-kept : goal.returns-clause-kept
returns-clause-kept c = store-kept
