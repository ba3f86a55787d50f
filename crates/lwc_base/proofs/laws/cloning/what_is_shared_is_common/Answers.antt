use Rattle.lwc_base.proofs.Clones.{clone-absent, clone-common, clone-in_common, clone-joins, clone-joins_not, clone-moved, clone-shared}
use Rattle.lwc_base.proofs.laws.cloning.what_is_shared_is_common.Goals as goal

pub returns-clause-cell : goal.returns-clause-cell
returns-clause-cell c = clone-shared

pub returns-clause-moved : goal.returns-clause-moved
returns-clause-moved c = clone-moved

pub returns-clause-kept : goal.returns-clause-kept
returns-clause-kept c = clone-common

pub returns-clause-absent : goal.returns-clause-absent
returns-clause-absent c = clone-absent

pub returns-clause-common : goal.returns-clause-common
returns-clause-common c = clone-in_common

pub returns-clause-joins : goal.returns-clause-joins
returns-clause-joins c = clone-joins

pub returns-clause-joins_not : goal.returns-clause-joins_not
returns-clause-joins_not c = clone-joins_not
