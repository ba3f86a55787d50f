use Rattle.lwc_base.proofs.Sharing.{group-moved, group-nothing}
use Rattle.lwc_base.proofs.laws.cloning.a_new_group_has_what_has_moved.Goals as goal

pub returns-clause-moved : goal.returns-clause-moved
returns-clause-moved c = group-moved

pub returns-clause-nothing : goal.returns-clause-nothing
returns-clause-nothing c = group-nothing
