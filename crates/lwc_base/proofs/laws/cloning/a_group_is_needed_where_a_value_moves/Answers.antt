use Rattle.lwc_base.proofs.Needs.{needed-own, not_needed}
use Rattle.lwc_base.proofs.Sharing.{shares-share}
use Rattle.lwc_base.proofs.laws.cloning.a_group_is_needed_where_a_value_moves.Goals as goal

pub returns-clause-moves : goal.returns-clause-moves
returns-clause-moves c = needed-own

pub returns-clause-none : goal.returns-clause-none
returns-clause-none c = not_needed

pub returns-clause-nothing : goal.returns-clause-nothing
returns-clause-nothing c = λ w c job items. (shares-share w c job items).none
