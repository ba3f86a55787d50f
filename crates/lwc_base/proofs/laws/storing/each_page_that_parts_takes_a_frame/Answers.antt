use Rattle.lwc_base.proofs.Room.{store-used, store-room}
use Rattle.lwc_base.proofs.laws.storing.each_page_that_parts_takes_a_frame.Goals as goal

pub returns-clause-taken : goal.returns-clause-taken
returns-clause-taken c = store-used

pub returns-clause-enough : goal.returns-clause-enough
returns-clause-enough c = store-room
