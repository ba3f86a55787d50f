use Rattle.lwc_base.proofs.Runs.{ranges-one_run, ranges-absent, ranges-more}
use Rattle.lwc_base.proofs.laws.ranges.one_run_is_one_range.Goals as goal

pub returns-clause-one : goal.returns-clause-one
returns-clause-one c = ranges-one_run

pub returns-clause-none : goal.returns-clause-none
returns-clause-none c = ranges-absent

pub returns-clause-next : goal.returns-clause-next
returns-clause-next c = ranges-more
