use Rattle.lwc_text.proofs.Steps.{is_schedule, is_read}
use Rattle.lwc_text.proofs.laws.schedules_are_read_as_named.Goals as goal

pub returns : goal.returns
returns c = record { found = is_schedule; reads = is_read }
