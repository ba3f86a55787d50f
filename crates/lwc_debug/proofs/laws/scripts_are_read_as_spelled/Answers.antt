use Rattle.lwc_debug.proofs.ScriptLines.{is_script, is_read}
use Rattle.lwc_debug.proofs.laws.scripts_are_read_as_spelled.Goals as goal

pub returns : goal.returns
returns c = record { found = is_script; reads = is_read }
