use Rattle.lwc_text.proofs.RequestLines.{is_file, file_is_read}
use Rattle.lwc_text.proofs.laws.request_files_are_read_as_spelled.Goals as goal

pub returns : goal.returns
returns c = record { found = is_file; reads = file_is_read }
