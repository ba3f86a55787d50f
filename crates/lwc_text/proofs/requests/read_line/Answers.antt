use Rattle.std.proofs.Common.{◌∙◌, sym}
use Rattle.lwc_text.proofs.RequestLines.{only_digits}
use Rattle.lwc_text.proofs.requests.read_line.Goals as goal

pub bytes_of-requires-clause-digits : goal.bytes_of-requires-clause-digits
bytes_of-requires-clause-digits c = only_digits _ (sym c.rule_in.ensures.rule ∙ c.in_default.is)
