use Rattle.std.proofs.Common.{◌≡◌, ◌∙◌}
use Rattle.lwcrun_line.specs.declared.line.LineFault.TheVariants.{Usage}
use Rattle.lwcrun_line.proofs.TakenWords.{arguments_found, arguments_missing}
use Rattle.lwcrun_line.proofs.arguments.parse_words.Goals as goal

pub returns-in-Ok-try_get_matches_from-clause-accepted : goal.returns-in-Ok-try_get_matches_from-clause-accepted
returns-in-Ok-try_get_matches_from-clause-accepted c =
    let parse = c.in-Ok-try_get_matches_from.ensures in
    arguments_found _ _ _ _ _ c.in-Ok.ensures parse.kinds parse.matches c.taken_from.ensures

pub returns-in-Err-clause-usage : goal.returns-in-Err-clause-usage
returns-in-Err-clause-usage c usage =
    let is : c.fault_of.result ≡ Usage = cc in
    arguments_missing _ _ c.in-Err.error c.in-Ok.ensures c.in-Err.ensures.kinds (λ memory. c.fault_of.ensures is (c.kind.ensures ∙ memory))
