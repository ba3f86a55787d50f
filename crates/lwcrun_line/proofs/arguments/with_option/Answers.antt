use Rattle.std.proofs.Common.{◌∙◌, ap}
use Rattle.std.proofs.lemmas.Result.{IfOk-weaker}
use Rattle.clap.specs.Words.{rule_of, with_rule}
use Rattle.clap.specs.declared.builder.arg.Arg.{Arg}
use Rattle.lwcrun_line.proofs.Rules.{lengthened}
use Rattle.lwcrun_line.proofs.arguments.with_option.Goals as goal

pub returns : goal.returns
returns c =
    let rule = lengthened _ _ _ c.new.ensures.rule (ap rule_of c.long.ensures) in
    IfOk-weaker c.arg.result _ _ (λ r h. h.shape (ap (λ (a : Arg). a.global) c.long.ensures ∙ c.new.ensures.optional.1) ∙ ap (with_rule _) rule) c.arg.ensures
