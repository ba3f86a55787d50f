use Rattle.std.proofs.Common.{◌∙◌, ap}
use Rattle.std.proofs.lemmas.Result.{IfOk-weaker}
use Rattle.clap.specs.Words.{rule_of, with_rule}
use Rattle.clap.specs.declared.builder.arg.Arg.{Arg}
use Rattle.lwcrun_line.proofs.Rules.{placed}
use Rattle.lwcrun_line.proofs.arguments.with_place.Goals as goal

pub returns : goal.returns
returns c =
    let rule = placed _ _ _ _ c.new.ensures.rule (ap rule_of c.required.ensures) in
    IfOk-weaker c.arg.result _ _ (λ r h. h.shape (ap (λ (a : Arg). a.global) c.required.ensures ∙ c.new.ensures.optional.1) ∙ ap (with_rule _) rule) c.arg.ensures
