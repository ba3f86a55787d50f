use Rattle.std.proofs.Common.{rules, ◌<◌, All, string_bytes, sym, ◌∙◌}
use Rattle.lwc_text.proofs.Glyphs.{steps_written}
use Rattle.lwc_text.proofs.lines.steps_text.Goals as goal

pub returns-then-all : goal.returns-then-all
returns-then-all c =
    let small : All (λ n. n < 16) c.args.steps.now = search rules in
    steps_written c.args.steps.now string_bytes c.digits_of.result (sym c.is_empty.ensures ∙ c.if-is_empty.false) small c.digits_of.ensures
