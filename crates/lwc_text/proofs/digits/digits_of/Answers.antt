use Rattle.std.proofs.lemmas.Grind.{common_steps}
use Rattle.std.proofs.Common.{arith, sym, ap, subst, ◌∙◌, map, IsUtf8}
use Rattle.std.proofs.lemmas.Bool.{false≢true}
use Rattle.std.proofs.lemmas.List.{take_all}
use Rattle.lwc_text.proofs.Glyphs.{glyphs_utf8}
use Rattle.lwc_text.specs.Glyphs.{glyph}
use Rattle.lwc_text.proofs.digits.digits_of.Goals as goal

pub unreachable-requires : goal.unreachable-requires
unreachable-requires c =
    let numbers = c.args.numbers.now in
    let whole = c.numbers.invariant.text ∙ ap (map glyph) (take_all c.numbers.number-index numbers c.numbers-test.false) in
    absurd (false≢true (c.in-Err.ensures.succeeds (subst IsUtf8 (sym whole) (glyphs_utf8 numbers c.requires))))

pub numbers-preserved : goal.numbers-preserved
numbers-preserved c = grind (arith, common_steps)
