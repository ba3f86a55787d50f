use Rattle.std.proofs.Common.{◌≡◌, tests, rules, arith}
use Rattle.std.specs.List.{position}
use Rattle.std.proofs.lemmas.Iterator.{YieldsList-from_slice}
use Rattle.std.proofs.lemmas.Iterator.Search.{position_from_yields_List}
use Rattle.guest_asm.specs.Lexis.{is_separator}
use Rattle.guest_asm.proofs.words.word_end.Goals as goal
use Rattle.lwc_types.proofs.Small.{or_len}

pub returns-clause-place : goal.returns-clause-place
returns-clause-place c =
    let found : c.position.result ≡ position is_separator c.args.text.now = position_from_yields_List is_separator _ _ c.position.result c.position.ensures.ran (YieldsList-from_slice c.args.text.now cc) (λ x b q k. search (rules, tests)) in
    grind (arith, or_len is_separator c.args.text.now c.position.result found)
