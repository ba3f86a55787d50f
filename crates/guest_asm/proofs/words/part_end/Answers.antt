use Rattle.std.proofs.Common.{◌≡◌, tests, rules, arith}
use Rattle.std.specs.List.{position}
use Rattle.std.proofs.lemmas.Iterator.{YieldsList-from_slice}
use Rattle.std.proofs.lemmas.Iterator.Search.{position_from_yields_List}
use Rattle.guest_asm.specs.Views.{ends_part}
use Rattle.guest_asm.proofs.words.part_end.Goals as goal
use Rattle.lwc_types.proofs.Small.{or_len}

pub returns-clause-place : goal.returns-clause-place
returns-clause-place c =
    let found : c.position.result ≡ position ends_part c.args.text.now = position_from_yields_List ends_part _ _ c.position.result c.position.ensures.ran (YieldsList-from_slice c.args.text.now cc) (λ x b q k. search (rules, tests)) in
    grind (arith, or_len ends_part c.args.text.now c.position.result found)
