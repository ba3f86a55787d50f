use Rattle.std.proofs.Common.{◌≡◌, eqb, tests, rules, arith}
use Rattle.std.specs.List.{position}
use Rattle.std.proofs.lemmas.Iterator.{YieldsList-from_slice}
use Rattle.std.proofs.lemmas.Iterator.Search.{position_from_yields_List}
use Rattle.guest_asm.proofs.words.place_of.Goals as goal
use Rattle.lwc_types.proofs.Small.{or_len}

pub returns-clause-place : goal.returns-clause-place
returns-clause-place c =
    let found : c.position.result ≡ position (λ b. eqb b c.args.wanted) c.args.bytes.now = position_from_yields_List (λ b. eqb b c.args.wanted) _ _ c.position.result c.position.ensures.ran (YieldsList-from_slice c.args.bytes.now cc) (λ x b q k. search (rules, tests)) in
    grind (arith, or_len (λ b. eqb b c.args.wanted) c.args.bytes.now c.position.result found)
