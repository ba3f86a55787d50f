use Rattle.std.proofs.Common.{◌≡◌, ◌<◌, ◌∙◌, arith, eqb, false, length, sym}
use Rattle.lazy_world.proofs.LooseLemmas.{among-index}
use Rattle.lazy_world.proofs.world.PlacedWorld.first_place.Goals as goal

pub returns-clause-root : goal.returns-clause-root
returns-clause-root c =
    let tested : eqb (length c.args.roots.now) 0 ≡ false = sym c.is_empty.ensures ∙ c.if-is_empty.false in
    let some : 0 < length c.args.roots.now = grind arith in
    record { root = _; among = among-index c.args.roots.now 0 _ some; there = c.place.ensures.found }
