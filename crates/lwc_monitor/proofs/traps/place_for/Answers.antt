use Rattle.std.proofs.Common.{◌≡◌, tests, rules, arith}
use Rattle.std.specs.List.{position}
use Rattle.std.specs.Ordering.{is_gt}
use Rattle.std.proofs.lemmas.Iterator.{YieldsList-from_slice}
use Rattle.std.proofs.lemmas.Iterator.Search.{position_from_yields_List}
use Rattle.lwc_types.specs.Names.{name_cmp}
use Rattle.lwc_types.specs.declared.name.Name.{Name}
use Rattle.lwc_monitor.proofs.Pairs.{place-is}
use Rattle.lwc_monitor.proofs.traps.place_for.Goals as goal

pub returns : goal.returns
returns c =
    let found : c.position.result ≡ position (λ (p : Name × Name). is_gt (name_cmp p.0 c.args.context)) c.args.pairs.now = position_from_yields_List (λ (p : Name × Name). is_gt (name_cmp p.0 c.args.context)) _ _ c.position.result c.position.ensures.ran (YieldsList-from_slice c.args.pairs.now cc) (λ x b q k. search (rules, tests)) in
    grind (arith, place-is c.args.context c.args.pairs.now c.position.result found)
