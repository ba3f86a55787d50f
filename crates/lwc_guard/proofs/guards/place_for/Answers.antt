use Rattle.std.proofs.Common.{◌≡◌, tests, rules, arith}
use Rattle.std.specs.Prelude.{not}
use Rattle.std.specs.List.{position}
use Rattle.std.specs.Ordering.{is_lt}
use Rattle.std.proofs.lemmas.Iterator.{YieldsList-from_slice}
use Rattle.std.proofs.lemmas.Iterator.Search.{position_from_yields_List}
use Rattle.lwc_guard.proofs.Rows.{low-is}
use Rattle.lwc_guard.specs.declared.guard.Guard.{Guard}
use Rattle.lwc_types.specs.Names.{name_cmp}
use Rattle.lwc_types.specs.declared.name.Name.{Name}
use Rattle.lwc_guard.proofs.guards.place_for.Goals as goal

pub returns : goal.returns
returns c =
    let found : c.position.result ≡ position (λ (p : Name × Guard). not (is_lt (name_cmp p.0 c.args.context))) c.args.rows.now = position_from_yields_List (λ (p : Name × Guard). not (is_lt (name_cmp p.0 c.args.context))) _ _ c.position.result c.position.ensures.ran (YieldsList-from_slice c.args.rows.now cc) (λ x b q k. search (rules, tests)) in
    grind (arith, low-is c.args.context c.args.rows.now c.position.result found)
