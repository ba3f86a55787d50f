use Rattle.std.proofs.Common.{◌≡◌, ◌∙◌, sym, arith, length}
use Rattle.std.specs.List.{position_or_len}
use Rattle.whole_world.specs.Tables.{is_past}
use Rattle.whole_world.proofs.Tables.{IsPlace, place_found, place_past_all}
use Rattle.whole_world.proofs.table.Table.place_for.Goals as goal

pub returns-in-Some-clause-place : goal.returns-in-Some-clause-place
returns-in-Some-clause-place g c =
    let place : IsPlace (is_past c.args.name) c.args.self.now.rows.items c.in-Some.i = place_found _ _ _ (sym c.place_past.ensures ∙ c.in-Some.is) in
    sym place.first

pub returns-in-Some-clause-within : goal.returns-in-Some-clause-within
returns-in-Some-clause-within g c =
    let place : IsPlace (is_past c.args.name) c.args.self.now.rows.items c.in-Some.i = place_found _ _ _ (sym c.place_past.ensures ∙ c.in-Some.is) in
    omega (arith, place.within)

pub returns-in-None-clause-place : goal.returns-in-None-clause-place
returns-in-None-clause-place g c =
    let past : length c.args.self.now.rows.items ≡ position_or_len (is_past c.args.name) c.args.self.now.rows.items = place_past_all _ _ (sym c.place_past.ensures ∙ c.in-None.is) in
    omega (arith, past)
