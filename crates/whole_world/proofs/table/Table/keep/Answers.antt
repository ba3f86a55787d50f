use Rattle.std.proofs.Common.{rules, ap, ◌∙◌, ◌≡◌}
use Rattle.std.specs.List.{items_where_true}
use Rattle.whole_world.specs.contracts.table.fn.Table.keep.retain as closure
use Rattle.whole_world.proofs.Marking.{kept_in_turn}
use Rattle.whole_world.proofs.table.Table.keep.Goals as goal

pub returns : goal.returns
returns g c =
    let kept : c.retain.new.self.items ≡ items_where_true c.iter-marks.result.rest.now c.args.self.now.rows.items =
    kept_in_turn _ (λ f. (closure.captures (record { T = g.row.T; T-Destruct-dict = g.T.Destruct-dict }) f).marks.rest.now) (λ f x b j k. search rules) _ _ _ c.retain.ensures.filtered in
    kept ∙ ap (λ ms. items_where_true ms c.args.self.now.rows.items) c.iter-marks.ensures.rest
