use Rattle.std.proofs.Common.{◌∙◌, sym}
use Rattle.whole_world.proofs.Keyed.{group-takes, own-moved}
use Rattle.whole_world.specs.Rows.{context_of, group_of}
use Rattle.whole_world.proofs.context_row.ContextRow.move_key.Goals as goal

pub give-requires-clause-own : goal.give-requires-clause-own
give-requires-clause-own c = own-moved c.args.mode c.args.key _ (sym c.is_moved.ensures ∙ c.if-is_moved.true)

pub returns-then-is_moved-clause-group : goal.returns-then-is_moved-clause-group
returns-then-is_moved-clause-group c =
    group-takes c.args.mode (context_of c.args.self.now) (group_of c.args.group.now) _ c.give.result c.args.key c.give.ensures.key c.give.ensures.value
    (sym c.is_moved.ensures ∙ c.if-is_moved.true) c.put.ensures.group
