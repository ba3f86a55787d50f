use Rattle.std.proofs.Common.{◌∙◌, sym}
use Rattle.lwc_types.specs.declared.limits.TheConstants.{MOST_PAGES}
use Rattle.range_map.specs.Kinds.{ranges}
use Rattle.lazy_world.specs.Cells.{rows_of, states_of}
use Rattle.lazy_world.specs.Seen.{rights, rows}
use Rattle.lazy_world.specs.States.{world_of}
use Rattle.lazy_world.specs.Worlds.{parts, seen}
use Rattle.lazy_world.proofs.FollowLemmas.{followed-few, same-place, transfer-for}
use Rattle.lazy_world.proofs.world.PlacedWorld.ranges_after.Goals as goal

pub count_transferred-requires-clause-transfer : goal.count_transferred-requires-clause-transfer
count_transferred-requires-clause-transfer c =
    transfer-for c.args.transfer (parts c.args.self.now).size.contexts c.args.target c.args.context c.place-from.result c.place-to.result c.requires.transfer
    (λ same. same-place (parts c.args.self.now).contexts.map c.args.target c.args.context c.place-from.result c.place-to.result same c.place-from.ensures.found c.place-to.ensures.found) c.place-to.ensures.low

pub returns-else-gives_same : goal.returns-else-gives_same
unfolding seen parts world_of
returns-else-gives_same c =
    let w = c.args.self.now in
    c.count_transferred.ensures
    ∙ sym
    (followed-few (parts w) w.sound w.placed c.args.transfer c.args.spec.now c.requires.within c.args.target c.args.context c.place-from.result c.place-to.result c.place-from.ensures.context c.place-to.ensures.found)

pub returns-then-gives_same : goal.returns-then-gives_same
unfolding seen parts world_of rows rights rows_of
returns-then-gives_same c =
    let w = c.args.self.now in
    let to = c.place-to.result in
    let same = c.gives_same.ensures in
    c.count.ensures.ranges
    ∙ sym (λ e. ranges MOST_PAGES (states_of (same.row c.if-gives_same.true (rows w.places to) e) (same.rights c.if-gives_same.true (rights w.places to) e)))
    ∙ sym
    (followed-few (parts w) w.sound w.placed c.args.transfer c.args.spec.now c.requires.within c.args.target c.args.context c.place-from.result to c.place-from.ensures.context c.place-to.ensures.found)
