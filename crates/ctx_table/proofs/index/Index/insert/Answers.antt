use Rattle.std.proofs.Common.{arith}
use Rattle.std.proofs.lemmas.Bool.{both_ways}
use Rattle.ctx_table.proofs.Rows.{inserted, inserted-sorted, is_there, map-len, rows_at, rows_gap, same_places}
use Rattle.ctx_table.proofs.index.Index.insert.Goals as goal

pub insert-requires : goal.insert-requires
insert-requires c = let gap = rows_gap _ c.self.invariant _ _ (rw (← c.self.view_is) at c.in-Err.ensures.absent) in omega (arith, gap.within)

pub unwrap-requires : goal.unwrap-requires
unwrap-requires c = c.insert.ensures.succeeds (let room = rw (← c.self.view_is) at c.requires.room in omega (arith, room, map-len c.self.inside.rows.items c.self.invariant))

pub invariant_of-self : goal.invariant_of-self
invariant_of-self c =
    rw (c.insert.ensures.items, c.unwrap.ensures) (inserted-sorted _ c.self.invariant c.args.name c.args.place c.in-Err.i
    (rows_gap _ c.self.invariant _ _ (rw (← c.self.view_is) at c.in-Err.ensures.absent)))

pub returns-in-Err : goal.returns-in-Err
returns-in-Err c =
    rw (← c.self.view_is, c.insert.ensures.items, c.unwrap.ensures)
    (same_places _ _ _ _ (inserted _ c.self.invariant c.args.name c.args.place c.in-Err.i (rows_gap _ c.self.invariant _ _ (rw (← c.self.view_is) at c.in-Err.ensures.absent)))
    (c.insert.ensures.in_place (let room = rw (← c.self.view_is) at c.requires.room in omega (arith, room, map-len c.self.inside.rows.items c.self.invariant))).1.0)

pub returns-in_default : goal.returns-in_default
returns-in_default c =
    let there = is_there _ c.self.invariant c.args.name _ (rows_at _ c.self.invariant _ _ (rw (← c.self.view_is) at c.in_default.ensures.found)) in
    absurd (both_ways _ (rw (← c.self.view_is) at c.requires.new) there)
