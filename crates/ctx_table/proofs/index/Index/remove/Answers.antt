use Rattle.std.proofs.Common.{arith}
use Rattle.std.proofs.lemmas.Bool.{both_ways}
use Rattle.ctx_table.proofs.Rows.{not_there, removed, removed-sorted, rows_at, rows_gap, same_places}
use Rattle.ctx_table.proofs.index.Index.remove.Goals as goal

pub remove-requires : goal.remove-requires
remove-requires c = let at = rows_at _ c.self.invariant _ _ (rw (← c.self.view_is) at c.in-Ok.ensures.found) in omega (arith, at.within)

pub invariant_of-self : goal.invariant_of-self
invariant_of-self c =
    rw c.remove.ensures.items (removed-sorted _ c.self.invariant c.args.name c.in-Ok.i c.remove.result
    (rows_at _ c.self.invariant _ _ (rw (← c.self.view_is) at c.in-Ok.ensures.found)))

pub returns-in-Ok : goal.returns-in-Ok
returns-in-Ok c =
    rw (← c.self.view_is, c.remove.ensures.items)
    (same_places _ _ _ _ (removed _ c.self.invariant c.args.name c.in-Ok.i c.remove.result (rows_at _ c.self.invariant _ _ (rw (← c.self.view_is) at c.in-Ok.ensures.found))) c.remove.ensures.capacity)

pub returns-in_default : goal.returns-in_default
returns-in_default c =
    let gone = not_there _ c.self.invariant c.args.name _ (rows_gap _ c.self.invariant _ _ (rw (← c.self.view_is) at c.in_default.ensures.absent)) in
    absurd (both_ways _ gone (rw (← c.self.view_is) at c.requires))
