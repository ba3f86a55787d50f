use Rattle.std.proofs.Common.{ap, refl, sym}
use Rattle.std.specs.FinMap as fm
use Rattle.std.specs.Option.{option_map}
use Rattle.std.proofs.lemmas.Option.{slice_get-map, slice_get_past, slice_get_read}
use Rattle.lwc_types.specs.Names.{name_cmp}
use Rattle.ctx_table.proofs.index.Index.nth.Goals as goal

pub returns-in-Some : goal.returns-in-Some
returns-in-Some c =
    let look = c.in-Some.ensures.lookup in
    let read = rw c.deref.ensures.value at (slice_get_read c.deref.result.now _ c.args.index c.in-Some.row.now refl look.3.0 look.1) in
    rw (← c.self.view_is, fm.entries-from_sorted name_cmp c.self.inside.rows.items c.self.invariant, slice_get-map) (sym (ap (option_map (λ row. row.0)) read))

pub returns-in-None : goal.returns-in-None
returns-in-None c =
    let past = rw c.deref.ensures.value at (slice_get_past c.deref.result.now c.args.index c.in-None.ensures.lookup.3) in
    rw (← c.self.view_is, fm.entries-from_sorted name_cmp c.self.inside.rows.items c.self.invariant, slice_get-map) (sym (ap (option_map (λ row. row.0)) past))
