use Rattle.std.proofs.Common.{◌∙◌, Some, ap, set, refl, sym, Option, None}
use Rattle.std.proofs.lemmas.List.{map-set, set-get_or}
use Rattle.ctx_table.specs.Slots.{name_in}
use Rattle.ctx_table.proofs.Held.{update-indexed, update-map_of}
use Rattle.ctx_table.proofs.Taken.{held_entry, index_at, is_place, kept_at, named_held, name-read, places-set, slot-read}
use Rattle.lwc_types.specs.declared.name.Name.{Name}
use Rattle.ctx_table.proofs.table.CtxTable.save.Goals as goal
use Rattle.lwc_types.proofs.Small.{same_some}

pub save-requires-clause-held : goal.save-requires-clause-held
save-requires-clause-held g c =
    named_held c.index_mut.result.now c.args.name (name-read _ _ c.self.view_is c.place_of-place.result c.index_mut.result.now c.args.name c.index_mut.ensures.value
    (is_place _ _ c.self.view_is _ c.place_of-place.ensures.within) c.place_of-place.ensures.there)

pub invariant_of-self : goal.invariant_of-self
invariant_of-self g c =
    let entry = held_entry c.index_mut.result.now c.args.name (name-read _ _ c.self.view_is c.place_of-place.result c.index_mut.result.now c.args.name c.index_mut.ensures.value
    (is_place _ _ c.self.view_is _ c.place_of-place.ensures.within) c.place_of-place.ensures.there) in
    rw (map-set, c.save.ensures c.args.name entry.0 entry.1)
    (update-indexed _ _ c.self.invariant c.args.name c.place_of-place.result
    (index_at _ _ c.self.view_is _ c.self.invariant c.args.name c.place_of-place.result c.place_of-place.ensures.there) _)

pub returns-clause-kept : goal.returns-clause-kept
returns-clause-kept g c kept has =
    let entry = held_entry c.index_mut.result.now c.args.name (name-read _ _ c.self.view_is c.place_of-place.result c.index_mut.result.now c.args.name c.index_mut.ensures.value
    (is_place _ _ c.self.view_is _ c.place_of-place.ensures.within) c.place_of-place.ensures.there) in
    let slot = slot-read _ _ c.self.view_is c.place_of-place.result c.index_mut.result.now c.index_mut.result.now c.index_mut.ensures.value
    (is_place _ _ c.self.view_is _ c.place_of-place.ensures.within) refl in
    let same = same_some _ _ (sym (kept_at _ _ c.self.view_is _ c.self.invariant c.args.name c.place_of-place.result _ c.place_of-place.ensures.there (slot ∙ entry.1)) ∙ has) in
    rw (← c.self.view_is, map-set, c.save.ensures c.args.name kept (entry.1 ∙ ap (λ k. Some (c.args.name, k)) same))
    (update-map_of _ _ c.self.invariant c.args.name c.place_of-place.result
    (index_at _ _ c.self.view_is _ c.self.invariant c.args.name c.place_of-place.result c.place_of-place.ensures.there) _)

pub returns-clause-places : goal.returns-clause-places
returns-clause-places g c =
    let entry = held_entry c.index_mut.result.now c.args.name (name-read _ _ c.self.view_is c.place_of-place.result c.index_mut.result.now c.args.name c.index_mut.ensures.value
    (is_place _ _ c.self.view_is _ c.place_of-place.ensures.within) c.place_of-place.ensures.there) in
    places-set _ _ c.self.view_is c.place_of-place.result c.save.new.self
    ∙ ap (λ (n : Option Name). set c.args.self.now.places c.place_of-place.result n) (ap name_in (c.save.ensures c.args.name entry.0 entry.1))
    ∙ ap (λ (n : Option Name). set c.args.self.now.places c.place_of-place.result n) (sym c.place_of-place.ensures.there)
    ∙ set-get_or c.args.self.now.places c.place_of-place.result None
