use Rattle.std.proofs.Common.{◌∙◌, sym, ap, set, ℕ, None}
use Rattle.std.specs.Option.{option_map}
use Rattle.std.specs.Prelude.{is_some}
use Rattle.std.proofs.lemmas.List.{map-set}
use Rattle.ctx_table.proofs.Held.{not_some, remove-indexed, remove-map_of}
use Rattle.ctx_table.proofs.Taken.{index_at, is_place, kept_at, place_name, places-set, slot-read}
use Rattle.ctx_table.proofs.table.CtxTable.remove.Goals as goal
use Rattle.lwc_types.proofs.Small.{same_some}

pub remove-requires : goal.remove-requires
remove-requires g c = ap is_some (index_at _ _ c.self.view_is _ c.self.invariant c.args.name c.place_of-place.result c.place_of-place.ensures.there)

pub unreachable-requires : goal.unreachable-requires
unreachable-requires g c =
    not_some (ap (option_map (λ e. e.0)) (slot-read _ _ c.self.view_is c.place_of-place.result c.index_mut.result.now _ c.index_mut.ensures.value
    (is_place _ _ c.self.view_is _ c.place_of-place.ensures.within) (sym c.replace.ensures.value ∙ c.in-Free.is)))
    (sym (place_name _ _ c.self.view_is c.place_of-place.result) ∙ c.place_of-place.ensures.there)

pub invariant_of-self : goal.invariant_of-self
invariant_of-self g c =
    rw (c.replace.ensures.after, map-set, c.remove.ensures)
    (remove-indexed _ _ c.self.invariant c.args.name c.place_of-place.result
    (index_at _ _ c.self.view_is _ c.self.invariant c.args.name c.place_of-place.result c.place_of-place.ensures.there))

pub returns-clause-value : goal.returns-clause-value
returns-clause-value g c = ap (option_map (λ kept. kept.value)) (kept_at _ _ c.self.view_is _ c.self.invariant c.args.name c.place_of-place.result _ c.place_of-place.ensures.there
    (slot-read _ _ c.self.view_is c.place_of-place.result c.index_mut.result.now _ c.index_mut.ensures.value
    (is_place _ _ c.self.view_is _ c.place_of-place.ensures.within) (sym c.replace.ensures.value ∙ c.in-Held.is)))

pub returns-clause-kept : goal.returns-clause-kept
returns-clause-kept g c =
    rw (← c.self.view_is, c.replace.ensures.after, map-set)
    (remove-map_of _ _ c.self.invariant c.args.name c.place_of-place.result
    (index_at _ _ c.self.view_is _ c.self.invariant c.args.name c.place_of-place.result c.place_of-place.ensures.there))

pub returns-clause-places : goal.returns-clause-places
returns-clause-places g c p has =
    let found = index_at _ _ c.self.view_is _ c.self.invariant c.args.name in
    let here = same_some _ _ (sym (found c.place_of-place.result c.place_of-place.ensures.there) ∙ found p has) in
    rw c.replace.ensures.after (places-set _ _ c.self.view_is _ _ ∙ ap (λ (k : ℕ). set c.args.self.now.places k None) here)
