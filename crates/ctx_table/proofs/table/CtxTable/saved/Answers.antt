use Rattle.std.proofs.Common.{◌∙◌, None, sym, ap}
use Rattle.std.specs.Option.{option_map}
use Rattle.std.specs.Prelude.{slice_index_or}
use Rattle.ctx_table.proofs.Held.{not_some}
use Rattle.ctx_table.proofs.Taken.{is_place, kept_at, place_name, slot-read}
use Rattle.ctx_table.proofs.table.CtxTable.saved.Goals as goal

pub unreachable-requires : goal.unreachable-requires
unreachable-requires g c =
    not_some (ap (option_map (λ e. e.0)) (slot-read _ _ c.self.view_is c.place_of-place.result c.index.result.now _ c.index.ensures
    (is_place _ _ c.self.view_is _ c.place_of-place.ensures.within) c.in-Free.is))
    (sym (place_name _ _ c.self.view_is c.place_of-place.result) ∙ c.place_of-place.ensures.there)

pub returns : goal.returns
returns g c = ap (option_map (λ kept. slice_index_or kept.saved c.args.thread None)) (kept_at _ _ c.self.view_is _ c.self.invariant c.args.name c.place_of-place.result _ c.place_of-place.ensures.there
    (slot-read _ _ c.self.view_is c.place_of-place.result c.index.result.now _ c.index.ensures
    (is_place _ _ c.self.view_is _ c.place_of-place.ensures.within) c.in-Held.is))
