use Rattle.std.proofs.Common.{◌∙◌, Some, ap, refl}
use Rattle.std.specs.Option.{option_map}
use Rattle.ctx_table.proofs.Taken.{held_entry, is_place, kept_read, named_held, name-read, value-indexed, value-set}
use Rattle.ctx_table.proofs.table.CtxTable.value_mut.Goals as goal

pub value_mut-requires : goal.value_mut-requires
value_mut-requires g c =
    named_held c.index_mut.result.now c.args.name (name-read _ _ refl c.place_of-place.result c.index_mut.result.now c.args.name c.index_mut.ensures.value
    (is_place _ _ refl _ c.place_of-place.ensures.within) c.place_of-place.ensures.there)

pub invariant_of-self-lent : goal.invariant_of-self-lent
invariant_of-self-lent g c w =
    let entry = held_entry c.index_mut.result.now c.args.name (name-read _ _ refl c.place_of-place.result c.index_mut.result.now c.args.name c.index_mut.ensures.value
    (is_place _ _ refl _ c.place_of-place.ensures.within) c.place_of-place.ensures.there) in
    value-indexed _ _ refl _ c.self.invariant c.args.name c.place_of-place.result c.index_mut.result.now c.index_mut.ensures.value
    c.place_of-place.ensures.within c.place_of-place.ensures.there entry.0 entry.1 w

pub returns : goal.returns
returns g c =
    let entry = held_entry c.index_mut.result.now c.args.name (name-read _ _ refl c.place_of-place.result c.index_mut.result.now c.args.name c.index_mut.ensures.value
    (is_place _ _ refl _ c.place_of-place.ensures.within) c.place_of-place.ensures.there) in
    let found = kept_read _ _ refl _ c.self.invariant c.args.name c.place_of-place.result c.index_mut.result.now c.index_mut.ensures.value
    c.place_of-place.ensures.within c.place_of-place.ensures.there entry.0 entry.1 in (
      (
        refl,
        λ w. rw (← c.self.view_is) (value-set _ _ refl _ c.self.invariant c.args.name c.place_of-place.result c.index_mut.result.now c.index_mut.ensures.value
            c.place_of-place.ensures.within c.place_of-place.ensures.there entry.0 entry.1 w),
      ),
      record { writes_back = tt; value = rw (← c.self.view_is) (ap (option_map (λ kept. kept.value)) found ∙ ap (λ v. Some v) (c.value_mut.ensures.value c.args.name entry.0 entry.1)) },
    )
