use Rattle.std.proofs.Common.{◌∙◌, inl, inr, arith, sym}
use Rattle.std.proofs.lemmas.Bool.{cases_lt}
use Rattle.lwc_base.specs.Cells.{value_of}
use Rattle.lwc_base.specs.Summaries.{is_empty}
use Rattle.lwc_types.specs.declared.key.Key.TheVariants.{Slot}
use Rattle.lazy_world.specs.Seen.{rows}
use Rattle.lazy_world.specs.Worlds.{seen}
use Rattle.lazy_world.proofs.EmptyLemmas.{find-here, find-missed}
use Rattle.lazy_world.proofs.world.PlacedWorld.lowest_empty_at.Goals as goal

pub returns-then-is_slot_empty : goal.returns-then-is_slot_empty
returns-then-is_slot_empty c =
    let w = c.args.self.now in
    let lowest = c.in-Some.ensures.some in
    sym
    (find-here (λ m. is_empty (value_of (seen w) (Slot m) (rows w.places c.args.place (Slot m)))) 0 64 c.in-Some.n (omega arith) (omega (arith, lowest.below))
    (λ m lt. elim (cases_lt m c.slots.from) [
      | inl before ↦ c.slots.invariant.past m before
      | inr from ↦ c.open_slots-open.ensures m (omega (arith, lt, lowest.below)) (lowest.lowest m from lt)
    ])
    (sym c.is_slot_empty.ensures ∙ c.if-is_slot_empty.true))

pub returns : goal.returns
returns c =
    let w = c.args.self.now in
    sym
    (find-missed (λ m. is_empty (value_of (seen w) (Slot m) (rows w.places c.args.place (Slot m)))) 0 64
    (λ m lt. elim (cases_lt m c.slots.from) [
      | inl before ↦ c.slots.invariant.past m before
      | inr from ↦ c.open_slots-open.ensures m (omega (arith, lt)) (c.in_default.ensures.none m from (omega (arith, lt)))
    ]))
