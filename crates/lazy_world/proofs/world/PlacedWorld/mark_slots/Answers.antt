use Rattle.std.proofs.Common.{◌∙◌, ap, arith, refl, sym}
use Rattle.std.specs.Prelude.{◌||◌}
use Rattle.std.specs.List.{list_any, range_with_len}
use Rattle.lwc_base.specs.Life.{is_in}
use Rattle.lwc_types.specs.declared.key.TheConstants.{SLOTS}
use Rattle.lwc_types.specs.declared.key.Key.TheVariants.{Slot}
use Rattle.lazy_world.specs.Reaping.{is_name}
use Rattle.lazy_world.specs.Seen.{rows}
use Rattle.lazy_world.proofs.MarkLemmas.{adds-more, adds-none, adds-same, any_more, any_past, in-own, name_of_cell}
use Rattle.lazy_world.proofs.world.PlacedWorld.mark_slots.Goals as goal

pub slots-init : goal.slots-init
slots-init c = record { below = omega arith; marked = adds-none c.args.self.now.groups.places _ c.args.marks.now (λ g. refl) }

pub slots-preserved : goal.slots-preserved
slots-preserved c =
    let row = rows c.args.self.now.places c.args.place in
    let n = c.in-Some.n in
    let lowest = c.in-Some.ensures.some in
    record {
      below = omega (arith, lowest.below);
      marked = adds-more c.args.self.now.groups.places _ _ _ _ _ _ c.slots.invariant.marked c.mark_group.ensures
          (λ g.
          ap (λ b. b || is_name c.slot_group.result g)
          (any_past (λ k. is_in g (row (Slot k))) c.slots.from n lowest.after
          (λ k from to. in-own g (row (Slot k)) (sym (c.common-common.ensures k (omega (arith, to, lowest.below))) ∙ lowest.lowest k from to)))
          ∙ ap (λ b. list_any (λ k. is_in g (row (Slot k))) (range_with_len 0 n) || b) (ap (λ o. is_name o g) c.slot_group.ensures ∙ name_of_cell (row (Slot n)) g)
          ∙ any_more (λ k. is_in g (row (Slot k))) n);
    }

pub returns : goal.returns
returns c =
    let row = rows c.args.self.now.places c.args.place in
    adds-same c.args.self.now.groups.places _ _ _ _ c.slots.invariant.marked
    (λ g.
    any_past (λ k. is_in g (row (Slot k))) c.slots.from SLOTS c.slots.invariant.below
    (λ k from to. in-own g (row (Slot k)) (sym (c.common-common.ensures k to) ∙ c.in_default.ensures.none k from to)))
