use Rattle.std.proofs.Common.{◌∙◌, ℕ, ◌<◌, ap, inl, inr, arith, length, length-set, subst, sym, List, Option}
use Rattle.std.proofs.lemmas.Bool.{cases_lt}
use Rattle.lwc_types.specs.declared.key.Key.TheVariants.{Slot}
use Rattle.cow_space.specs.declared.page_runs.Origin.{Origin}
use Rattle.lazy_world.specs.Transfers.{Gives, transferred_row}
use Rattle.lazy_world.specs.Seen.{count, rows}
use Rattle.lazy_world.specs.Origins.{slot_origin}
use Rattle.lazy_world.specs.Worlds.{seen}
use Rattle.lazy_world.proofs.PastLemmas.{no_origin, slot-later, slot-more}
use Rattle.lazy_world.proofs.world.PlacedWorld.slot_origins.Goals as goal

pub slots-init : goal.slots-init
slots-init c = record {
  below = omega arith;
  long = ap length c.requires.none;
  each = λ m below. absurd (omega (arith, below));
  later = λ m from. ap (λ (xs : List (Option Origin)). slot_origin xs m) c.requires.none ∙ no_origin 64 m;
}

pub slots-preserved : goal.slots-preserved
slots-preserved c =
    let w = c.args.self.now in
    let n = c.in-Some.n in
    let lowest = c.in-Some.ensures.some in
    let gives : ℕ → Option Origin → Type 0 = λ m. Gives (count w.places) (rows w.places) c.args.to (Slot m)
    (transferred_row (seen w) c.args.transfer c.args.spec.now (rows w.places c.args.from) (rows w.places c.args.to) (Slot m)) in
    let before : (m : ℕ) → m < n → gives m (slot_origin c.slots.origins m) = λ m low.
    elim (cases_lt m c.slots.next) [
      | inl done ↦ c.slots.invariant.each m done
      | inr from ↦ subst (gives m) (sym (c.slots.invariant.later m from))
          (c.changed_slots-changed.ensures c.args.transfer m (omega (arith, low, lowest.below)) (lowest.lowest m from low))
    ] in
    record {
      below = omega (arith, lowest.below);
      long = length-set c.slots.origins n _ ∙ c.slots.invariant.long;
      each = λ m below. slot-more gives c.slots.origins n m c.slot_origin.result (omega (arith, c.slots.invariant.long, lowest.below)) before c.slot_origin.ensures below;
      later = λ m past. slot-later c.slots.origins n m c.slot_origin.result past ∙ c.slots.invariant.later m (omega (arith, past, lowest.after));
    }

pub returns-clause-long : goal.returns-clause-long
returns-clause-long c = c.slots.invariant.long

pub returns-clause-gives : goal.returns-clause-gives
returns-clause-gives c = λ m low.
    let w = c.args.self.now in
    let gives : ℕ → Option Origin → Type 0 = λ k. Gives (count w.places) (rows w.places) c.args.to (Slot k)
    (transferred_row (seen w) c.args.transfer c.args.spec.now (rows w.places c.args.from) (rows w.places c.args.to) (Slot k)) in
    elim (cases_lt m c.slots.next) [
      | inl done ↦ c.slots.invariant.each m done
      | inr from ↦ subst (gives m) (sym (c.slots.invariant.later m from)) (c.changed_slots-changed.ensures c.args.transfer m low (c.in_default.ensures.none m from low))
    ]
