use Rattle.std.proofs.Common.{◌≡◌, ◌∙◌, arith, false, inl, inr, subst, sym, ℕ}
use Rattle.std.proofs.Math.Nat.{eq-or-lt_of_le}
use Rattle.lwc_base.proofs.Caps.{none_below, some_below}
use Rattle.lwc_base.specs.World.{context}
use Rattle.lwc_types.specs.declared.key.TheConstants.{SLOTS}
use Rattle.lwc_types.specs.declared.key.Key.TheVariants.{Slot}
use Rattle.lwc_monitor.proofs.trapping.has_common_slot.Goals as goal
use Rattle.lwc_monitor.specs.Traps.{has_common_slot, is_common}

pub slots-init : goal.slots-init
slots-init g c = λ k below. absurd (omega (arith, below))

pub returns-then-is_common : goal.returns-then-is_common
unfolding has_common_slot
returns-then-is_common g c =
    sym (some_below (λ n. is_common ((context (g.W.World.seen c.args.world.now) c.args.target).cell (Slot n))) SLOTS c.slots.n (omega (arith, c.slots-test.true)) (sym c.is_common.ensures ∙ c.if-is_common.true))

pub slots-preserved : goal.slots-preserved
slots-preserved g c = λ k below. elim (eq-or-lt_of_le {n = k} {m = c.slots.n} (omega (arith, below))) as (λ _. is_common ((context (g.W.World.seen c.args.world.now) c.args.target).cell (Slot k)) ≡ false) [
  | inl same ↦ subst (λ (n : ℕ). is_common ((context (g.W.World.seen c.args.world.now) c.args.target).cell (Slot n)) ≡ false) (sym same) (sym c.is_common.ensures ∙ c.if-is_common.false)
  | inr less ↦ c.slots.invariant k less
]

pub returns : goal.returns
unfolding has_common_slot
returns g c =
    sym (none_below (λ n. is_common ((context (g.W.World.seen c.args.world.now) c.args.target).cell (Slot n))) SLOTS (λ k below. c.slots.invariant k (omega (arith, below, c.slots-test.false))))
