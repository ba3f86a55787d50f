use Rattle.std.proofs.Common.{rules, ◌≡◌, ◌∙◌, false, refl, subst, arith}
use Rattle.kernel_core.specs.Machine.{has_ended}
use Rattle.process_core.proofs.Offers.{longer}
use Rattle.process_core.specs.Running.{AreAdvances}
use Rattle.process_core.specs.Running.Carries.{Still, More}
use Rattle.process_core.proofs.carrier.carry.Goals as goal

pub turns-init : goal.turns-init
turns-init g c = record {
  ours = c.requires.ours;
  number = refl;
  carries = Still;
  fits = subst (λ l. AreAdvances l c.new-stay.result.places) c.text.ensures c.new-stay.ensures.fits;
  few = omega arith;
}

pub turns-preserved : goal.turns-preserved
turns-preserved g c =
    let going : has_ended c.turns.carrier.pass.last.status ≡ false = search rules in
    let on = c.make_turn.ensures.makes.goes_on going in
    record {
      ours = c.make_turn.ensures.makes.ours;
      number = c.make_turn.ensures.makes.number ∙ c.turns.invariant.number;
      carries = More c.turns.carrier.pass c.make_turn.new.pass _ _ c.turns.invariant.carries going c.make_turn.ensures.makes
          (subst (λ left. g.T.CountsTurns.counts c.turns.carrier.turns left c.add.new.self) c.last-in-turns.ensures c.add.ensures.counts);
      fits = c.make_turn.ensures.fits;
      few = omega (arith, longer _ _ _ on, c.turns.invariant.few, c.add.ensures.count);
    }
