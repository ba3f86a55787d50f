use Rattle.std.proofs.Common.{◌≡◌, ◌+◌, ◌-◌, ◌≤◌, length}
use Rattle.lwc_types.specs.declared.limits.TheConstants.{MOST_STEPS}
use Rattle.process_core.specs.Running.{AreAdvances, Carries, IsPassOf}
use Rattle.process_core.proofs.carrier.carry.Given as goal

abbrev pub invariant-turns : goal.invariant-turns
invariant-turns g l = record {
  ours : IsPassOf l.process l.carrier.pass;
  number : l.carrier.pass.held.number ≡ l.initial.carrier.pass.held.number;
  carries : Carries g.T.CountsTurns.counts l.process l.initial.carrier.pass l.initial.carrier.turns l.carrier.pass l.carrier.turns;
  fits : AreAdvances l.process.name.inputs.image.text l.stay.places;
  few : g.T.CountsTurns.count l.carrier.turns ≤ g.T.CountsTurns.count l.initial.carrier.turns + length l.carrier.pass.held.seen;
}

abbrev pub decreases-turns : goal.decreases-turns
decreases-turns g l = MOST_STEPS - length l.carrier.pass.held.seen
