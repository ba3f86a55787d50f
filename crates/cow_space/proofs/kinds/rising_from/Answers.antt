use Rattle.std.proofs.Common.{arith}
use Rattle.cow_space.proofs.RisingRuns.{rise_more, rise_none}
use Rattle.cow_space.proofs.kinds.rising_from.Goals as goal

pub rising-init : goal.rising-init
rising-init c = record { within = omega arith; rise = rise_none c.args.page_runs.now }

pub rising-preserved : goal.rising-preserved
rising-preserved c = record {
  within = omega (arith, c.rising.invariant.within);
  rise = rise_more _ c.rising.from c.args.page_runs.now (omega arith) c.rising.invariant.rise (c.rises_at.ensures.order c.if-rises_at.true) (c.rises_at.ensures.next c.if-rises_at.true);
}
