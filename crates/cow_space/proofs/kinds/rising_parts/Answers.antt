use Rattle.std.proofs.Common.{◌≡◌, arith, subst, take}
use Rattle.cow_space.specs.Changes.{RiseFrom}
use Rattle.cow_space.proofs.RisingRuns.{rise_drop}
use Rattle.cow_space.proofs.kinds.rising_parts.Goals as goal

pub returns : goal.returns
returns c = record {
  within = c.rising_from-from.ensures.within;
  last = rise_drop _ _ c.rising_from-from.ensures.rise;
  first = λ zero.
      let none : c.rising_from.result ≡ 0 = grind arith in
      subst (λ n. RiseFrom n (take c.rising_from-from.result c.args.page_runs.now)) none c.rising_from.ensures.rise;
}
