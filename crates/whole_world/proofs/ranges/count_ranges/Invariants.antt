use Rattle.std.proofs.Common.{◌≡◌, ℕ, ◌+◌, ◌-◌, ◌<◌, ◌≤◌}
use Rattle.std.specs.Prelude.{count_by}
use Rattle.std.specs.List.{range_with_len}
use Rattle.whole_world.specs.declared.holder.Side.{Side}
use Rattle.whole_world.specs.Holders.{begins_at, side_before}
use Rattle.whole_world.proofs.ranges.count_ranges.Given as goal

abbrev pub invariant-loop-p : goal.invariant-loop-p
invariant-loop-p g l = record {
  few : l.count ≤ l.p;
  counted : (each : ℕ → Side) → ((p : ℕ) (s : Side) → p < l.pages → goal.F-post g l.side p s → s ≡ each p) →
      (l.before ≡ side_before each l.p)
      × (l.count + count_by (begins_at each) (range_with_len l.p (l.pages - l.p)) ≡ count_by (begins_at each) (range_with_len 0 l.pages));
}
