use Rattle.std.proofs.Common.{◌≤◌, ◌<◌, ◌-◌, ℕ, get_or}
use Rattle.lwc_text.proofs.schedule.plain_count.Given as goal

abbrev pub invariant-chunks : goal.invariant-chunks
invariant-chunks l = record {
  within : l.count ≤ l.limit;
  plain : (k : ℕ) → k < l.count → (48 ≤ get_or l.bytes k 0) × (get_or l.bytes k 0 < l.end);
}

abbrev pub decreases-chunks : goal.decreases-chunks
decreases-chunks l = l.limit - l.count
