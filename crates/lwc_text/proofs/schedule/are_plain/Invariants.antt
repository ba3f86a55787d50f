use Rattle.std.proofs.Common.{◌≤◌, ◌<◌, ℕ, get_or, IsTrue}
use Rattle.lwc_text.proofs.schedule.are_plain.Given as goal

abbrev pub invariant-bytes : goal.invariant-bytes
invariant-bytes l = IsTrue l.plain → (k : ℕ) → k < l.byte-index → (48 ≤ get_or l.bytes k 0) × (get_or l.bytes k 0 < l.end)
