use Rattle.std.proofs.Common.{◌≡◌, ◌+◌, ◌*◌, map}
use Rattle.std.specs.Int.{to_le_bytes, w64}
use Rattle.std.specs.List.{range_with_len}
use Rattle.lwc_gen.proofs.generating.requests.Given as goal

abbrev pub invariant-loop-r : goal.invariant-loop-r
invariant-loop-r l = l.requests.items ≡ map (λ r. to_le_bytes w64 (1000 * l.number + r)) (range_with_len 0 l.r)
