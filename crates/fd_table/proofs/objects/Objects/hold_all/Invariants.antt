use Rattle.std.proofs.Common.{◌≡◌, ℕ, List, ◌++◌, length}
use Rattle.std.specs.Slice.Iter.{chunks_rest, chunks_size}
use Rattle.fd_table.specs.Objects.{HoldsMore}
use Rattle.fd_table.proofs.objects.Objects.hold_all.Given as goal

abbrev pub invariant-loop-chunk : goal.invariant-loop-chunk
invariant-loop-chunk l =
    goal.iterator-loop-chunk.can_next l.chunk-iterator
    × goal.iterator-loop-chunk.is_finite l.chunk-iterator
    × (chunks_size l.chunk-iterator ≡ 8)
    × (length l.self.named.items ≡ length l.fn.self.named.items)
    × ((done : List ℕ) × HoldsMore l.fn.self.pool l.self.pool done × (done ++ chunks_rest l.chunk-iterator ≡ l.entries))
