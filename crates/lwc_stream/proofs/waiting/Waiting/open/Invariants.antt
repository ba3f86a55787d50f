use Rattle.std.proofs.Common.{◌≡◌, None, replicate}
use Rattle.lwc_stream.proofs.waiting.Waiting.open.Given as goal

abbrev pub invariant-places : goal.invariant-places
invariant-places l = l.places.items ≡ replicate l.counter None
