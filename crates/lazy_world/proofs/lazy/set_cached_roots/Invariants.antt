use Rattle.std.proofs.Common.{◌≡◌, take}
use Rattle.lazy_world.proofs.lazy.set_cached_roots.Given as goal

abbrev pub invariant-loop-root : goal.invariant-loop-root
invariant-loop-root l = l.cached_roots.items ≡ take l.root-index l.roots
