use Rattle.std.proofs.Common.{◌<◌, ℕ, get_or}
use Rattle.access_cap.proofs.Keys.{HasBitsOf}
use Rattle.access_cap.proofs.sets.includes.Given as goal

abbrev pub invariant-parts : goal.invariant-parts
invariant-parts l = (i : ℕ) → i < l.i → HasBitsOf (get_or l.cap.pages i 0) (get_or l.part.pages i 0)
