-- What a step may change of a context, it touches.
use Rattle.std.proofs.Common.{ℕ, refl}
use Rattle.kernel_core.specs.Machine.{Machine}
use Rattle.lwc_types.specs.declared.key.Key.{Key}
use Rattle.lwc_types.specs.declared.name.Name.{Name}
use Rattle.confinement.specs.May.{MayChange, OfItsOwn, OfTheChosen, OfTheGiver, OfTheTarget}
use Rattle.confinement.specs.Snapshots.{Chosen, Entered, Inside, SharedFrom, Touches}

pub touching : (m : Machine) (t : ℕ) (c : Name) (k : Key) → MayChange m t c k → Touches m t c
touching m t _ _ (OfItsOwn x k found) = Inside x found refl
touching m t _ _ (OfTheTarget x d held n calls given lowest) = Entered x held calls given
touching m t _ _ (OfTheGiver x d held k calls given has named) = SharedFrom x held k calls given named
touching m t _ _ (OfTheChosen x d held k calls given has chosen) = Chosen x held calls given
