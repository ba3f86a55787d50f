use Rattle.std.proofs.Common.{◌≡◌, ℕ, ◌<◌, ◌≤◌, Some, true}
use Rattle.std.specs.Prelude.{slice_get}
use Rattle.std.specs.FinMap as fm
use Rattle.lwc_types.specs.declared.name.Name.{Name}
use Rattle.reach.specs.Reach.{is_marked}
use Rattle.lazy_world.proofs.world.PlacedWorld.first_unmarked.Given as goal

abbrev pub invariant-loop-k : goal.invariant-loop-k
invariant-loop-k l =
    (n : ℕ) → l.from ≤ n → n < l.k → (g : Name) (j : ℕ) → slice_get (fm.keys l.self.groups.map) n ≡ Some g → fm.get l.self.groups.map g ≡ Some j → is_marked l.marks j ≡ true
