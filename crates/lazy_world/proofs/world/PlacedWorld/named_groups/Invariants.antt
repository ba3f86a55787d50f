use Rattle.std.proofs.Common.{◌≡◌, ℕ, ◌<◌, [], Some, true}
use Rattle.std.specs.Prelude.{slice_get}
use Rattle.std.specs.FinMap as fm
use Rattle.std.specs.List.{list_any, range_with_len}
use Rattle.lwc_types.specs.declared.name.Name.{Name}
use Rattle.reach.specs.Reach.{is_marked}
use Rattle.lazy_world.specs.Reaping.{AddsMarks, names_at}
use Rattle.lazy_world.specs.Worlds.{parts}
use Rattle.lazy_world.proofs.world.PlacedWorld.named_groups.Given as goal

abbrev pub invariant-loop-i : goal.invariant-loop-i
invariant-loop-i l = record {
  adds : AddsMarks l.self.groups.places (λ g. list_any (names_at (parts l.self) g) (range_with_len 0 l.i)) [] l.marks;
  marked : (n : ℕ) (g : Name) (j : ℕ) → n < l.k → slice_get (fm.keys l.self.groups.map) n ≡ Some g → fm.get l.self.groups.map g ≡ Some j → is_marked l.marks j ≡ true;
}
