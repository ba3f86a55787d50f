use Rattle.std.proofs.Common.{◌≡◌, Some, length, slice_get}
use Rattle.guest_machine.specs.Advances.{advanced}
use Rattle.process_core.specs.Running.{AreAdvances, AreInRow}
use Rattle.process_core.proofs.stay.propose.Given as goal

-- the first place has the proposal of the registers that were given
abbrev pub invariant-places : goal.invariant-places
invariant-places l = record {
  row : AreInRow l.i l.places;
  long : length l.places ≡ 8;
  fits : AreAdvances l.text l.places;
  first : slice_get l.places 0 ≡ Some (advanced l.text l.regs);
}
