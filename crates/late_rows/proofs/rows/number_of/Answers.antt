use Rattle.std.proofs.Common.{◌≡◌, ℕ, ◌<◌, ◌≤◌, List, arith, get_or, length}
use Rattle.std.proofs.lemmas.Grind.{get_or_default_zero}
use Rattle.late_rows.proofs.rows.number_of.Goals as goal

-- a number that is 0
unmade : (numbers : List ℕ) (row number : ℕ) → row < length numbers → number ≡ get_or numbers row number → number ≤ 0 → get_or numbers row 0 ≡ 0
unmade numbers row number inside is none = omega (arith, is, get_or_default_zero numbers row number inside, none)

pub make-requires : goal.make-requires
make-requires g c =
    record {
      row = c.requires.row;
      kept = c.requires.kept;
      unmade = unmade c.args.numbers.now.items c.args.row _ c.requires.row c.index-number.ensures c.if-number-gt0.false;
    }
