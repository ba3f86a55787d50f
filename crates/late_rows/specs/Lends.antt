-- What rows end as, where a `&mut` to one of them is returned.
use Rattle.std.specs.Prelude.{ℕ, List, slice_set}
use Rattle.std.specs.Borrow.{Lends, Fml, RattleType, MutBor}
use Rattle.late_rows.specs.declared.rows.Fresh.{Ghosts}
use Rattle.late_rows.specs.contracts.rows.LateRows.{the_row}

-- once the borrow ends, the row has the last value written through it
abbrev pub lends_row : (T : RattleType) → Ghosts T.Denot → MutBor (List T.Denot) → ℕ → MutBor T.Denot → Fml
lends_row T fresh s row r = Lends (the_row T fresh) T s r (slice_set s.now row)
