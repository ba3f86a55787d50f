use Rattle.ctx_table.proofs.Rows.{no_rows, same_places}
use Rattle.ctx_table.proofs.index.Index.with_room.Goals as goal

pub returns : goal.returns
returns c = rw c.in_ok-with_capacity.ensures.items (same_places _ _ _ _ no_rows c.in_ok-with_capacity.ensures.exact)
