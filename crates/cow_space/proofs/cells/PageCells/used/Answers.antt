use Rattle.std.proofs.Common.{arith, sym, ◌∙◌}
use Rattle.cow_space.specs.RowSeen.{frames_of, maps}
use Rattle.cow_space.proofs.OwnTags.{used-rows}
use Rattle.cow_space.proofs.UsedLemmas.{used-is}
use Rattle.cow_space.proofs.cells.PageCells.used.Goals as goal

pub returns-clause-used : goal.returns-clause-used
unfolding maps
returns-clause-used c =
    c.used.ensures.used ∙ used-is _ _ _ c.args.self.now.rows.kept ∙ sym (used-rows c.args.self.now)

pub returns-clause-within : goal.returns-clause-within
unfolding frames_of
returns-clause-within c = omega (arith, c.used.ensures.all)
