use Rattle.std.proofs.Common.{[], replicate, sym, ap, ◌∙◌, subst}
use Rattle.cow_space.specs.RowSeen.{maps}
use Rattle.cow_space.specs.Cells.{all_cells, all_rights}
use Rattle.cow_space.specs.Kept.{IsKept}
use Rattle.cow_space.specs.Seen.{cells, rights}
use Rattle.cow_space.proofs.Places.{none-all, none-kept, none-rights}
use Rattle.cow_space.proofs.cells.PageCells.open.Goals as goal

pub invariant_of-result : goal.invariant_of-result
invariant_of-result c =
    record {
      kept = subst (IsKept (maps c.in_ok-rows.rows)) (sym c.in_ok-kinds.ensures)
          (subst (λ ms. IsKept ms (replicate c.args.places [])) (sym c.in_ok-rows.ensures.maps) (none-kept c.args.places));
      bare = λ i _. c.in_ok-rows.ensures.empty i;
    }

pub returns-clause-cells : goal.returns-clause-cells
unfolding cells
returns-clause-cells c =
    (λ x. all_cells (c.in_ok-kinds.ensures x) (c.in_ok-rows.ensures.maps x)) ∙ none-all c.args.places

pub returns-clause-rights : goal.returns-clause-rights
unfolding rights
returns-clause-rights c = ap all_rights c.in_ok-kinds.ensures ∙ none-rights c.args.places

pub returns-clause-frames : goal.returns-clause-frames
returns-clause-frames c = c.in_ok-rows.ensures.frames

pub returns-clause-nodes : goal.returns-clause-nodes
returns-clause-nodes c = c.in_ok-rows.ensures.nodes
