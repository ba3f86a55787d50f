use Rattle.std.proofs.Common.{[], set, ap, ◌∙◌, arith, refl, subst, sym}
use Rattle.range_map.specs.Kinds.{kind_at, state_at}
use Rattle.cow_space.specs.Cells.{all_cells, all_rights}
use Rattle.cow_space.specs.Kept.{IsKept}
use Rattle.cow_space.specs.Maps as rows
use Rattle.cow_space.specs.RowSeen.{HasNoTree, maps}
use Rattle.cow_space.specs.Seen.{cells, rights}
use Rattle.cow_space.proofs.Places.{may-none, none-cells, none-write}
use Rattle.cow_space.proofs.Views.{bare-still, cells-set, kept-still, kinds-in, no-tree, rights-set, row-in}
use Rattle.cow_space.proofs.cells.PageCells.clear_place.Goals as goal

pub index_mut-requires : goal.index_mut-requires
index_mut-requires c = omega (arith, kinds-in c.args.self.now c.args.place c.requires.place)

pub drop_row-requires : goal.drop_row-requires
drop_row-requires c = record { row = row-in c.args.self.now c.args.place c.requires.place }

pub returns-clause-cells : goal.returns-clause-cells
unfolding cells
returns-clause-cells c =
    let w = c.args.self.now in
    ap (λ s. all_cells (set w.kinds c.args.place s) (maps c.drop_row.new.self)) c.clear.ensures
    ∙ cells-set w c.args.place [] rows.no_pages (maps c.drop_row.new.self) c.requires.place c.drop_row.ensures.maps
    ∙ ap (set (cells w) c.args.place) (none-cells rows.no_pages)

pub returns-clause-rights : goal.returns-clause-rights
unfolding rights
returns-clause-rights c =
    let w = c.args.self.now in
    ap (λ s. all_rights (set w.kinds c.args.place s)) c.clear.ensures ∙ rights-set w c.args.place [] ∙ ap (set (rights w) c.args.place) none-write

pub invariant_of-self : goal.invariant_of-self
unfolding state_at
invariant_of-self c =
    let w = c.args.self.now in
    record {
      kept = subst (λ s. IsKept (maps c.drop_row.new.self) (set w.kinds c.args.place s)) (sym c.clear.ensures)
          (kept-still w c.args.place [] rows.no_pages (maps c.drop_row.new.self) c.requires.place c.drop_row.ensures.maps (λ p. may-none (kind_at [] p)) (λ p past. refl));
      bare = bare-still w c.args.place c.clear.new.self (HasNoTree c.drop_row.new.self) c.requires.place c.drop_row.ensures.others (λ _. c.drop_row.ensures.empty);
    }

pub returns-clause-cost_empty : goal.returns-clause-cost_empty
returns-clause-cost_empty c empty = c.drop_row.ensures.cost_empty (no-tree c.args.self.now c.args.place empty)
