use Rattle.std.proofs.Common.{ℕ, set, sym, ap, ◌∙◌, arith, subst}
use Rattle.range_map.specs.Kinds.{kind_at, ranges}
use Rattle.cow_space.specs.Cells.{all_cells, all_rights, segments_of}
use Rattle.cow_space.specs.Kept.{HasNoOwnPage, IsKept}
use Rattle.cow_space.specs.Maps.{row_of}
use Rattle.cow_space.specs.Maps as rows
use Rattle.cow_space.specs.RowSeen.{HasNoTree, maps}
use Rattle.cow_space.specs.Seen.{cells, rights}
use Rattle.cow_space.proofs.OwnPages.{no-own-cells}
use Rattle.cow_space.proofs.Places.{may-none}
use Rattle.cow_space.proofs.Views.{bare-still, cells-set, kept-still, kinds-in, no-tree, place-at, read-segments, read-states, rights-at, rights-set, row-in}
use Rattle.cow_space.specs.Tags.{used}
use Rattle.cow_space.proofs.FreeLemmas.{free-same}
use Rattle.cow_space.proofs.Taken.{cloned-used}
use Rattle.cow_space.proofs.cells.PageCells.clone_place.Goals as goal
use Rattle.lwc_types.specs.declared.limits.TheConstants.{MOST_PAGES}

pub index-requires : goal.index-requires
index-requires c = omega (arith, kinds-in c.args.self.now c.args.from c.requires.from)

pub copy-requires-clause-to : goal.copy-requires-clause-to
copy-requires-clause-to c = omega (arith, kinds-in c.args.self.now c.args.to c.requires.to)

pub copy-requires-clause-from : goal.copy-requires-clause-from
copy-requires-clause-from c = omega (arith, kinds-in c.args.self.now c.args.from c.requires.from)

pub clone_row-requires-clause-to : goal.clone_row-requires-clause-to
clone_row-requires-clause-to c = row-in c.args.self.now c.args.to c.requires.to

pub clone_row-requires-clause-from : goal.clone_row-requires-clause-from
clone_row-requires-clause-from c = row-in c.args.self.now c.args.from c.requires.from

pub invariant_of-self : goal.invariant_of-self
invariant_of-self c =
    let w = c.args.self.now in
    let read = read-segments w c.args.from c.index.result.now c.requires.from c.index.ensures in
    let some = c.has_own_page-some.ensures.some c.if-some.true in
    record {
      kept = subst (IsKept (maps c.clone_row.new.self)) (sym c.copy.ensures)
          (kept-still w c.args.to (segments_of w.kinds c.args.from) (row_of (maps w.rows) c.args.from) (maps c.clone_row.new.self) c.requires.to c.clone_row.ensures.maps (w.kept.fit c.args.from) (w.kept.within c.args.from));
      bare = subst (λ kinds. (i : ℕ) → HasNoOwnPage (segments_of kinds i) → HasNoTree c.clone_row.new.self i) (sym c.copy.ensures)
          (bare-still w c.args.to (segments_of w.kinds c.args.from) (HasNoTree c.clone_row.new.self) c.requires.to c.clone_row.ensures.others
          (λ none. absurd (some (subst HasNoOwnPage (sym read) none))));
    }

pub drop_row-requires : goal.drop_row-requires
drop_row-requires c = record { row = row-in c.args.self.now c.args.to c.requires.to }

pub invariant_of-self-else-some : goal.invariant_of-self-else-some
invariant_of-self-else-some c =
    let w = c.args.self.now in
    record {
      kept = subst (IsKept (maps c.drop_row.new.self)) (sym c.copy.ensures)
          (kept-still w c.args.to (segments_of w.kinds c.args.from) rows.no_pages (maps c.drop_row.new.self) c.requires.to c.drop_row.ensures.maps
          (λ p. may-none (kind_at (segments_of w.kinds c.args.from) p)) (w.kept.within c.args.from));
      bare = subst (λ kinds. (i : ℕ) → HasNoOwnPage (segments_of kinds i) → HasNoTree c.drop_row.new.self i) (sym c.copy.ensures)
          (bare-still w c.args.to (segments_of w.kinds c.args.from) (HasNoTree c.drop_row.new.self) c.requires.to c.drop_row.ensures.others (λ _. c.drop_row.ensures.empty));
    }

pub returns-then-some-clause-cells : goal.returns-then-some-clause-cells
unfolding cells
returns-then-some-clause-cells c =
    let w = c.args.self.now in
    ap (λ kinds. all_cells kinds (maps c.clone_row.new.self)) c.copy.ensures
    ∙ cells-set w c.args.to (segments_of w.kinds c.args.from) (row_of (maps w.rows) c.args.from) (maps c.clone_row.new.self) c.requires.to c.clone_row.ensures.maps
    ∙ ap (set (cells w) c.args.to) (sym (place-at w c.args.from))

pub returns-then-some-clause-rights : goal.returns-then-some-clause-rights
unfolding rights
returns-then-some-clause-rights c =
    let w = c.args.self.now in
    ap all_rights c.copy.ensures
    ∙ rights-set w c.args.to (segments_of w.kinds c.args.from)
    ∙ ap (set (rights w) c.args.to) (sym (rights-at w c.args.from))

pub returns-then-some-clause-cost_empty : goal.returns-then-some-clause-cost_empty
returns-then-some-clause-cost_empty c empty =
    let w = c.args.self.now in
    omega (arith, c.clone_row.ensures.cost_empty (no-tree w c.args.to empty), c.has_own_page-some.ensures.ranges c.if-some.true, ap (ranges MOST_PAGES) (read-states w c.args.from c.index.result.now c.requires.from c.index.ensures))

pub returns-else-some-clause-cells : goal.returns-else-some-clause-cells
unfolding cells
returns-else-some-clause-cells c =
    let w = c.args.self.now in
    let read = read-segments w c.args.from c.index.result.now c.requires.from c.index.ensures in
    let none = subst HasNoOwnPage read (c.has_own_page-some.ensures.none c.if-some.false) in
    ap (λ kinds. all_cells kinds (maps c.drop_row.new.self)) c.copy.ensures
    ∙ cells-set w c.args.to (segments_of w.kinds c.args.from) rows.no_pages (maps c.drop_row.new.self) c.requires.to c.drop_row.ensures.maps
    ∙ ap (set (cells w) c.args.to)
    (no-own-cells (segments_of w.kinds c.args.from) rows.no_pages (row_of (maps w.rows) c.args.from) none ∙ sym (place-at w c.args.from))

pub returns-else-some-clause-rights : goal.returns-else-some-clause-rights
unfolding rights
returns-else-some-clause-rights c =
    let w = c.args.self.now in
    ap all_rights c.copy.ensures
    ∙ rights-set w c.args.to (segments_of w.kinds c.args.from)
    ∙ ap (set (rights w) c.args.to) (sym (rights-at w c.args.from))

pub returns-else-some-clause-cost_empty : goal.returns-else-some-clause-cost_empty
returns-else-some-clause-cost_empty c empty = omega (arith, c.drop_row.ensures.cost_empty (no-tree c.args.self.now c.args.to empty))

pub returns-then-some-clause-free_empty : goal.returns-then-some-clause-free_empty
returns-then-some-clause-free_empty c empty =
    free-same c.args.self.now _ c.clone_row.ensures.frames
    (ap used (returns-then-some-clause-cells c) ∙ cloned-used (cells c.args.self.now) c.args.to c.requires.to empty c.args.from c.requires.from)

pub returns-else-some-clause-free_empty : goal.returns-else-some-clause-free_empty
returns-else-some-clause-free_empty c empty =
    free-same c.args.self.now _ c.drop_row.ensures.frames
    (ap used (returns-else-some-clause-cells c) ∙ cloned-used (cells c.args.self.now) c.args.to c.requires.to empty c.args.from c.requires.from)
