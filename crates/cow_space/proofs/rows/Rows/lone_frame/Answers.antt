use Rattle.std.proofs.Common.{◌≡◌, ◌≢◌, ◌<◌, ℕ, true, ltb, length, get_or, sym, ap, ◌∙◌, arith}
use Rattle.std.proofs.lemmas.Bool.{le-ltb, lt-ltb}
use Rattle.frame_pool.specs.declared.pool.FrameNo.{FrameNo}
use Rattle.page_tree.specs.declared.cell.PageCell.{PageCell}
use Rattle.cow_space.specs.declared.rows.Rows.{Rows}
use Rattle.cow_space.specs.Maps.{row_of}
use Rattle.page_tree.specs.declared.cell.PageCell.TheVariants as cell
use Rattle.page_tree.specs.declared.store.TheConstants.{PAGES}
use Rattle.page_tree.specs.Pages.{entry_for, page}
use Rattle.page_tree.specs.Short.{page_short}
use Rattle.page_tree.specs.Tied.{page_of}
use Rattle.frame_pool.specs.Frame.{frame_count}
use Rattle.cow_space.specs.Trees.{cell_value}
use Rattle.cow_space.specs.RowSeen.{maps}
use Rattle.cow_space.specs.Tags.{parts, row_tags}
use Rattle.cow_space.proofs.Trees.{parting-none}
use Rattle.cow_space.proofs.UsedLemmas.{inside-frame, parting-shared, parting-alone}
use Rattle.cow_space.proofs.RowViews.{is-tree, row-value, tree-in, tree-read}
use Rattle.page_tree.proofs.HolderLemmas.{held-frame}
use Rattle.cow_space.proofs.rows.Rows.lone_frame.Goals as goal
use Rattle.cow_space.proofs.rows.Rows.lone_frame.Goals.{else-alone-via-then-alone+else-count-eq1, else-alone-via-else-alone}

pub index-requires : goal.index-requires
index-requires c = omega (arith, tree-in c.args.self.now c.args.place c.requires.row, c.args.self.now.trees.ok)

pub look-cell-requires-clause-tree : goal.look-cell-requires-clause-tree
look-cell-requires-clause-tree c =
    is-tree c.args.self.now c.args.place _ c.requires.row c.index.ensures

module _ (w : Rows) (i p tree : ℕ) (was : PageCell) (f : FrameNo) (inside : i < length (maps w)) (below : p < PAGES) (read : tree ≡ get_or w.trees.items i tree) (look : was ≡ page w.store.nodes.all tree p) (is : was ≡ cell.Frame f) where
  at : page_of w.store.nodes.all w.trees.items i p ≡ cell.Frame f
  at = ap (λ t. page w.store.nodes.all t p) (sym (tree-read w i tree inside read)) ∙ sym look ∙ is

  held : 0 < frame_count w.store.frames f.n
  held = held-frame w.store.nodes.all w.store.frames w.trees.items w.kept.tied f.n (record { k = i; p = p; inside = tree-in w i inside; below = below; has = at })

  shared : (page_short w.store.nodes.all tree p ≢ 0) → parts (row_tags (maps w)) (row_of (maps w) i p) ≡ true
  unfolding maps
  shared short =
      parting-shared w.store.nodes.all w.store.frames w.trees.items w.kept i p f.n (tree-in w i inside) below at
      (λ none. short (ap (λ t. page_short w.store.nodes.all t p) (tree-read w i tree inside read) ∙ none))

  alone : (page_short w.store.nodes.all tree p ≡ 0) → parts (row_tags (maps w)) (row_of (maps w) i p) ≡ ltb 1 (frame_count w.store.frames f.n)
  unfolding maps
  alone none =
      parting-alone w.store.nodes.all w.store.frames w.trees.items w.kept i p f.n (tree-in w i inside) below at
      (ap (λ t. page_short w.store.nodes.all t p) (sym (tree-read w i tree inside read)) ∙ none)

pub count-requires : goal.count-requires
count-requires c =
    inside-frame c.args.self.now.store.frames c.in-Frame.frame.n
    (held c.args.self.now c.args.place c.args.page_number c.index.result.now c.look-cell.result.0 c.in-Frame.frame c.requires.row c.requires.page c.index.ensures c.look-cell.ensures.cell c.in-Frame.is)

pub returns-then-count-eq1-clause-frame : goal.returns-then-count-eq1-clause-frame
returns-then-count-eq1-clause-frame c =
    at c.args.self.now c.args.place c.args.page_number c.index.result.now c.look-cell.result.0 c.in-Frame.frame c.requires.row c.requires.page c.index.ensures c.look-cell.ensures.cell c.in-Frame.is

pub returns-then-count-eq1-clause-alone : goal.returns-then-count-eq1-clause-alone
returns-then-count-eq1-clause-alone c =
    let count = c.count.ensures in
    alone c.args.self.now c.args.place c.args.page_number c.index.result.now c.look-cell.result.0 c.in-Frame.frame c.requires.row c.requires.page c.index.ensures c.look-cell.ensures.cell c.in-Frame.is (c.look-cell.ensures.alone.0 c.if-alone.true)
    ∙ le-ltb 1 _ (omega (arith, count, c.if-count-eq1.true))

pub returns-else-alone-clause-parts : goal.returns-else-alone-clause-parts
returns-else-alone-clause-parts c =
    let w = c.args.self.now in
    let some = held w c.args.place c.args.page_number c.index.result.now c.look-cell.result.0 c.in-Frame.frame c.requires.row c.requires.page c.index.ensures c.look-cell.ensures.cell c.in-Frame.is in
    elim c.else-alone.branch [
      | else-alone-via-then-alone+else-count-eq1 b ↦
          alone w c.args.place c.args.page_number c.index.result.now c.look-cell.result.0 c.in-Frame.frame c.requires.row c.requires.page c.index.ensures c.look-cell.ensures.cell c.in-Frame.is (c.look-cell.ensures.alone.0 b.if-alone.true)
          ∙ lt-ltb 1 _ (let count = b.count.ensures in let off = b.if-count-eq1.false in omega (arith, count, off, some))
      | else-alone-via-else-alone b ↦
          shared w c.args.place c.args.page_number c.index.result.now c.look-cell.result.0 c.in-Frame.frame c.requires.row c.requires.page c.index.ensures c.look-cell.ensures.cell c.in-Frame.is
          (λ none. let yes = c.look-cell.ensures.alone.1 none in let off = b.if-alone.false in absurd (cc (yes, off)))
    ]

pub returns-in_default : goal.returns-in_default
unfolding maps
returns-in_default c = record {
  frame = tt;
  lone = tt;
  alone = tt;
  parts =
      let tree_is = tree-read c.args.self.now c.args.place _ c.requires.row c.index.ensures in
      ap (parts (row_tags (maps c.args.self.now))) (row-value c.args.self.now c.args.place c.args.page_number c.requires.row c.requires.page ∙ ap (cell_value c.args.self.now.store.frames) (ap (λ t. page c.args.self.now.store.nodes.all t c.args.page_number) (sym tree_is) ∙ sym c.look-cell.ensures.cell))
      ∙ parting-none (row_tags (maps c.args.self.now)) c.args.self.now.store.frames c.look-cell.result.0 c.in_default.not-Frame;
}

pub returns-then-count-eq1-clause-lone : goal.returns-then-count-eq1-clause-lone
returns-then-count-eq1-clause-lone c =
    let w = c.args.self.now in
    let tree_is = tree-read w c.args.place c.index.result.now c.requires.row c.index.ensures in
    record {
      to = record {
        inside = tree-in w c.args.place c.requires.row;
        below = c.requires.page;
        there = ap entry_for (at w c.args.place c.args.page_number c.index.result.now c.look-cell.result.0 c.in-Frame.frame c.requires.row c.requires.page c.index.ensures c.look-cell.ensures.cell c.in-Frame.is);
      };
      path = ap (λ t. page_short w.store.nodes.all t c.args.page_number) (sym tree_is) ∙ c.look-cell.ensures.alone.0 c.if-alone.true;
      once = let count = c.count.ensures in omega (arith, count, c.if-count-eq1.true);
    }
