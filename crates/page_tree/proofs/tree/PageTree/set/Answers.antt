use Rattle.std.proofs.Common.{ap, sym, ◌∙◌, arith}
use Rattle.page_tree.specs.Pages.{entry_below}
use Rattle.page_tree.proofs.TreeLemmas.{tree-loose, own-tree, KeepsTrees-moved, KeepsMaps-moved, page-named, page-same, page-is}
use Rattle.page_tree.proofs.tree.PageTree.set.Goals as goal

pub set_at-root-requires-clause-loose : goal.set_at-root-requires-clause-loose
set_at-root-requires-clause-loose c = rw c.self.view_is (tree-loose _ _ _ c.requires.sound c.requires.tree)

pub returns-clause-page : goal.returns-clause-page
returns-clause-page c = page-is _ _ c.args.page_number c.args.cell c.set_at-root.ensures.page

pub returns-clause-pages : goal.returns-clause-pages
returns-clause-pages c = λ q off lt. rw (← c.self.view_is) (page-same _ _ _ _ q (c.set_at-root.ensures.pages q (omega (arith, lt)) off))

pub returns-clause-tree : goal.returns-clause-tree
returns-clause-tree c = own-tree _ _ c.set_at-root.ensures.own

pub returns-clause-trees : goal.returns-clause-trees
returns-clause-trees c = rw (← c.self.view_is) (KeepsTrees-moved _ _ _ _ _ _ c.requires.sound c.set_at-root.ensures.sound c.set_at-root.ensures.moves)

pub returns-clause-maps : goal.returns-clause-maps
returns-clause-maps c = rw (← c.self.view_is) (KeepsMaps-moved _ _ _ _ _ _ c.requires.sound c.set_at-root.ensures.sound c.set_at-root.ensures.moves)

pub returns-clause-frames : goal.returns-clause-frames
returns-clause-frames c = c.set_at-root.ensures.moves.framed

pub returns-clause-grows : goal.returns-clause-grows
returns-clause-grows c = λ is. c.set_at-root.ensures.grows (page-named _ _ c.args.page_number c.args.cell is ∙ ap (λ tree. entry_below c.args.store.now.nodes.all 3 tree c.args.page_number) (sym c.self.view_is))
