use Rattle.std.proofs.Common.{◌*◌, arith, refl, ◌∙◌}
use Rattle.page_tree.proofs.PageLemmas.{page_short-le, root-alone}
use Rattle.table_suite.proofs.trees.fill.Goals as goal

pub pages-init : goal.pages-init
pages-init c = record { sound = c.requires.sound; tree = c.requires.tree; alone = λ some. absurd (omega (arith, some)); room = omega arith; size = refl }

pub set-requires-clause-sound : goal.set-requires-clause-sound
set-requires-clause-sound c = c.pages.invariant.sound

pub set-requires-clause-tree : goal.set-requires-clause-tree
set-requires-clause-tree c = c.pages.invariant.tree

pub set-requires-clause-held : goal.set-requires-clause-held
set-requires-clause-held c = λ f is. absurd (c.cell_at_page-cell.ensures f is)

pub set-requires-clause-free : goal.set-requires-clause-free
set-requires-clause-free c =
    omega (arith, c.pages.invariant.room, c.requires.room, page_short-le c.pages.store.nodes.all c.pages.tree (c.pages.k * 97))

pub pages-preserved : goal.pages-preserved
pages-preserved c =
    record {
      sound = c.set.ensures.sound;
      tree = c.set.ensures.tree;
      alone = λ _. root-alone c.set.new.store.nodes.all c.set.new.self (c.pages.k * 97) c.set.ensures.alone;
      room = omega (arith, c.pages.invariant.room, c.set.ensures.free, page_short-le c.pages.store.nodes.all c.pages.tree (c.pages.k * 97));
      size = c.set.ensures.trees.size ∙ c.pages.invariant.size;
    }
