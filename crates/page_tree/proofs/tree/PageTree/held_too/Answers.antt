use Rattle.std.proofs.Common.{◌+◌, subst, ◌∙◌}
use Rattle.page_tree.specs.Changes.{KeepsTrees}
use Rattle.page_tree.proofs.TreeLemmas.{held-tree, moves-come, KeepsTrees-moved, KeepsMaps-moved}
use Rattle.page_tree.proofs.tree.PageTree.held_too.Goals as goal

pub returns-clause-trees : goal.returns-clause-trees
returns-clause-trees c =
    rw c.self.view_is (subst (λ r. KeepsTrees c.args.store.now.nodes.all c.hold.new.self.nodes.all 0 r) (c.node_of.ensures ∙ c.self.view_is)
    (KeepsTrees-moved _ _ _ _ 0 (c.node_of.result.n + 1) c.requires.sound c.hold.ensures.sound (moves-come _ _ _ _ _ c.hold.ensures.moves)))

pub returns-clause-maps : goal.returns-clause-maps
returns-clause-maps c = KeepsMaps-moved _ _ _ _ 0 (c.node_of.result.n + 1) c.requires.sound c.hold.ensures.sound (moves-come _ _ _ _ _ c.hold.ensures.moves)

pub returns-clause-tree : goal.returns-clause-tree
returns-clause-tree c =
    rw c.self.view_is (held-tree c.args.store.now.nodes.all c.hold.new.self.nodes.all c.args.self.now c.requires.tree c.requires.few
    (subst (λ r. KeepsTrees c.args.store.now.nodes.all c.hold.new.self.nodes.all 0 r) (c.node_of.ensures ∙ c.self.view_is)
    (KeepsTrees-moved _ _ _ _ 0 (c.node_of.result.n + 1) c.requires.sound c.hold.ensures.sound (moves-come _ _ _ _ _ c.hold.ensures.moves))))
