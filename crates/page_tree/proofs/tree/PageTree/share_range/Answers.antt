use Rattle.std.proofs.Common.{◌+◌, ap, inl, inr, ◌∙◌, arith}
use Rattle.page_tree.specs.Short.{open_cuts}
use Rattle.page_tree.proofs.LinkLemmas.{link_short-once}
use Rattle.page_tree.proofs.TreeLemmas.{tree-loose, own-tree, beside-tree, KeepsTrees-moved, KeepsMaps-moved, page-same}
use Rattle.page_tree.proofs.OpenLemmas.{edge_short-inner}
use Rattle.page_tree.proofs.OpenRange.{open-takes}
use Rattle.page_tree.proofs.tree.PageTree.share_range.Goals as goal

pub share_at-root-requires-clause-loose : goal.share_at-root-requires-clause-loose
share_at-root-requires-clause-loose c = rw c.self.view_is (tree-loose _ _ _ c.requires.sound c.requires.tree)

pub share_at-root-requires-clause-from : goal.share_at-root-requires-clause-from
share_at-root-requires-clause-from c = rw (c.self.view_is, c.from.view_is) (beside-tree _ _ _ _ c.requires.sound c.requires.from c.requires.both)

pub share_at-root-requires-clause-free : goal.share_at-root-requires-clause-free
share_at-root-requires-clause-free c = rw c.self.view_is c.requires.free

pub returns-clause-alone : goal.returns-clause-alone
returns-clause-alone c = link_short-once _ _ c.share_at-root.ensures.own.once

pub returns-clause-within : goal.returns-clause-within
returns-clause-within c = λ q low high. rw (← c.from.view_is) (page-same _ _ _ _ q (c.share_at-root.ensures.within q low high))

pub returns-clause-free : goal.returns-clause-free
returns-clause-free c = rw (← c.self.view_is) c.share_at-root.ensures.free

pub returns-clause-trees : goal.returns-clause-trees
returns-clause-trees c = rw (← c.self.view_is) (KeepsTrees-moved _ _ _ _ _ _ c.requires.sound c.share_at-root.ensures.sound c.share_at-root.ensures.moves)

pub returns-clause-maps : goal.returns-clause-maps
returns-clause-maps c = rw (← c.self.view_is) (KeepsMaps-moved _ _ _ _ _ _ c.requires.sound c.share_at-root.ensures.sound c.share_at-root.ensures.moves)

pub returns-clause-frames : goal.returns-clause-frames
returns-clause-frames c = c.share_at-root.ensures.moves.framed

pub returns-clause-tree : goal.returns-clause-tree
returns-clause-tree c = own-tree _ _ c.share_at-root.ensures.own

pub returns-clause-before : goal.returns-clause-before
returns-clause-before c = λ q low. rw (← c.self.view_is) (page-same _ _ _ _ q (c.share_at-root.ensures.outside q (omega (arith, low, c.requires.order, c.requires.inside)) (inl low)))

pub returns-clause-after : goal.returns-clause-after
returns-clause-after c = λ q high lt. rw (← c.self.view_is) (page-same _ _ _ _ q (c.share_at-root.ensures.outside q (omega (arith, lt)) (inr high)))

pub returns-clause-open : goal.returns-clause-open
returns-clause-open c = λ is_open lt. c.share_at-root.ensures.open (rw c.self.view_is is_open) lt

pub returns-clause-edge_open : goal.returns-clause-edge_open
returns-clause-edge_open c = λ is_open lt.
    edge_short-inner c.share_at-root.new.self.nodes.all (c.share_at-root.result.n + 1) c.args.range.to (omega (arith, lt)) ∙ c.share_at-root.ensures.edge (rw c.self.view_is is_open) lt

pub returns-clause-free_open : goal.returns-clause-free_open
returns-clause-free_open c = λ is_open.
    let takes = c.share_at-root.ensures.free_open (rw c.self.view_is is_open) in
    let same = ap (λ tree. open_cuts c.args.store.now.nodes.all 3 tree c.args.range.from c.args.range.to) c.self.view_is in
    let most = open-takes c.args.store.now.nodes.all c.args.self.now c.args.range.from c.args.range.to is_open in
    omega (arith, takes, same, most)

pub returns-clause-cost_open : goal.returns-clause-cost_open
returns-clause-cost_open c = λ is_open. c.share_at-root.ensures.cost_open (rw c.self.view_is is_open)
