use Rattle.std.proofs.Common.{◌+◌, ap, inl, inr, refl, sym, ◌∙◌, arith}
use Rattle.page_tree.specs.Pages.{page}
use Rattle.page_tree.specs.Short.{edge_short, open_cuts}
use Rattle.page_tree.proofs.LinkLemmas.{link_short-none, link_short-once}
use Rattle.page_tree.proofs.OpenLemmas.{edge_short-first, edge_short-inner, edges-later, open-first, open-none, passed-later}
use Rattle.page_tree.proofs.OpenRange.{open-takes}
use Rattle.page_tree.proofs.TreeLemmas.{tree-loose, own-tree, beside-none, no-tree, page-none, moves-given, KeepsTrees-moved, KeepsMaps-moved, page-same}
use Rattle.page_tree.proofs.tree.PageTree.clear_range.Goals as goal

pub release-requires-clause-loose : goal.release-requires-clause-loose
release-requires-clause-loose c = rw c.self.view_is (tree-loose _ _ _ c.requires.sound c.requires.tree)

pub share_at-root-requires-clause-loose : goal.share_at-root-requires-clause-loose
share_at-root-requires-clause-loose c = rw c.self.view_is (tree-loose _ _ _ c.requires.sound c.requires.tree)

pub share_at-root-requires-clause-from : goal.share_at-root-requires-clause-from
share_at-root-requires-clause-from c = beside-none _ _

pub returns-then-end-eq-PAGES-clause-trees : goal.returns-then-end-eq-PAGES-clause-trees
returns-then-end-eq-PAGES-clause-trees c = rw (← c.self.view_is) (KeepsTrees-moved _ _ _ _ _ _ c.requires.sound c.release.ensures.sound (moves-given _ _ _ _ _ c.release.ensures.moves))

pub returns-then-end-eq-PAGES-clause-maps : goal.returns-then-end-eq-PAGES-clause-maps
returns-then-end-eq-PAGES-clause-maps c = rw (← c.self.view_is) (KeepsMaps-moved _ _ _ _ _ _ c.requires.sound c.release.ensures.sound (moves-given _ _ _ _ _ c.release.ensures.moves))

pub returns-then-end-eq-PAGES-clause-frames : goal.returns-then-end-eq-PAGES-clause-frames
returns-then-end-eq-PAGES-clause-frames c = c.release.ensures.moves.framed

pub returns-then-self-ne0-clause-trees : goal.returns-then-self-ne0-clause-trees
returns-then-self-ne0-clause-trees c = rw (← c.self.view_is) (KeepsTrees-moved _ _ _ _ _ _ c.requires.sound c.share_at-root.ensures.sound c.share_at-root.ensures.moves)

pub returns-then-self-ne0-clause-maps : goal.returns-then-self-ne0-clause-maps
returns-then-self-ne0-clause-maps c = rw (← c.self.view_is) (KeepsMaps-moved _ _ _ _ _ _ c.requires.sound c.share_at-root.ensures.sound c.share_at-root.ensures.moves)

pub returns-then-self-ne0-clause-frames : goal.returns-then-self-ne0-clause-frames
returns-then-self-ne0-clause-frames c = c.share_at-root.ensures.moves.framed

pub returns-then-self-ne0-clause-tree : goal.returns-then-self-ne0-clause-tree
returns-then-self-ne0-clause-tree c = own-tree _ _ c.share_at-root.ensures.own

pub returns-then-end-eq-PAGES-clause-tree : goal.returns-then-end-eq-PAGES-clause-tree
returns-then-end-eq-PAGES-clause-tree c = no-tree _

pub returns-then-self-ne0-clause-alone : goal.returns-then-self-ne0-clause-alone
returns-then-self-ne0-clause-alone c = inr (link_short-once _ _ c.share_at-root.ensures.own.once)

pub returns-then-self-ne0-clause-within : goal.returns-then-self-ne0-clause-within
returns-then-self-ne0-clause-within c = λ q low high. page-same _ _ _ _ q (c.share_at-root.ensures.within q low high) ∙ page-none _ q

pub returns-then-end-eq-PAGES-clause-within : goal.returns-then-end-eq-PAGES-clause-within
returns-then-end-eq-PAGES-clause-within c = λ q low high. page-none _ q

pub returns-then-self-ne0-clause-before : goal.returns-then-self-ne0-clause-before
returns-then-self-ne0-clause-before c = λ q low. rw (← c.self.view_is) (page-same _ _ _ _ q (c.share_at-root.ensures.outside q (omega (arith, low, c.requires.order, c.requires.inside)) (inl low)))

pub returns-then-self-ne0-clause-after : goal.returns-then-self-ne0-clause-after
returns-then-self-ne0-clause-after c = λ q high lt. rw (← c.self.view_is) (page-same _ _ _ _ q (c.share_at-root.ensures.outside q (omega (arith, lt)) (inr high)))

pub returns-else-self-ne0-clause-within : goal.returns-else-self-ne0-clause-within
returns-else-self-ne0-clause-within c = λ q low high. ap (λ tree. page c.args.store.now.nodes.all tree q) (sym c.self.view_is ∙ c.if-self-ne0.false) ∙ page-none _ q

pub returns-then-self-ne0-clause-open : goal.returns-then-self-ne0-clause-open
returns-then-self-ne0-clause-open c = λ is_open lt. c.share_at-root.ensures.open (rw c.self.view_is is_open) lt

pub returns-then-self-ne0-clause-free_open : goal.returns-then-self-ne0-clause-free_open
returns-then-self-ne0-clause-free_open c = λ is_open lt.
    let takes = c.share_at-root.ensures.free_open (rw c.self.view_is is_open) in
    let same = ap (λ tree. open_cuts c.args.store.now.nodes.all 3 tree c.args.range.from c.args.range.to) c.self.view_is in
    let most = open-takes c.args.store.now.nodes.all c.args.self.now c.args.range.from c.args.range.to is_open in
    let edge = edge_short-inner c.share_at-root.new.self.nodes.all (c.share_at-root.result.n + 1) c.args.range.to (omega (arith, lt)) ∙ c.share_at-root.ensures.edge (rw c.self.view_is is_open) lt in
    omega (arith, takes, same, most, edge)

pub returns-then-self-ne0-clause-cost_open : goal.returns-then-self-ne0-clause-cost_open
returns-then-self-ne0-clause-cost_open c = λ is_open. c.share_at-root.ensures.cost_open (rw c.self.view_is is_open)

pub returns-else-self-ne0-clause-open : goal.returns-else-self-ne0-clause-open
returns-else-self-ne0-clause-open c = λ is_open lt. open-none c.args.store.now.nodes.all 3 c.args.self.now c.args.range.to (sym c.self.view_is ∙ c.if-self-ne0.false)

pub returns-else-self-ne0-clause-free_open : goal.returns-else-self-ne0-clause-free_open
returns-else-self-ne0-clause-free_open c = λ is_open lt. let later = edges-later c.args.store.now.nodes.all c.args.self.now c.args.range.from c.args.range.to in omega (arith, later)

pub returns-else-self-ne0-clause-cost_open : goal.returns-else-self-ne0-clause-cost_open
returns-else-self-ne0-clause-cost_open c = λ is_open. let more = passed-later c.args.range.from c.args.range.to c.requires.order in omega (arith, more)

pub returns-then-end-eq-PAGES-clause-open : goal.returns-then-end-eq-PAGES-clause-open
returns-then-end-eq-PAGES-clause-open c = λ is_open lt. open-none c.release.new.self.nodes.all 3 0 c.args.range.to refl

pub returns-then-end-eq-PAGES-clause-free_open : goal.returns-then-end-eq-PAGES-clause-free_open
returns-then-end-eq-PAGES-clause-free_open c = λ is_open lt.
    let none = open-first c.args.store.now.nodes.all 3 c.args.self.now c.args.range.from (omega (arith, c.if-first-eq0.true)) is_open in
    let old = ap (λ tree. edge_short c.args.store.now.nodes.all tree c.args.range.from) none ∙ edge_short-first c.args.store.now.nodes.all 0 c.args.range.from (omega (arith, c.if-first-eq0.true)) ∙ link_short-none c.args.store.now.nodes.all in
    let new = edge_short-first c.release.new.self.nodes.all 0 0 refl ∙ link_short-none c.release.new.self.nodes.all in
    let later = edges-later c.release.new.self.nodes.all 0 0 c.args.range.to in
    omega (arith, old, new, later, c.release.ensures.free)

pub returns-then-end-eq-PAGES-clause-cost_open : goal.returns-then-end-eq-PAGES-clause-cost_open
returns-then-end-eq-PAGES-clause-cost_open c = λ is_open.
    let none = open-first c.args.store.now.nodes.all 3 c.args.self.now c.args.range.from (omega (arith, c.if-first-eq0.true)) is_open in
    let same = c.release.ensures.none (c.self.view_is ∙ none) in
    let more = passed-later c.args.range.from c.args.range.to c.requires.order in
    omega (arith, same, more)
