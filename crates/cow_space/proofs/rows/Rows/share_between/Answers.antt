use Rattle.std.proofs.Common.{set, sym, ap, ◌∙◌, arith, subst, get_or-set_other}
use Rattle.std.proofs.lemmas.List.{get_or-set_same}
use Rattle.std.proofs.Math.ListN.{length-set}
use Rattle.page_tree.specs.Open as tree
use Rattle.page_tree.specs.Short as short
use Rattle.page_tree.specs.Short.{link_short}
use Rattle.cow_space.specs.Trees.{cells, values, tree_maps}
use Rattle.cow_space.specs.RowKept.{IsKept}
use Rattle.cow_space.specs.Maps.{put_range, row_of}
use Rattle.cow_space.specs.RowSeen.{maps, frames_of, free_nodes, HasOwnRoot, HasNoTree, IsOpen, edge_short, free_frames, pool}
use Rattle.cow_space.proofs.FreeLemmas.{free-kept}
use Rattle.cow_space.proofs.Trees.{other-read, kept-tree, kept-both, kept-set, maps-range, row-at, cells-page}
use Rattle.cow_space.proofs.RowViews.{nodes-left, tree-in, tree-read}
use Rattle.page_tree.proofs.PageLemmas.{range_short-le}
use Rattle.page_tree.proofs.LinkLemmas.{link_short-le}
use Rattle.cow_space.proofs.rows.Rows.share_between.Goals as goal
use Rattle.lwc_types.proofs.Small.{set-again}

pub index_mut-requires : goal.index_mut-requires
index_mut-requires c =
    omega (arith, tree-in c.args.self.now c.args.to c.requires.to, c.args.self.now.trees.ok)

pub index-requires : goal.index-requires
index-requires c =
    omega (arith, tree-in c.args.self.now c.args.from c.requires.from, c.args.self.now.trees.ok)

pub share_range-requires-clause-tree : goal.share_range-requires-clause-tree
share_range-requires-clause-tree c =
    let to_in = tree-in c.args.self.now c.args.to c.requires.to in
    kept-tree _ _ _ c.args.to _ c.args.self.now.kept to_in
    (c.replace-tree.ensures.value ∙ tree-read c.args.self.now c.args.to _ c.requires.to c.index_mut.ensures.value)

pub share_range-requires-clause-from : goal.share_range-requires-clause-from
share_range-requires-clause-from c =
    let from_in = tree-in c.args.self.now c.args.from c.requires.from in
    kept-tree _ _ _ c.args.from _ c.args.self.now.kept from_in
    (other-read c.args.self.now.trees.items c.args.to c.args.from c.replace-tree.new.dest _ c.requires.apart from_in c.index.ensures)

pub share_range-requires-clause-both : goal.share_range-requires-clause-both
share_range-requires-clause-both c = λ n is is'.
    let to_in = tree-in c.args.self.now c.args.to c.requires.to in
    let from_in = tree-in c.args.self.now c.args.from c.requires.from in
    kept-both _ _ _ c.args.to c.args.from n _ _ c.args.self.now.kept to_in from_in c.requires.apart
    (c.replace-tree.ensures.value ∙ tree-read c.args.self.now c.args.to _ c.requires.to c.index_mut.ensures.value)
    (other-read c.args.self.now.trees.items c.args.to c.args.from c.replace-tree.new.dest _ c.requires.apart from_in c.index.ensures) is is'

pub share_range-requires-clause-free : goal.share_range-requires-clause-free
share_range-requires-clause-free c =
    let free = nodes-left c.args.self.now in
    let takes = range_short-le c.args.self.now.store.nodes.all c.replace-tree.result c.args.range.from c.args.range.to in
    let root = link_short-le c.args.self.now.store.nodes.all c.replace-tree.result in
    omega (arith, free, takes, root)

pub index_mut-requires-2 : goal.index_mut-requires-2
index_mut-requires-2 c =
    omega (arith, tree-in c.args.self.now c.args.to c.requires.to, c.args.self.now.trees.ok)

pub invariant_of-self : goal.invariant_of-self
invariant_of-self c =
    let trees = c.args.self.now.trees.items in
    let to_in = tree-in c.args.self.now c.args.to c.requires.to in
    let left_is = c.replace-tree.ensures.value ∙ tree-read c.args.self.now c.args.to _ c.requires.to c.index_mut.ensures.value in
    record {
      kept = subst (λ ts. IsKept c.share_range.new.store.nodes.all c.share_range.new.store.frames ts) (sym (set-again trees c.args.to c.replace-tree.new.dest c.share_range.new.self))
          (kept-set c.args.self.now.store.nodes.all c.share_range.new.store.nodes.all c.args.self.now.store.frames c.share_range.new.store.frames trees c.args.to _ _ c.args.self.now.kept to_in left_is c.share_range.ensures.sound c.share_range.ensures.trees c.share_range.ensures.maps c.share_range.ensures.frames);
    }

pub returns-clause-maps : goal.returns-clause-maps
unfolding maps
returns-clause-maps c =
    let trees = c.args.self.now.trees.items in
    let old = c.args.self.now.store.nodes.all in
    let new = c.share_range.new.store.nodes.all in
    let frames = c.args.self.now.store.frames in
    let frames' = c.share_range.new.store.frames in
    let to_in = tree-in c.args.self.now c.args.to c.requires.to in
    let from_in = tree-in c.args.self.now c.args.from c.requires.from in
    let left_is = c.replace-tree.ensures.value ∙ tree-read c.args.self.now c.args.to _ c.requires.to c.index_mut.ensures.value in
    let other_is = other-read trees c.args.to c.args.from c.replace-tree.new.dest _ c.requires.apart from_in c.index.ensures in
    ap (tree_maps frames' new) (set-again trees c.args.to c.replace-tree.new.dest c.share_range.new.self)
    ∙ maps-range old new frames frames' trees c.args.to _ _ c.args.self.now.kept to_in left_is c.share_range.ensures.sound c.share_range.ensures.trees c.share_range.ensures.maps c.share_range.ensures.frames
    c.args.range.from c.args.range.to (cells old c.index.result.now) c.requires.inside
    (λ q low high. c.share_range.ensures.within q low high ∙ sym (cells-page old c.index.result.now q (omega (arith, high, c.requires.inside))))
    c.share_range.ensures.before c.share_range.ensures.after
    ∙ ap (λ m. set (tree_maps frames old trees) c.args.to (put_range (row_of (tree_maps frames old trees) c.args.to) c.args.range.from c.args.range.to m))
    (ap (λ t. values frames (cells old t)) other_is ∙ sym (row-at frames old trees c.args.from from_in))

pub returns-clause-frames : goal.returns-clause-frames
unfolding frames_of
returns-clause-frames c = c.share_range.ensures.frames.size

pub returns-clause-own : goal.returns-clause-own
unfolding HasOwnRoot
returns-clause-own c =
    let trees = c.args.self.now.trees.items in
    let to_in = tree-in c.args.self.now c.args.to c.requires.to in
    ap (link_short c.share_range.new.store.nodes.all) (get_or-set_same (set trees c.args.to c.replace-tree.new.dest) c.args.to c.share_range.new.self 0 (omega (arith, to_in, length-set trees c.args.to c.replace-tree.new.dest)))
    ∙ c.share_range.ensures.alone

pub returns-clause-nodes : goal.returns-clause-nodes
unfolding free_nodes
returns-clause-nodes c =
    let takes = range_short-le c.args.self.now.store.nodes.all c.replace-tree.result c.args.range.from c.args.range.to in
    let root = link_short-le c.args.self.now.store.nodes.all c.replace-tree.result in
    omega (arith, takes, root, c.share_range.ensures.free)

pub returns-clause-nodes_own : goal.returns-clause-nodes_own
unfolding free_nodes HasOwnRoot
returns-clause-nodes_own c = λ own.
    let left_is = c.replace-tree.ensures.value ∙ tree-read c.args.self.now c.args.to _ c.requires.to c.index_mut.ensures.value in
    let takes = range_short-le c.args.self.now.store.nodes.all c.replace-tree.result c.args.range.from c.args.range.to in
    let root = ap (link_short c.args.self.now.store.nodes.all) left_is ∙ own in
    omega (arith, takes, root, c.share_range.ensures.free)

pub returns-clause-others : goal.returns-clause-others
unfolding HasNoTree
returns-clause-others c = λ j off none.
    get_or-set_other (set c.args.self.now.trees.items c.args.to c.replace-tree.new.dest) c.args.to j c.share_range.new.self 0 off
    ∙ get_or-set_other c.args.self.now.trees.items c.args.to j c.replace-tree.new.dest 0 off ∙ none

pub returns-clause-pool : goal.returns-clause-pool
unfolding pool
returns-clause-pool c = λ e f. (c.share_range.ensures.frames.stamps f e, c.share_range.ensures.frames.bytes f e)

pub returns-clause-opened : goal.returns-clause-opened
unfolding IsOpen
returns-clause-opened c = λ o some.
    let trees = c.args.self.now.trees.items in
    let to_in = tree-in c.args.self.now c.args.to c.requires.to in
    let left_is = c.replace-tree.ensures.value ∙ tree-read c.args.self.now c.args.to _ c.requires.to c.index_mut.ensures.value in
    let came_is = get_or-set_same (set trees c.args.to c.replace-tree.new.dest) c.args.to c.share_range.new.self 0 (omega (arith, to_in, length-set trees c.args.to c.replace-tree.new.dest)) in
    subst (λ t. tree.IsOpen c.share_range.new.store.nodes.all t c.args.range.to) (sym came_is)
    (c.share_range.ensures.«open» (subst (λ t. tree.IsOpen c.args.self.now.store.nodes.all t c.args.range.from) (sym left_is) o) some)

pub returns-clause-nodes_open : goal.returns-clause-nodes_open
unfolding IsOpen edge_short free_nodes
returns-clause-nodes_open c = λ o some.
    let trees = c.args.self.now.trees.items in
    let to_in = tree-in c.args.self.now c.args.to c.requires.to in
    let left_is = c.replace-tree.ensures.value ∙ tree-read c.args.self.now c.args.to _ c.requires.to c.index_mut.ensures.value in
    let came_is = get_or-set_same (set trees c.args.to c.replace-tree.new.dest) c.args.to c.share_range.new.self 0 (omega (arith, to_in, length-set trees c.args.to c.replace-tree.new.dest)) in
    let open_left = subst (λ t. tree.IsOpen c.args.self.now.store.nodes.all t c.args.range.from) (sym left_is) o in
    let none = ap (λ t. short.edge_short c.share_range.new.store.nodes.all t c.args.range.to) came_is ∙ c.share_range.ensures.edge_open open_left some in
    let few = ap (λ t. short.edge_short c.args.self.now.store.nodes.all t c.args.range.from) left_is in
    omega (arith, none, few, c.share_range.ensures.free_open open_left)

pub returns-clause-cost_open : goal.returns-clause-cost_open
unfolding IsOpen
returns-clause-cost_open c = λ o.
    let left_is = c.replace-tree.ensures.value ∙ tree-read c.args.self.now c.args.to _ c.requires.to c.index_mut.ensures.value in
    c.share_range.ensures.cost_open (subst (λ t. tree.IsOpen c.args.self.now.store.nodes.all t c.args.range.from) (sym left_is) o)

pub returns-clause-free : goal.returns-clause-free
unfolding free_frames
returns-clause-free c = free-kept c.args.self.now.store.frames c.share_range.new.store.frames c.share_range.ensures.frames.size c.share_range.ensures.frames.free
