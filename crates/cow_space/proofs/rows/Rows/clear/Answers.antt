use Rattle.std.proofs.Common.{subst, ap, ◌∙◌, sym, inl, inr, ⊎_elim, arith, get_or-set_other}
use Rattle.std.proofs.lemmas.List.{get_or-set_same}
use Rattle.page_tree.specs.declared.cell.PageCell.TheVariants.{Absent}
use Rattle.page_tree.specs.Open as tree
use Rattle.page_tree.specs.Short as short
use Rattle.page_tree.specs.Short.{link_short}
use Rattle.cow_space.specs.RowSeen.{maps, frames_of, free_nodes, HasNoTree, HasOwnRoot, IsOpen, edge_short, free_frames, pool}
use Rattle.cow_space.proofs.FreeLemmas.{free-kept}
use Rattle.cow_space.proofs.Trees.{kept-set, maps-range}
use Rattle.cow_space.proofs.RowViews.{is-tree, nodes-left, tree-in, tree-read}
use Rattle.page_tree.proofs.PageLemmas.{clear_short-le}
use Rattle.page_tree.proofs.LinkLemmas.{link_short-le}
use Rattle.cow_space.proofs.rows.Rows.clear.Goals as goal

pub index_mut-requires : goal.index_mut-requires
index_mut-requires c =
    omega (arith, tree-in c.args.self.now c.args.place c.requires.row, c.args.self.now.trees.ok)

pub clear_range-requires-clause-tree : goal.clear_range-requires-clause-tree
clear_range-requires-clause-tree c =
    is-tree c.args.self.now c.args.place _ c.requires.row c.index_mut.ensures.value

pub clear_range-requires-clause-free : goal.clear_range-requires-clause-free
clear_range-requires-clause-free c =
    let free = nodes-left c.args.self.now in
    let takes = clear_short-le c.args.self.now.store.nodes.all c.index_mut.result.now c.args.range.from c.args.range.to in
    let root = link_short-le c.args.self.now.store.nodes.all c.index_mut.result.now in
    omega (arith, free, takes, root)

pub invariant_of-self : goal.invariant_of-self
invariant_of-self c =
    let inside = tree-in c.args.self.now c.args.place c.requires.row in
    record {
      kept = kept-set c.args.self.now.store.nodes.all _ c.args.self.now.store.frames _ c.args.self.now.trees.items c.args.place _ _ c.args.self.now.kept inside
          (tree-read c.args.self.now c.args.place _ c.requires.row c.index_mut.ensures.value) c.clear_range.ensures.sound c.clear_range.ensures.trees c.clear_range.ensures.maps c.clear_range.ensures.frames;
    }

pub returns-clause-maps : goal.returns-clause-maps
unfolding maps
returns-clause-maps c =
    let inside = tree-in c.args.self.now c.args.place c.requires.row in
    maps-range c.args.self.now.store.nodes.all c.clear_range.new.store.nodes.all c.args.self.now.store.frames c.clear_range.new.store.frames c.args.self.now.trees.items c.args.place _ c.clear_range.new.self c.args.self.now.kept inside
    (tree-read c.args.self.now c.args.place _ c.requires.row c.index_mut.ensures.value) c.clear_range.ensures.sound c.clear_range.ensures.trees c.clear_range.ensures.maps c.clear_range.ensures.frames
    c.args.range.from c.args.range.to (λ q. Absent) c.requires.inside c.clear_range.ensures.within c.clear_range.ensures.before c.clear_range.ensures.after

pub returns-clause-frames : goal.returns-clause-frames
unfolding frames_of
returns-clause-frames c = c.clear_range.ensures.frames.size

pub returns-clause-nodes : goal.returns-clause-nodes
unfolding free_nodes
returns-clause-nodes c =
    let takes = clear_short-le c.args.self.now.store.nodes.all c.index_mut.result.now c.args.range.from c.args.range.to in
    let root = link_short-le c.args.self.now.store.nodes.all c.index_mut.result.now in
    omega (arith, takes, root, c.clear_range.ensures.free)

pub returns-clause-own : goal.returns-clause-own
unfolding HasOwnRoot HasNoTree
returns-clause-own c =
    let inside = tree-in c.args.self.now c.args.place c.requires.row in
    let here = get_or-set_same c.args.self.now.trees.items c.args.place c.clear_range.new.self 0 inside in
    ⊎_elim
    (λ none. inl (here ∙ none))
    (λ own. inr (ap (link_short c.clear_range.new.store.nodes.all) here ∙ own))
    c.clear_range.ensures.alone

pub returns-clause-nodes_own : goal.returns-clause-nodes_own
unfolding free_nodes HasOwnRoot
returns-clause-nodes_own c = λ own.
    let left_is = tree-read c.args.self.now c.args.place _ c.requires.row c.index_mut.ensures.value in
    let takes = clear_short-le c.args.self.now.store.nodes.all c.index_mut.result.now c.args.range.from c.args.range.to in
    let root = ap (link_short c.args.self.now.store.nodes.all) left_is ∙ own in
    omega (arith, takes, root, c.clear_range.ensures.free)

pub returns-clause-given_up : goal.returns-clause-given_up
unfolding free_nodes HasNoTree
returns-clause-given_up c = λ none.
    let inside = tree-in c.args.self.now c.args.place c.requires.row in
    c.clear_range.ensures.given_up (sym (get_or-set_same c.args.self.now.trees.items c.args.place c.clear_range.new.self 0 inside) ∙ none)

pub returns-clause-others : goal.returns-clause-others
unfolding HasNoTree
returns-clause-others c = λ j off none. get_or-set_other c.args.self.now.trees.items c.args.place j c.clear_range.new.self 0 off ∙ none

pub returns-clause-all : goal.returns-clause-all
unfolding HasNoTree
returns-clause-all c = λ first end.
    let inside = tree-in c.args.self.now c.args.place c.requires.row in
    get_or-set_same c.args.self.now.trees.items c.args.place c.clear_range.new.self 0 inside ∙ c.clear_range.ensures.all first end

pub returns-clause-pool : goal.returns-clause-pool
unfolding pool
returns-clause-pool c = λ e f. (c.clear_range.ensures.frames.stamps f e, c.clear_range.ensures.frames.bytes f e)

pub returns-clause-cost_all : goal.returns-clause-cost_all
returns-clause-cost_all c = c.clear_range.ensures.cost_all

pub returns-clause-cost_none : goal.returns-clause-cost_none
unfolding HasNoTree
returns-clause-cost_none c = λ none.
    c.clear_range.ensures.cost_none (tree-read c.args.self.now c.args.place _ c.requires.row c.index_mut.ensures.value ∙ none)

pub returns-clause-opened : goal.returns-clause-opened
unfolding IsOpen
returns-clause-opened c = λ o some.
    let left_is = tree-read c.args.self.now c.args.place _ c.requires.row c.index_mut.ensures.value in
    let came_is = get_or-set_same c.args.self.now.trees.items c.args.place c.clear_range.new.self 0 (tree-in c.args.self.now c.args.place c.requires.row) in
    subst (λ t. tree.IsOpen c.clear_range.new.store.nodes.all t c.args.range.to) (sym came_is)
    (c.clear_range.ensures.«open» (subst (λ t. tree.IsOpen c.args.self.now.store.nodes.all t c.args.range.from) (sym left_is) o) some)

pub returns-clause-nodes_open : goal.returns-clause-nodes_open
unfolding IsOpen edge_short free_nodes
returns-clause-nodes_open c = λ o some.
    let left_is = tree-read c.args.self.now c.args.place _ c.requires.row c.index_mut.ensures.value in
    let came_is = get_or-set_same c.args.self.now.trees.items c.args.place c.clear_range.new.self 0 (tree-in c.args.self.now c.args.place c.requires.row) in
    let left = ap (λ t. short.edge_short c.args.self.now.store.nodes.all t c.args.range.from) left_is in
    let came = ap (λ t. short.edge_short c.clear_range.new.store.nodes.all t c.args.range.to) came_is in
    omega (arith, left, came, c.clear_range.ensures.free_open (subst (λ t. tree.IsOpen c.args.self.now.store.nodes.all t c.args.range.from) (sym left_is) o) some)

pub returns-clause-cost_open : goal.returns-clause-cost_open
unfolding IsOpen
returns-clause-cost_open c = λ o.
    let left_is = tree-read c.args.self.now c.args.place _ c.requires.row c.index_mut.ensures.value in
    c.clear_range.ensures.cost_open (subst (λ t. tree.IsOpen c.args.self.now.store.nodes.all t c.args.range.from) (sym left_is) o)

pub returns-clause-free : goal.returns-clause-free
unfolding free_frames
returns-clause-free c = free-kept c.args.self.now.store.frames c.clear_range.new.store.frames c.clear_range.ensures.frames.size c.clear_range.ensures.frames.free
