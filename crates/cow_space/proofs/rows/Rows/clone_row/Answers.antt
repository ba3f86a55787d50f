use Rattle.std.proofs.Common.{length, sym, ap, ◌∙◌, arith, length-set, get_or-set_other}
use Rattle.std.proofs.lemmas.List.{get_or_read}
use Rattle.cow_space.specs.Maps.{no_pages}
use Rattle.cow_space.specs.RowSeen.{maps, frames_of, free_nodes, HasNoTree, free_frames, pool}
use Rattle.cow_space.proofs.FreeLemmas.{free-kept}
use Rattle.cow_space.proofs.Trees.{rows-in, length-maps, kept-tree, kept-few, kept-set, maps-clone}
use Rattle.cow_space.proofs.rows.Rows.clone_row.Goals as goal

pub index-requires : goal.index-requires
unfolding maps
index-requires c =
    let size = ap length c.drop_row.ensures.maps ∙ length-set (maps c.args.self.now) c.args.to no_pages in
    omega (arith, size, length-maps c.drop_row.new.self.store.frames c.drop_row.new.self.store.nodes.all c.drop_row.new.self.trees.items, c.requires.from, c.drop_row.new.self.trees.ok)

pub held_too-tree-requires-clause-tree : goal.held_too-tree-requires-clause-tree
unfolding maps
held_too-tree-requires-clause-tree c =
    let size = ap length c.drop_row.ensures.maps ∙ length-set (maps c.args.self.now) c.args.to no_pages in
    let inside = rows-in c.drop_row.new.self.store.frames c.drop_row.new.self.store.nodes.all c.drop_row.new.self.trees.items c.args.from (omega (arith, size, c.requires.from)) in
    kept-tree _ _ _ c.args.from _ c.drop_row.new.self.kept inside
    (get_or_read c.drop_row.new.self.trees.items c.args.from _ inside c.index.ensures 0)

pub held_too-tree-requires-clause-few : goal.held_too-tree-requires-clause-few
held_too-tree-requires-clause-few c = λ n is. kept-few _ _ _ n c.drop_row.new.self.kept

pub index_mut-requires : goal.index_mut-requires
unfolding maps
index_mut-requires c =
    let size = ap length c.drop_row.ensures.maps ∙ length-set (maps c.args.self.now) c.args.to no_pages in
    omega (arith, size, length-maps c.drop_row.new.self.store.frames c.drop_row.new.self.store.nodes.all c.drop_row.new.self.trees.items, c.requires.to, c.drop_row.new.self.trees.ok)

pub invariant_of-self : goal.invariant_of-self
unfolding maps HasNoTree
invariant_of-self c =
    let size = ap length c.drop_row.ensures.maps ∙ length-set (maps c.args.self.now) c.args.to no_pages in
    let inside = rows-in c.drop_row.new.self.store.frames c.drop_row.new.self.store.nodes.all c.drop_row.new.self.trees.items c.args.to (omega (arith, size, c.requires.to)) in
    record {
      kept = kept-set c.drop_row.new.self.store.nodes.all c.held_too-tree.new.store.nodes.all c.drop_row.new.self.store.frames c.held_too-tree.new.store.frames c.drop_row.new.self.trees.items c.args.to 0 c.held_too-tree.result c.drop_row.new.self.kept inside
          (sym c.drop_row.ensures.empty) c.held_too-tree.ensures.sound c.held_too-tree.ensures.trees c.held_too-tree.ensures.maps c.held_too-tree.ensures.frames;
    }

pub returns-clause-maps : goal.returns-clause-maps
unfolding maps HasNoTree
returns-clause-maps c =
    let size = ap length c.drop_row.ensures.maps ∙ length-set (maps c.args.self.now) c.args.to no_pages in
    let trees = c.drop_row.new.self.trees.items in
    let to_in = rows-in c.drop_row.new.self.store.frames c.drop_row.new.self.store.nodes.all trees c.args.to (omega (arith, size, c.requires.to)) in
    let from_in = rows-in c.drop_row.new.self.store.frames c.drop_row.new.self.store.nodes.all trees c.args.from (omega (arith, size, c.requires.from)) in
    maps-clone c.drop_row.new.self.store.nodes.all c.held_too-tree.new.store.nodes.all c.drop_row.new.self.store.frames c.held_too-tree.new.store.frames trees (maps c.args.self.now) c.args.to c.args.from c.index.result.now c.held_too-tree.result c.drop_row.new.self.kept to_in from_in c.requires.apart c.drop_row.ensures.empty
    (get_or_read trees c.args.from _ from_in c.index.ensures 0) c.held_too-tree.ensures.same c.held_too-tree.ensures.sound c.held_too-tree.ensures.trees c.held_too-tree.ensures.maps c.held_too-tree.ensures.frames c.drop_row.ensures.maps

pub returns-clause-frames : goal.returns-clause-frames
unfolding frames_of
returns-clause-frames c = c.held_too-tree.ensures.frames.size ∙ c.drop_row.ensures.frames

pub returns-clause-nodes : goal.returns-clause-nodes
unfolding free_nodes
returns-clause-nodes c = omega (arith, c.drop_row.ensures.nodes, c.held_too-tree.ensures.free)

pub returns-clause-others : goal.returns-clause-others
unfolding HasNoTree
returns-clause-others c = λ j off none.
    get_or-set_other c.drop_row.new.self.trees.items c.args.to j c.held_too-tree.result 0 off ∙ c.drop_row.ensures.others j off none

pub returns-clause-pool : goal.returns-clause-pool
unfolding pool
returns-clause-pool c =
    let held = c.held_too-tree.ensures.frames in
    let dropped = c.drop_row.ensures.pool in
    λ e f. ((held.stamps f ∙ ap (λ frame. frame.0) (λ i. dropped i f)) e, (held.bytes f ∙ ap (λ frame. frame.1) (λ i. dropped i f)) e)

pub returns-clause-free : goal.returns-clause-free
unfolding free_frames
returns-clause-free c =
    let held = free-kept c.drop_row.new.self.store.frames c.held_too-tree.new.store.frames c.held_too-tree.ensures.frames.size c.held_too-tree.ensures.frames.free in
    omega (arith, held, c.drop_row.ensures.free)
