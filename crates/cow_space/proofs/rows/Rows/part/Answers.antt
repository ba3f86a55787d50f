use Rattle.std.proofs.Common.{sym, ap, ◌∙◌, arith, Some, get_or-set_other}
use Rattle.cow_space.specs.Trees.{cell_value}
use Rattle.cow_space.specs.RowSeen.{maps, frames_of, free_nodes, HasNoTree}
use Rattle.cow_space.proofs.Trees.{entry-frame}
use Rattle.cow_space.proofs.UsedLemmas.{free-used, used-is}
use Rattle.cow_space.proofs.WriteLemmas.{sound-take, held-taken, part-kept, part-maps, part-size, written-parting}
use Rattle.cow_space.proofs.RowViews.{is-tree, nodes-left, row-value, tree-in, tree-read}
use Rattle.page_tree.proofs.HolderLemmas.{held-frame}
use Rattle.page_tree.proofs.PageLemmas.{page_short-le}
use Rattle.cow_space.proofs.rows.Rows.part.Goals as goal

pub cell-cell-requires-clause-row : goal.cell-cell-requires-clause-row
cell-cell-requires-clause-row c = tree-in c.args.self.now c.args.place c.requires.row

pub fill-frame-requires-clause-held : goal.fill-frame-requires-clause-held
fill-frame-requires-clause-held c = λ f is.
    held-frame _ _ c.args.self.now.trees.items c.args.self.now.kept.tied f
    (record { k = c.args.place; p = c.args.page; inside = tree-in c.args.self.now c.args.place c.requires.row; below = c.requires.page; has = sym c.cell-cell.ensures ∙ entry-frame c.cell-cell.result f is })

pub index_mut-requires : goal.index_mut-requires
index_mut-requires c = omega (arith, tree-in c.args.self.now c.args.place c.requires.row, c.args.self.now.trees.ok)

pub set-requires-clause-sound : goal.set-requires-clause-sound
set-requires-clause-sound c = sound-take _ _ _ _ _ _ c.args.self.now.kept.tied.sound c.args.self.now.kept.tied.exact c.fill-frame.ensures

pub set-requires-clause-tree : goal.set-requires-clause-tree
set-requires-clause-tree c =
    is-tree c.args.self.now c.args.place _ c.requires.row c.index_mut.ensures.value

pub set-requires-clause-held : goal.set-requires-clause-held
set-requires-clause-held c = λ f is. held-taken _ _ _ f _ _ c.fill-frame.ensures (omega (arith, is))

pub set-requires-clause-free : goal.set-requires-clause-free
set-requires-clause-free c =
    let free = nodes-left c.args.self.now in
    let takes = page_short-le c.args.self.now.store.nodes.all c.index_mut.result.now c.args.page in
    omega (arith, free, takes)

pub drop_hold-requires : goal.drop_hold-requires
drop_hold-requires c =
    let held = c.set.ensures.frames.holds c.fill-frame.result.n in
    let exact = c.args.self.now.kept.tied.exact c.fill-frame.result.n in
    let one = held-taken _ _ _ c.fill-frame.result.n _ _ c.fill-frame.ensures (omega arith) in
    omega (arith, held, exact, one, c.fill-frame.ensures.was_free)

pub invariant_of-self : goal.invariant_of-self
unfolding maps
invariant_of-self c =
    let inside = tree-in c.args.self.now c.args.place c.requires.row in
    let left_is = tree-read c.args.self.now c.args.place _ c.requires.row c.index_mut.ensures.value in
    record {
      kept = part-kept c.args.self.now.store.nodes.all c.set.new.store.nodes.all c.args.self.now.store.frames c.fill-frame.new.frames c.set.new.store.frames c.drop_hold.new.self c.args.self.now.trees.items c.args.place c.index_mut.result.now c.set.new.self c.args.page c.fill-frame.result.n c.args.tag _
          c.args.self.now.kept inside left_is c.fill-frame.ensures c.set.ensures.sound c.set.ensures.trees c.set.ensures.maps c.set.ensures.frames c.drop_hold.ensures c.requires.new;
    }

pub returns-clause-written : goal.returns-clause-written
unfolding maps
returns-clause-written c =
    let inside = tree-in c.args.self.now c.args.place c.requires.row in
    let left_is = tree-read c.args.self.now c.args.place _ c.requires.row c.index_mut.ensures.value in
    part-maps c.args.self.now.store.nodes.all c.set.new.store.nodes.all c.args.self.now.store.frames c.fill-frame.new.frames c.set.new.store.frames c.drop_hold.new.self c.args.self.now.trees.items c.args.place c.index_mut.result.now c.set.new.self c.args.page c.fill-frame.result.n c.args.tag _
    c.args.self.now.kept inside left_is c.fill-frame.ensures c.set.ensures.sound c.set.ensures.trees c.set.ensures.maps c.set.ensures.frames c.drop_hold.ensures c.requires.new _
    (ap Some (written-parting _ c.args.self.now.store.frames c.args.place c.args.page (record { at = c.args.at; bytes = c.args.piece.now }) c.args.tag c.cell-cell.result
    (row-value c.args.self.now c.args.place c.args.page c.requires.row c.requires.page ∙ ap (cell_value c.args.self.now.store.frames) (sym c.cell-cell.ensures)) c.requires.parts))
    c.requires.page c.set.ensures.page c.set.ensures.pages

pub returns-clause-frames : goal.returns-clause-frames
unfolding frames_of maps
returns-clause-frames c =
    let inside = tree-in c.args.self.now c.args.place c.requires.row in
    let left_is = tree-read c.args.self.now c.args.place _ c.requires.row c.index_mut.ensures.value in
    part-size c.args.self.now.store.nodes.all c.set.new.store.nodes.all c.args.self.now.store.frames c.fill-frame.new.frames c.set.new.store.frames c.drop_hold.new.self c.args.self.now.trees.items c.args.place c.index_mut.result.now c.set.new.self c.args.page c.fill-frame.result.n c.args.tag _
    c.args.self.now.kept inside left_is c.fill-frame.ensures c.set.ensures.sound c.set.ensures.trees c.set.ensures.maps c.set.ensures.frames c.drop_hold.ensures

pub returns-clause-nodes : goal.returns-clause-nodes
unfolding free_nodes
returns-clause-nodes c =
    let takes = page_short-le c.args.self.now.store.nodes.all c.index_mut.result.now c.args.page in
    omega (arith, takes, c.set.ensures.free)

pub fill-frame-requires-clause-free : goal.fill-frame-requires-clause-free
unfolding maps frames_of
fill-frame-requires-clause-free c =
    let used = used-is _ _ _ c.args.self.now.kept in
    omega (arith, used, free-used c.args.self.now.store.frames, c.requires.free)

pub returns-clause-others : goal.returns-clause-others
unfolding HasNoTree
returns-clause-others c = λ j off none. get_or-set_other c.args.self.now.trees.items c.args.place j c.set.new.self 0 off ∙ none
