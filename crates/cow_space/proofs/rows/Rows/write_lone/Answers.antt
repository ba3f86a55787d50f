use Rattle.std.proofs.Common.{◌≤◌, ◌≡◌, ◌<◌, ℕ, refl, ap, ◌∙◌, sym, Some, arith, length}
use Rattle.page_tree.specs.declared.store.TheConstants.{PAGES}
use Rattle.cow_space.specs.declared.rows.Rows.{Rows}
use Rattle.cow_space.specs.RowFrames.{LeadsAlone, LeadsTo}
use Rattle.cow_space.specs.Tags.{different, row_tags}
use Rattle.cow_space.proofs.UsedLemmas.{free-used, used-is}
use Rattle.cow_space.specs.Trees.{cell_value}
use Rattle.cow_space.specs.RowSeen.{maps, frames_of, free_nodes, HasNoTree}
use Rattle.cow_space.proofs.FrameLemmas.{lone, row-there, there}
use Rattle.cow_space.proofs.WriteLemmas.{refill-count, refill-kept, refill-maps, refill-size, written-own}
use Rattle.cow_space.proofs.RowViews.{row-value, tree-in}
use Rattle.cow_space.proofs.rows.Rows.write_lone.Goals as goal

pub write_frame-requires : goal.write_frame-requires
write_frame-requires c = record { once = c.requires.once }

pub invariant_of-self : goal.invariant_of-self
unfolding maps
invariant_of-self c =
    let w = c.args.self.now in
    record {
      kept = refill-kept w.store.nodes.all w.store.frames c.write_frame.new.frames w.trees.items c.args.place c.args.page c.args.frame.n
          w.kept c.requires.to.inside c.requires.to.below (there w c.args.place c.args.page c.args.frame.n c.requires.to) (lone w c.args.place c.args.page c.args.frame.n c.requires) _ c.write_frame.ensures;
    }

pub returns-clause-written : goal.returns-clause-written
unfolding maps
returns-clause-written c = λ tag.
    let w = c.args.self.now in
    let alone = lone w c.args.place c.args.page c.args.frame.n c.requires in
    let is = there w c.args.place c.args.page c.args.frame.n c.requires.to in
    refill-maps w.store.nodes.all w.store.frames c.write_frame.new.frames w.trees.items c.args.place c.args.page c.args.frame.n
    w.kept c.requires.to.inside c.requires.to.below is alone _ c.write_frame.ensures _
    (ap Some (written-own _ c.args.place c.args.page (record { at = c.args.at; bytes = c.args.piece.now }) tag _ _
    (row-value w c.args.place c.args.page (row-there w c.args.place c.requires.to.inside) c.requires.to.below ∙ ap (cell_value w.store.frames) is) alone))

pub returns-clause-frames : goal.returns-clause-frames
unfolding frames_of maps
returns-clause-frames c =
    let w = c.args.self.now in
    refill-size w.store.nodes.all w.store.frames c.write_frame.new.frames w.trees.items c.args.place c.args.page c.args.frame.n
    w.kept c.requires.to.inside c.requires.to.below (there w c.args.place c.args.page c.args.frame.n c.requires.to) (lone w c.args.place c.args.page c.args.frame.n c.requires) _ c.write_frame.ensures

pub returns-clause-nodes : goal.returns-clause-nodes
unfolding free_nodes
returns-clause-nodes c = refl

pub returns-clause-others : goal.returns-clause-others
unfolding HasNoTree
returns-clause-others c = λ j none. none

within : (w : Rows) → different (row_tags (maps w)) ≤ frames_of w
unfolding maps frames_of
within w =
    let used = used-is w.store.nodes.all w.store.frames w.trees.items w.kept in omega (arith, used, free-used w.store.frames)

pub returns-clause-within : goal.returns-clause-within
returns-clause-within c = within c.args.self.now

pub returns-clause-leads : goal.returns-clause-leads
returns-clause-leads c = λ j q f leads. record { inside = leads.inside; below = leads.below; there = leads.there }

pub returns-clause-alone : goal.returns-clause-alone
unfolding maps
returns-clause-alone c = λ j q f leads.
    let w = c.args.self.now in
    record {
      to = record { inside = leads.to.inside; below = leads.to.below; there = leads.to.there };
      path = leads.path;
      once = refill-count w.store.nodes.all w.store.frames c.write_frame.new.frames w.trees.items c.args.place c.args.page c.args.frame.n
          w.kept c.requires.to.inside c.requires.to.below (there w c.args.place c.args.page c.args.frame.n c.requires.to) (lone w c.args.place c.args.page c.args.frame.n c.requires) _ c.write_frame.ensures f ∙ leads.once;
    }
