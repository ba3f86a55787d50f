use Rattle.std.proofs.Common.{◌∙◌, ap, length, length-set, sym}
use Rattle.fd_table.specs.Seen as slots_seen
use Rattle.cow_space.specs.Cells.{place_of, rights_of}
use Rattle.cow_space.specs.Seen as pages_seen
use Rattle.lazy_world.specs.Cells.{rows_of}
use Rattle.lazy_world.specs.Seen.{frame_count, free_nodes, rights, rows, free_frames, pool}
use Rattle.lazy_world.specs.declared.pieces.PageOrigins.TheVariants.{AllOf}
use Rattle.lazy_world.proofs.TakeLemmas.{all-given, row-given}
use Rattle.lazy_world.proofs.PlaceLemmas.{rights-set}
use Rattle.lazy_world.proofs.AbsentLemmas.{rights-in}
use Rattle.lazy_world.proofs.places.Places.copy_pages.Goals as goal

pub clone_place-requires-clause-to : goal.clone_place-requires-clause-to
clone_place-requires-clause-to c = c.requires.place

pub clone_place-requires-clause-from : goal.clone_place-requires-clause-from
clone_place-requires-clause-from c = c.requires.origin

pub invariant_of-self : goal.invariant_of-self
invariant_of-self c =
    let w = c.args.self.now in
    let same = ap length c.clone_place.ensures.cells ∙ length-set (pages_seen.cells w.pages) c.args.place _ in
    record { kept = record { slot_count = w.kept.slot_count ∙ sym same; uid_count = w.kept.uid_count ∙ sym same; targets = w.kept.targets } }

pub returns-clause-rows : goal.returns-clause-rows
unfolding rows
returns-clause-rows c =
    let w = c.args.self.now in
    let cells = pages_seen.cells w.pages in
    let table = slots_seen.slots w.slots in
    ap (λ cells. rows_of cells table w.uids.items) c.clone_place.ensures.cells
    ∙ row-given cells table w.uids.items c.args.place (AllOf c.args.other) (place_of cells c.args.other) (all-given cells table w.uids.items c.args.place c.args.other) c.requires.place

pub returns-clause-rights : goal.returns-clause-rights
unfolding rights
returns-clause-rights c =
    let w = c.args.self.now in ap rights_of c.clone_place.ensures.rights ∙ rights-set (pages_seen.rights w.pages) c.args.place _ (rights-in w.pages c.args.place c.requires.place)

pub returns-clause-count : goal.returns-clause-count
returns-clause-count c = ap length c.clone_place.ensures.cells ∙ length-set (pages_seen.cells c.args.self.now.pages) c.args.place _

pub returns-clause-frames : goal.returns-clause-frames
unfolding frame_count
returns-clause-frames c = c.clone_place.ensures.frames

pub returns-clause-nodes : goal.returns-clause-nodes
unfolding free_nodes
returns-clause-nodes c = c.clone_place.ensures.nodes

pub returns-clause-cost : goal.returns-clause-cost
unfolding rows rows_of rights
returns-clause-cost c = λ empty. c.clone_place.ensures.cost_empty (λ e p. empty p e)

pub returns-clause-free : goal.returns-clause-free
unfolding free_frames
returns-clause-free c = c.clone_place.ensures.free

pub returns-clause-free_empty : goal.returns-clause-free_empty
unfolding rows rows_of free_frames
returns-clause-free_empty c empty = c.clone_place.ensures.free_empty (λ e p. empty p e)

pub returns-clause-pool : goal.returns-clause-pool
unfolding pool
returns-clause-pool c = c.clone_place.ensures.pool
