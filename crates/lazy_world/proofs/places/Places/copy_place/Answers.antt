use Rattle.std.proofs.Common.{◌∙◌, ap, arith, length, length-set, refl, set, subst, sym, List, ℕ}
use Rattle.lwc_types.specs.declared.key.Key.TheVariants.{Slot}
use Rattle.fd_table.specs.Seen as slots_seen
use Rattle.fd_table.specs.Slots as slots
use Rattle.cow_space.specs.Seen as pages_seen
use Rattle.lazy_world.specs.Cells.{Row, rows_of}
use Rattle.lazy_world.specs.Kept.{IsNumbered}
use Rattle.lazy_world.specs.Seen.{frame_count, free_nodes, rights, rows, free_frames, pool}
use Rattle.lazy_world.proofs.ClearLemmas.{no-slots, rows-copied}
use Rattle.lazy_world.proofs.PlaceLemmas.{choose, numbered-set}
use Rattle.lazy_world.proofs.places.Places.copy_place.Goals as goal

pub clone_place-requires-clause-to : goal.clone_place-requires-clause-to
clone_place-requires-clause-to c = omega (arith, c.copy_pages.new.self.kept.slot_count, c.copy_pages.ensures.count, c.requires.to)

pub clone_place-requires-clause-from : goal.clone_place-requires-clause-from
clone_place-requires-clause-from c = omega (arith, c.copy_pages.new.self.kept.slot_count, c.copy_pages.ensures.count, c.requires.from)

pub clone_place-requires-clause-empty : goal.clone_place-requires-clause-empty
unfolding rows rows_of
clone_place-requires-clause-empty c =
    let w = c.copy_pages.new.self in
    no-slots (slots_seen.slots w.slots) c.args.to (w.kept.targets c.args.to)
    (λ n. ap (λ (rows : ℕ → Row). rows c.args.to (Slot n)) c.copy_pages.ensures.rows ∙ ap (λ (row : Row). row (Slot n)) (choose c.args.to c.args.to _ _ refl) ∙ c.requires.empty n)

pub index_mut-requires : goal.index_mut-requires
index_mut-requires c =
    let w = c.copy_pages.new.self in omega (arith, w.kept.uid_count, c.copy_pages.ensures.count, c.requires.to, w.uids.ok)

pub invariant_of-self : goal.invariant_of-self
invariant_of-self c =
    let w = c.copy_pages.new.self in
    record {
      kept = record {
        slot_count = ap length c.clone_place.ensures ∙ length-set (slots_seen.slots w.slots) c.args.to _ ∙ w.kept.slot_count;
        uid_count = length-set w.uids.items c.args.to _ ∙ w.kept.uid_count;
        targets = subst (λ (table : List (ℕ → slots.Slot)). (i n : ℕ) → IsNumbered (slots.row_of table i n)) (sym c.clone_place.ensures)
            (numbered-set (slots_seen.slots w.slots) c.args.to _ (omega (arith, w.kept.slot_count, c.copy_pages.ensures.count, c.requires.to)) (w.kept.targets c.args.from) w.kept.targets);
      };
    }

pub returns-clause-rows : goal.returns-clause-rows
unfolding rows
returns-clause-rows c =
    let w = c.copy_pages.new.self in
    ap (λ table. rows_of (pages_seen.cells w.pages) table (set w.uids.items c.args.to c.given_uid-uid.result)) c.clone_place.ensures
    ∙ rows-copied (pages_seen.cells w.pages) (slots_seen.slots w.slots) w.uids.items c.args.to (rows c.args.self.now) c.args.from c.given_uid-uid.result
    (omega (arith, w.kept.slot_count, c.copy_pages.ensures.count, c.requires.to)) (omega (arith, w.kept.uid_count, c.copy_pages.ensures.count, c.requires.to))
    c.requires.apart c.given_uid-uid.ensures c.copy_pages.ensures.rows

pub returns-clause-rights : goal.returns-clause-rights
unfolding rights
returns-clause-rights c = c.copy_pages.ensures.rights

pub returns-clause-count : goal.returns-clause-count
returns-clause-count c = c.copy_pages.ensures.count

pub returns-clause-frames : goal.returns-clause-frames
unfolding frame_count
returns-clause-frames c = c.copy_pages.ensures.frames

pub returns-clause-nodes : goal.returns-clause-nodes
unfolding free_nodes
returns-clause-nodes c = c.copy_pages.ensures.nodes

pub returns-clause-free_empty : goal.returns-clause-free_empty
unfolding free_frames
returns-clause-free_empty c = c.copy_pages.ensures.free_empty

pub returns-clause-pool : goal.returns-clause-pool
unfolding pool
returns-clause-pool c = c.copy_pages.ensures.pool
