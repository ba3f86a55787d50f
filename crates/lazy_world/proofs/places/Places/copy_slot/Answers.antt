use Rattle.std.proofs.Common.{refl, arith, length, length-set, ◌∙◌, ap, sym, subst, ℕ, List, ◌<◌}
use Rattle.fd_table.specs.Slots.{Slot, row_of}
use Rattle.fd_table.specs.Seen as slots_seen
use Rattle.cow_space.specs.Seen as pages_seen
use Rattle.lazy_world.specs.Cells.{rows_of}
use Rattle.lazy_world.specs.Kept.{IsNumbered}
use Rattle.lazy_world.specs.Seen.{frame_count, free_nodes, pool, rights, rows, free_frames}
use Rattle.lazy_world.proofs.PlaceLemmas.{numbered-put, numbered-set, slot-put}
use Rattle.lazy_world.proofs.places.Places.copy_slot.Goals as goal

pub copy_slot-requires-clause-to : goal.copy_slot-requires-clause-to
copy_slot-requires-clause-to c = omega (arith, c.args.self.now.kept.slot_count, c.requires.place)

pub copy_slot-requires-clause-from : goal.copy_slot-requires-clause-from
copy_slot-requires-clause-from c = omega (arith, c.args.self.now.kept.slot_count, c.requires.origin)

pub invariant_of-self : goal.invariant_of-self
invariant_of-self c =
    let inside : c.args.place < length (slots_seen.slots c.args.self.now.slots) = omega (arith, c.args.self.now.kept.slot_count, c.requires.place) in
    record {
      kept = record {
        slot_count = ap length c.copy_slot.ensures ∙ length-set (slots_seen.slots c.args.self.now.slots) c.args.place _ ∙ c.args.self.now.kept.slot_count;
        uid_count = c.args.self.now.kept.uid_count;
        targets = subst (λ (table : List (ℕ → Slot)). (i n : ℕ) → IsNumbered (row_of table i n)) (sym c.copy_slot.ensures)
            (numbered-set (slots_seen.slots c.args.self.now.slots) c.args.place _ inside
            (numbered-put (row_of (slots_seen.slots c.args.self.now.slots) c.args.place) c.args.slot _ (c.args.self.now.kept.targets c.args.other c.args.other_slot) (c.args.self.now.kept.targets c.args.place)) c.args.self.now.kept.targets);
      };
    }

pub returns-clause-rows : goal.returns-clause-rows
unfolding rows rows_of slots_seen.slots
returns-clause-rows c =
    ap (λ table. rows_of (pages_seen.cells c.args.self.now.pages) table c.args.self.now.uids.items) c.copy_slot.ensures
    ∙ slot-put _ _ _ c.args.place c.args.slot (row_of (slots_seen.slots c.args.self.now.slots) c.args.other c.args.other_slot) (omega (arith, c.args.self.now.kept.slot_count, c.requires.place))

pub returns-clause-count : goal.returns-clause-count
returns-clause-count c = refl

pub returns-clause-frames : goal.returns-clause-frames
unfolding frame_count
returns-clause-frames c = refl

pub returns-clause-store : goal.returns-clause-store
unfolding rights free_nodes free_frames pool
returns-clause-store c = record { rights = refl; nodes = refl; steps = refl; free = refl; pool = refl }
