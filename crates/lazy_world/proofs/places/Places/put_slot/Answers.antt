use Rattle.std.proofs.Common.{refl, arith, length, length-set, ◌∙◌, ap, sym, subst, ℕ, List, ◌<◌}
use Rattle.fd_table.specs.Slots.{Slot, cell_of, row_of}
use Rattle.fd_table.specs.Seen as slots_seen
use Rattle.cow_space.specs.Seen as pages_seen
use Rattle.lazy_world.specs.Cells.{rows_of}
use Rattle.lazy_world.specs.Kept.{IsNumbered, target_of}
use Rattle.lazy_world.specs.Seen.{free_nodes, rights, rows, free_frames, pool, frame_count}
use Rattle.lazy_world.proofs.PlaceLemmas.{slot-put, numbered-put, numbered-set}
use Rattle.lazy_world.proofs.places.Places.put_slot.Goals as goal

pub put-requires-clause-place : goal.put-requires-clause-place
put-requires-clause-place c = omega (arith, c.args.self.now.kept.slot_count, c.requires.place)

pub invariant_of-self : goal.invariant_of-self
invariant_of-self c =
    let inside : c.args.place < length (slots_seen.slots c.args.self.now.slots) = omega (arith, c.args.self.now.kept.slot_count, c.requires.place) in
    record {
      kept = record {
        slot_count = ap length c.put.ensures ∙ length-set (slots_seen.slots c.args.self.now.slots) c.args.place _ ∙ c.args.self.now.kept.slot_count;
        uid_count = c.args.self.now.kept.uid_count;
        targets = subst (λ (table : List (ℕ → Slot)). (i n : ℕ) → IsNumbered (row_of table i n)) (sym c.put.ensures)
            (numbered-set (slots_seen.slots c.args.self.now.slots) c.args.place _ inside
            (numbered-put (row_of (slots_seen.slots c.args.self.now.slots) c.args.place) c.args.slot _ c.target_of-target.ensures.target (c.args.self.now.kept.targets c.args.place)) c.args.self.now.kept.targets);
      };
    }

pub returns-clause-rows : goal.returns-clause-rows
unfolding rows
returns-clause-rows c =
    ap (λ table. rows_of (pages_seen.cells c.args.self.now.pages) table c.args.self.now.uids.items) c.put.ensures
    ∙ slot-put _ _ _ c.args.place c.args.slot (record { cell = cell_of c.args.cell; target = c.target_of-target.result }) (omega (arith, c.args.self.now.kept.slot_count, c.requires.place))

pub put-requires-clause-named : goal.put-requires-clause-named
put-requires-clause-named c empty = c.target_of-target.ensures.target ∙ ap target_of empty

pub returns-clause-store : goal.returns-clause-store
unfolding rights free_nodes free_frames pool
returns-clause-store c = record { rights = refl; nodes = refl; steps = refl; free = refl; pool = refl }

pub returns-clause-frames : goal.returns-clause-frames
unfolding frame_count
returns-clause-frames c = refl
