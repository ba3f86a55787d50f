use Rattle.std.proofs.Common.{refl, arith, length-set, ◌∙◌}
use Rattle.lazy_world.specs.Seen.{free_nodes, rights, rows, free_frames, pool, frame_count}
use Rattle.lazy_world.proofs.PlaceLemmas.{uid-put}
use Rattle.lazy_world.proofs.places.Places.put_uid.Goals as goal

pub index_mut-requires : goal.index_mut-requires
index_mut-requires c = omega (arith, c.args.self.now.kept.uid_count, c.requires, c.args.self.now.uids.ok)

pub invariant_of-self : goal.invariant_of-self
invariant_of-self c = record {
  kept = record {
    slot_count = c.args.self.now.kept.slot_count;
    uid_count = length-set c.args.self.now.uids.items c.args.place c.args.cell ∙ c.args.self.now.kept.uid_count;
    targets = c.args.self.now.kept.targets;
  };
}

pub returns-clause-rows : goal.returns-clause-rows
unfolding rows
returns-clause-rows c = uid-put _ _ _ c.args.place c.args.cell (omega (arith, c.args.self.now.kept.uid_count, c.requires))

pub returns-clause-store : goal.returns-clause-store
unfolding rights free_nodes free_frames pool
returns-clause-store c = record { rights = refl; nodes = refl; steps = refl; free = refl; pool = refl }

pub returns-clause-frames : goal.returns-clause-frames
unfolding frame_count
returns-clause-frames c = refl
