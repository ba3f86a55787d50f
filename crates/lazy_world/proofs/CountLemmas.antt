-- How many of a range are counted, and what jobs have counted.
use Rattle.std.proofs.Common.{◌≡◌, ◌<◌, ℕ, arith, get_or, length}
use Rattle.std.proofs.lemmas.List.{get_or_read}
use Rattle.lwc_base.specs.World.{nothing_counted}
use Rattle.lwc_types.specs.declared.counters.Counters.{Counters}
use Rattle.lazy_world.specs.declared.world.PlacedWorld.{PlacedWorld}
use Rattle.lazy_world.specs.States.{world_of}
use Rattle.lazy_world.specs.Worlds.{parts, seen}

-- a job that is known has its place
module _ (w : PlacedWorld) (job : ℕ) (known : job < (seen w).size.jobs) where
  pub known-job : job < w.size.jobs
  unfolding seen parts world_of
  known-job = known

  pub counts-job : job < length w.counts.items
  counts-job = omega (arith, known-job, w.sound.sizes.counts)

  -- what it has counted, as it is read there
  pub read-counts : (n : Counters) → n ≡ get_or w.counts.items job n → n ≡ get_or w.counts.items job nothing_counted
  read-counts n read = get_or_read w.counts.items job n counts-job read nothing_counted
