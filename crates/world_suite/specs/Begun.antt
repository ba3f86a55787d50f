-- What a world is that a test begins with.
use Rattle.std.specs.Prelude.{◌≡◌, ℕ}
use Rattle.lwc_base.specs.World.{World}
use Rattle.lwc_types.specs.declared.name.Name.{Name}
use Rattle.world_face.specs.Calls.{HasGroupPlace, HasPlace, IsLive}

-- a world of four pages in which this context is live, one more may be made, and job 1 has named nothing
pub record IsBegun (frames : ℕ) (w : World) (c : Name) : Type 0 where
  pub live : IsLive w c
  pub size : w.size ≡ record { frames = frames; contexts = 2; groups = 1; jobs = 2; pages = 4 }
  pub place : HasPlace w
  pub group_place : HasGroupPlace w
  pub next : w.next 1 ≡ record { contexts = 0; groups = 0; tags = 0 }
