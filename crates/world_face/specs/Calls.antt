-- The conditions under which a world is called.
use Rattle.std.specs.Prelude.{◌≡◌, ◌<◌, ◌≤◌, ◌^◌, ℕ, true}
use Rattle.std.specs.FinMap as fm
use Rattle.lwc_base.specs.World.{World, is_live}
use Rattle.lwc_types.specs.declared.name.Name.{Name}
use Rattle.lwc_types.specs.declared.limits.TheConstants.{MOST_CONTEXTS, MOST_FRAMES, MOST_GROUPS, MOST_JOBS}
use Rattle.lwc_types.specs.declared.limits.TheConstants.{MOST_PAGES, MOST_RANGES}
use Rattle.lwc_types.specs.declared.size.WorldSize.{WorldSize}

-- the sizes that a world may be opened with
pub record IsSize (size : WorldSize) : Type 0 where
  pub frames : (1 ≤ size.frames) × (size.frames ≤ MOST_FRAMES)
  pub contexts : (1 ≤ size.contexts) × (size.contexts ≤ MOST_CONTEXTS)
  pub groups : (1 ≤ size.groups) × (size.groups ≤ MOST_GROUPS)
  pub jobs : (1 ≤ size.jobs) × (size.jobs ≤ MOST_JOBS)
  pub pages : (1 ≤ size.pages) × (size.pages ≤ MOST_PAGES)

-- a context of this name is live
abbrev pub IsLive : World → Name → Type 0
IsLive w c = is_live w c ≡ true

-- the job is one of the world's, and has named fewer contexts, groups and tags than 2^31 each
pub record MayName (w : World) (job : ℕ) : Type 0 where
  pub known : job < w.size.jobs
  pub contexts : (w.next job).contexts < 2 ^ 31
  pub groups : (w.next job).groups < 2 ^ 31
  pub tags : (w.next job).tags < 2 ^ 31

-- one more context may live
abbrev pub HasPlace : World → Type 0
HasPlace w = fm.len w.contexts < w.size.contexts

-- one more group may live
abbrev pub HasGroupPlace : World → Type 0
HasGroupPlace w = fm.len w.groups < w.size.groups

-- two numbers of ranges are within the limit
abbrev pub AreFew : ℕ × ℕ → Type 0
AreFew counts = (counts.0 ≤ MOST_RANGES) × (counts.1 ≤ MOST_RANGES)
