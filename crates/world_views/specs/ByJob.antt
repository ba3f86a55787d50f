-- The worlds of a serve, in which each job has what is its own, and beside it the pages of a home.
use Rattle.std.specs.Prelude.{◌≡◌, ◌≢◌, ◌⊎◌, ◌<◌, ◌+◌, ℕ, Option, None, Some, true, List, [], ◌∷◌}
use Rattle.lwc_base.specs.declared.descriptor.Descriptor.{Descriptor}
use Rattle.lwc_base.specs.declared.descriptor.Descriptor.TheVariants.{Empty, Console, File, Request, Reply, Ctx}
use Rattle.lwc_base.specs.Frames.{own_value, tag_of}
use Rattle.lwc_base.specs.Holders.{Keeps, Rules}
use Rattle.lwc_base.specs.Keys.{ValueOf}
use Rattle.lwc_base.specs.Life.{is_among}
use Rattle.lwc_base.specs.World.{World, context, is_live}
use Rattle.lwc_types.specs.declared.key.Key.{Key}
use Rattle.lwc_types.specs.declared.key.Key.TheVariants.{Page, Slot, Cred}
use Rattle.lwc_types.specs.declared.name.Name.{Name}
use Rattle.lwc_types.specs.declared.name.Tag.{Tag}
use Rattle.lwc_types.specs.declared.page.PageValue.{PageValue}
use Rattle.lwc_types.specs.declared.page.PageValue.TheVariants.{Zero, Data}
use Rattle.world_views.specs.Views.{view}

-- a context of job 0 that stays, and the tags of its pages
pub record Home : Type 0 where
  pub name : Name
  pub tags : ℕ → Option Tag

-- what may be under a page of a job: nothing, zeros, or bytes under a tag of the job or the home's tag there
abbrev pub IsPageOf : Home → ℕ → ℕ → Option PageValue → Type 0
IsPageOf home job p None = Unit {0}
IsPageOf home job p (Some Zero) = Unit {0}
IsPageOf home job p (Some (Data tag bytes)) = (tag.job ≡ job) ⊎ (home.tags p ≡ Some tag)

-- what may be in a slot of a job: files, its own contexts, request and reply; the console never
abbrev pub IsSlotOf : ℕ → Descriptor → Type 0
IsSlotOf job Empty = Unit {0}
IsSlotOf job Console = ⊥
IsSlotOf job (File file at) = Unit {0}
IsSlotOf job (Request r at) = r + 1 ≡ job
IsSlotOf job (Reply r) = r + 1 ≡ job
IsSlotOf job (Ctx name cap) = name.job ≡ job

-- what may be under a key of a job; each uid may be
abbrev pub IsValueOf : Home → ℕ → (k : Key) → ValueOf k → Type 0
IsValueOf home job (Page p) value = IsPageOf home job p value
IsValueOf home job (Slot n) value = IsSlotOf job value
IsValueOf home job Cred value = Unit {0}

-- a job's cells name groups of that job alone, and what is under its keys may be there
abbrev pub by_job : Home → Rules
by_job home = record { group = λ job k g. g.job ≡ job; value = IsValueOf home }

-- the home lives, and has each of its tags at its page
pub record HasHome (home : Home) (w : World) : Type 0 where
  pub nobody : home.name.job ≡ 0
  pub live : is_live w home.name ≡ true
  pub tags : (p : ℕ) (tag : Tag) → home.tags p ≡ Some tag →
      (p < w.size.pages) × (tag.job ≡ 0)
      × (tag_of (own_value ((context w home.name).cell (Page p))) ≡ tag ∷ [])

-- each job has what is its own, and beside it the pages of the home
pub record KeepsJobs (home : Home) (w : World) : Type 0 where
  pub kept : Keeps (by_job home) w
  pub there : HasHome home w

-- two worlds look alike to a job, through a thread in each
pub record LooksAlike (home : Home) (job t s : ℕ) (w v : World) : Type 0 where
  pub some_job : job ≢ 0
  pub first : KeepsJobs home w
  pub second : KeepsJobs home v
  pub seen : view job t w ≡ view job s v

-- of two lists of roots, a name of a job is in both or in neither
abbrev pub SameRoots : ℕ → List Name → List Name → Type 0
SameRoots job roots others =
    (k : ℕ) → is_among roots (record { job = job; k = k }) ≡ is_among others (record { job = job; k = k })
