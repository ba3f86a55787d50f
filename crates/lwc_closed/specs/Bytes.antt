-- Machines in which other contexts' own pages have zero bytes, and what steps learn of those bytes.
use Rattle.std.specs.Prelude.{◌≡◌, ◌≢◌, ℕ, List, [], ◌∷◌, false, true}
use Rattle.blank_steps.specs.Blanks.{blank_in}
use Rattle.confinement.specs.Fences.{Fence}
use Rattle.kernel_core.specs.Machine.{Machine}
use Rattle.kernel_core.specs.Runs.{kept, run}
use Rattle.lwc_base.specs.World.{is_live}
use Rattle.lwc_types.specs.declared.key.Key.{Key}
use Rattle.lwc_types.specs.declared.name.Name.{Name}
use Rattle.lwc_text.specs.Report.{text_of}

-- the machine with zero bytes in the own pages of these contexts
abbrev pub without_bytes : List Name → Machine → Machine
without_bytes [] m = m
without_bytes (v ∷ vs) m = blank_in v (without_bytes vs m)

-- a context is outside a fence, and no key of it is opened
pub record IsShutOff (f : Fence) (v : Name) : Type 0 where
  pub outside : f.inside v ≡ false
  pub shut : (k : Key) → f.opened v k ≡ false

-- another context that lives
pub record IsAnother (m : Machine) (c v : Name) : Type 0 where
  pub other : v ≢ c
  pub live : is_live m.environment.world v ≡ true

-- these steps learn nothing of the bytes in these contexts' own pages: without those bytes they come to the
-- same machine, but for the bytes, the same steps are legal, and the report is the same
pub record LearnNothing (m : Machine) (steps : List ℕ) (others : List Name) : Type 0 where
  pub machine : run (without_bytes others m) steps ≡ without_bytes others (run m steps)
  pub legal : kept (without_bytes others m) steps ≡ kept m steps
  pub report : text_of (without_bytes others m) steps ≡ text_of m steps
  pub alike : (n : Machine) → without_bytes others n ≡ without_bytes others m →
      (kept n steps ≡ kept m steps) × (text_of n steps ≡ text_of m steps)
