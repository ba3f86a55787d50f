-- How many contexts and groups a step of a serve adds.
use Rattle.std.proofs.Common.{◌≡◌, ℕ, ◌+◌, ◌≤◌, ap, arith, refl}
use Rattle.std.specs.FinMap as fm
use Rattle.kernel_core.proofs.Beginnings.{adds}
use Rattle.lwc_base.proofs.Facts.{counts}
use Rattle.lwc_base.specs.Fresh.{IsFresh}
use Rattle.lwc_base.specs.World.{World}
use Rattle.lwc_types.specs.declared.name.Name.{Name}
use Rattle.snapshot_host.specs.Begin.{begin, begun_context}

-- the number of contexts and groups
abbrev pub names_of : World → ℕ
names_of w = fm.len w.contexts + fm.len w.groups

-- a change that adds at most two, and keeps the size
pub record AddsFew (w v : World) : Type 0 where
  pub size : v.size ≡ w.size
  pub names : names_of v ≤ names_of w + 2

pub few_same : (w : World) → AddsFew w w
few_same w = record { size = refl; names = omega arith }

-- a request begins
pub few_begin : (w : World) (home : Name) (r : ℕ) → IsFresh w → AddsFew w (begin w home r)
few_begin w home r fresh =
    let one = adds w home r in
    record {
      size = one.size;
      names = omega (
        arith,
        (counts.context_added w (begin w home r) (r + 1) 0 (begun_context w home r) fresh one).1,
        (counts.same_groups w (begin w home r) 0 (λ g. ap (λ m. fm.contains_key m g) one.groups)).1,
      );
    }
