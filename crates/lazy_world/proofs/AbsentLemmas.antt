-- The rights of absent pages.
use Rattle.std.proofs.Common.{◌≡◌, ℕ, ◌<◌, length, arith, None}
use Rattle.lwc_base.specs.declared.cell.Cell.TheVariants.{Own}
use Rattle.lwc_types.specs.declared.key.Key.TheVariants.{Page}
use Rattle.lwc_types.specs.declared.right.Right.TheVariants.{Write}
use Rattle.cow_space.specs.declared.cells.PageCells.{PageCells}
use Rattle.cow_space.specs.Cells.{place_of, rights_of}
use Rattle.cow_space.specs.Seen as pages_seen
use Rattle.lazy_world.specs.declared.places.Places.{Places}
use Rattle.lazy_world.specs.Cells.{rows_of}
use Rattle.lazy_world.specs.Seen.{rights, rows}
use Rattle.cow_space.proofs.Views as views

-- each place has rights
pub rights-in : (w : PageCells) (i : ℕ) → i < length (pages_seen.cells w) → i < length (pages_seen.rights w)
rights-in w i inside = omega (arith, inside, views.rights-count w)

-- those of absent pages are Write
pub absent-right : (w : Places) (i p : ℕ) → place_of (pages_seen.cells w.pages) i p ≡ Own None → rights_of (pages_seen.rights w.pages) i p ≡ Write
absent-right w i p = views.absent-right w.pages i p

pub no-right : (w : Places) (i p : ℕ) → rows w i (Page p) ≡ Own None → rights w i p ≡ Write
unfolding rows rows_of rights
no-right w i p = absent-right w i p
