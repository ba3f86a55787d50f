-- A request begins alike in two worlds that look alike to its job, and no other job sees it.
use Rattle.std.proofs.Common.{◌≡◌, ◌≢◌, ℕ, ◌+◌, refl, ap, subst, ◌∙◌, arith}
use Rattle.lwc_base.specs.Holders.{InContext}
use Rattle.lwc_base.specs.World.{World}
use Rattle.lwc_types.specs.declared.name.Name.{Name}
use Rattle.snapshot_host.specs.Begin.{begin, begun_context}
use Rattle.world_views.proofs.Keeping.{add-keeps}
use Rattle.world_views.proofs.Together.{add-alike}
use Rattle.world_views.proofs.Views.{hidden-add_context}
use Rattle.world_views.specs.ByJob.{Home, KeepsJobs, LooksAlike, by_job}
use Rattle.world_views.specs.Views.{seen_by, view}

module _ (home : Home) (r : ℕ) (a : Name) (w : World) where
  pub begin-keeps : InContext (by_job home) (r + 1) (begun_context w a r) → KeepsJobs home w → KeepsJobs home (begin w a r)
  unfolding begin
  begin-keeps fits keeps = add-keeps home (r + 1) w (begun_context w a r) (λ none. omega (arith, none)) fits keeps

  none_saved : (t s : ℕ) → seen_by t (begun_context w a r) ≡ seen_by s (begun_context w a r)
  unfolding begun_context
  none_saved t s = refl

  pub begin-alike : (t s : ℕ) (b : Name) (v : World) → InContext (by_job home) (r + 1) (begun_context w a r) → begun_context w a r ≡ begun_context v b r → LooksAlike home (r + 1) t s w v →
      LooksAlike home (r + 1) t s (begin w a r) (begin v b r)
  unfolding begin
  begin-alike t s b v fits same alike =
      add-alike home (r + 1) t s w v (begun_context w a r) (begun_context v b r) fits (subst (InContext (by_job home) (r + 1)) same fits) (none_saved t s ∙ ap (seen_by s) same) alike

pub begin-hidden : (job t r : ℕ) (a : Name) (w : World) → r + 1 ≢ job →
    view job t (begin w a r) ≡ view job t w
unfolding begin
begin-hidden job t r a w other = hidden-add_context job t (r + 1) w (begun_context w a r) other
