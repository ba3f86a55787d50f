-- The page run of an origin, if there is one.
use Rattle.std.proofs.Common.{◌≡◌, ap, refl, ◌∙◌, Option, None, Some}
use Rattle.std.specs.Option.{option_map}
use Rattle.lwc_types.specs.declared.range.Range.{Range}
use Rattle.lwc_types.specs.declared.right.Right.{Right}
use Rattle.cow_space.specs.declared.page_runs.Origin.{Origin}
use Rattle.cow_space.specs.declared.page_runs.PageRun.{PageRun}
use Rattle.lazy_world.specs.Origins.{gift_of}

module _ (origin : Option Origin) (range : Range) (right : Option Right) (page_run : Option PageRun) (is : page_run ≡ option_map (λ o. record { range = range; origin = o; right = right }) origin) where
  -- its origin
  pub origin-of : option_map (λ s. s.origin) page_run ≡ origin
  origin-of = ap (option_map (λ (s : PageRun). s.origin)) is ∙ at origin
    where
      at : (o : Option Origin) → option_map (λ (s : PageRun). s.origin) (option_map (λ o. record { range = range; origin = o; right = right }) o) ≡ o
      at None = refl
      at (Some o) = refl

  -- what it gives
  pub gift-of : option_map gift_of page_run ≡ option_map (λ o. (o, right)) origin
  gift-of = ap (option_map gift_of) is ∙ at origin
    where
      at : (o : Option Origin) → option_map gift_of (option_map (λ o. record { range = range; origin = o; right = right }) o) ≡ option_map (λ o. (o, right)) o
      at None = refl
      at (Some o) = refl
