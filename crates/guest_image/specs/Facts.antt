-- How what is read of a file follows from its bytes.
use Rattle.std.specs.Prelude.{◌≡◌, ◌↔◌, ◌<◌, ℕ, List, All, Ok, Err}
use Rattle.guest_image.specs.declared.fault.ImageRule.{ImageRule}
use Rattle.guest_image.specs.declared.image.Image.{Image}
use Rattle.guest_image.specs.Limits.{IsImage}
use Rattle.guest_image.specs.Reading.{image_at}
use Rattle.guest_image.specs.Refusals.{IsRefused}
use Rattle.guest_image.specs.Spelling.{spelling}

-- an image is read from its bytes, no other bytes give one, and a refusal is exactly where a rule is broken
pub record ReadingFacts : Type 0 where
  pub reads : (image : Image) → IsImage image → image_at (spelling image) ≡ Ok image
  pub found : (bytes : List ℕ) (image : Image) → All (λ b. b < 256) bytes → image_at bytes ≡ Ok image
      → IsImage image × (bytes ≡ spelling image)
  pub refused : (bytes : List ℕ) (rule : ImageRule) (at : ℕ) → All (λ b. b < 256) bytes
      → (image_at bytes ≡ Err (record { rule = rule; at = at })) ↔ IsRefused bytes rule at
