-- What a reading of a file answers.
use Rattle.std.proofs.Common.{◌≡◌, ℕ, List, Result, Ok, Err, subst, ap, ◌∙◌, IfOk}
use Rattle.guest_image.specs.declared.fault.ImageRule.{ImageRule}
use Rattle.guest_image.specs.declared.image.Image.{Image}
use Rattle.guest_image.specs.Facts.{ReadingFacts}
use Rattle.guest_image.specs.Limits.{IsImage}
use Rattle.guest_image.specs.Reading.{Read, image_at}
use Rattle.guest_image.specs.Refusals.{IsRefused}
use Rattle.guest_image.specs.Spelling.{spelling}
use Rattle.guest_image.proofs.FieldLaws.{IsBytes}
use Rattle.guest_image.proofs.PartLaws.{all_bytes}
use Rattle.guest_image.proofs.WholeLaws.{image_takes, image_again, refused_fails, fails_refused}
use Rattle.guest_isa.proofs.Inverse.{IsBytes-from_all}
use Rattle.lwc_types.specs.Outcomes.{Answers}
use Rattle.lwc_types.specs.declared.reading.ReadError.{ReadError}
use Rattle.lwc_types.specs.declared.reading.ReadError.TheVariants.{Refused}

-- an image is read from its bytes, no other bytes give one, and a refusal is exactly where a rule is broken
pub reading_facts : ReadingFacts
reading_facts = record {
  reads = image_again;
  found = λ bytes image all e. image_takes bytes image (IsBytes-from_all bytes all) e;
  refused = λ bytes rule at all. (
    λ e. fails_refused bytes (record { rule = rule; at = at }) (IsBytes-from_all bytes all) e,
    λ is. refused_fails bytes rule at (IsBytes-from_all bytes all) is,
  );
}

module _ (bytes : List ℕ) (fits : IsBytes bytes) where
  abbrev Gives : Result Image (ReadError ImageRule) → Read Image → Type 0
  Gives r read = Answers (λ image. image) r read

  pub is_found : (r : Result Image (ReadError ImageRule)) → Gives r (image_at bytes) → IfOk r (λ image. IsImage image × (bytes ≡ spelling image))
  is_found (Ok image) given = reading_facts.found bytes image (all_bytes bytes fits) given
  is_found (Err error) given = tt

  pub is_only : (r : Result Image (ReadError ImageRule)) → Gives r (image_at bytes) → (image : Image) → IsImage image → bytes ≡ spelling image → Gives r (Ok image)
  is_only r given image is spelled = subst (Gives r) (ap image_at spelled ∙ reading_facts.reads image is) given

  pub is_refused : (r : Result Image (ReadError ImageRule)) → Gives r (image_at bytes) → (rule : ImageRule) (at : ℕ) → r ≡ Err (Refused rule at) → IsRefused bytes rule at
  is_refused r given rule at is =
      let e : image_at bytes ≡ Err (record { rule = rule; at = at }) = subst (λ (o : Result Image (ReadError ImageRule)). Gives o (image_at bytes)) is given in
      (reading_facts.refused bytes rule at (all_bytes bytes fits)).0 e

  pub is_only_refused : (r : Result Image (ReadError ImageRule)) → Gives r (image_at bytes) → (rule : ImageRule) (at : ℕ) → IsRefused bytes rule at → Gives r (Err (record { rule = rule; at = at }))
  is_only_refused r given rule at is = subst (Gives r) ((reading_facts.refused bytes rule at (all_bytes bytes fits)).1 is) given
