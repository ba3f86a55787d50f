-- An image leaves the vault's slot free, or takes it.
use Rattle.std.proofs.Common.{◌≡◌, ◌≢◌, All, Bool, true, false, eqb, List, [], ◌∷◌, refl}
use Rattle.std.specs.Prelude.{◌||◌}
use Rattle.std.specs.List.{list_any}
use Rattle.std.proofs.lemmas.Bool.{eqb-false, ne_eqb}
use Rattle.std.proofs.lemmas.List.Elements.{All-cons, All-nil, All-weaker}
use Rattle.std.proofs.lemmas.List.Folds.{list_any_none}
use Rattle.guest_image.specs.declared.image.Image.{Image}
use Rattle.guest_image.specs.declared.image.SlotImage.{SlotImage}
use Rattle.guest_image.specs.declared.image.TheConstants.{VAULT_SLOT}
use Rattle.lwc_vault.specs.Slots.{takes_vault_slot}

free_slots : (slots : List SlotImage) → list_any (λ s. eqb s.slot VAULT_SLOT) slots ≡ false → All (λ s. s.slot ≢ VAULT_SLOT) slots
free_slots [] is = All-nil _
free_slots (s ∷ ss) is = by (eqb s.slot VAULT_SLOT) refl (free_slots ss) is
  where
    by : (b : Bool) → eqb s.slot VAULT_SLOT ≡ b → (list_any (λ s. eqb s.slot VAULT_SLOT) ss ≡ false → All (λ s. s.slot ≢ VAULT_SLOT) ss) →
        (b || list_any (λ s. eqb s.slot VAULT_SLOT) ss) ≡ false → All (λ s. s.slot ≢ VAULT_SLOT) (s ∷ ss)
    by true same rest none = absurd cc
    by false other rest none = All-cons (λ (s : SlotImage). s.slot ≢ VAULT_SLOT) s ss (eqb-false s.slot VAULT_SLOT other) (rest none)

-- each slot of an image that leaves the vault's free is another one
pub leaves_free : (image : Image) → takes_vault_slot image ≡ false → All (λ s. s.slot ≢ VAULT_SLOT) image.slots
leaves_free image is = free_slots image.slots is

-- and where each is, it is left free
pub takes_none : (image : Image) → All (λ s. s.slot ≢ VAULT_SLOT) image.slots → takes_vault_slot image ≡ false
takes_none image free =
    list_any_none (λ s. eqb s.slot VAULT_SLOT) image.slots
    (All-weaker (λ (s : SlotImage). s.slot ≢ VAULT_SLOT) (λ (s : SlotImage). eqb s.slot VAULT_SLOT ≡ false) (λ s other. ne_eqb s.slot VAULT_SLOT other) image.slots free)
