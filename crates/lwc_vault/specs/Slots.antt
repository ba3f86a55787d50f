-- Whether an image leaves the vault's slot free.
use Rattle.std.specs.Prelude.{◌==◌, Bool}
use Rattle.std.specs.List.{list_any}
use Rattle.guest_image.specs.declared.image.Image.{Image}
use Rattle.guest_image.specs.declared.image.TheConstants.{VAULT_SLOT}

-- whether a slot of the image is the vault's
abbrev pub takes_vault_slot : Image → Bool
takes_vault_slot image = list_any (λ s. s.slot == VAULT_SLOT) image.slots
