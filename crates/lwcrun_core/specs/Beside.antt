-- What is read beside an image and a schedule: a vault, and a script.
use Rattle.std.specs.Prelude.{ℕ, ◌+◌, if◌then◌else◌, nat_lt, length, List, Result, Ok, Err}
use Rattle.guest_image.specs.declared.image.Image.{Image}
use Rattle.guest_image.specs.declared.image.Vault.{Vault}
use Rattle.guest_image.specs.Limits.{pages_of}
use Rattle.lwc_debug.specs.Scripts.{script_at}
use Rattle.lwc_debug.specs.declared.command.Command.{Command}
use Rattle.lwc_text.specs.VaultFiles.{vault_at}
use Rattle.lwc_vault.specs.Slots.{takes_vault_slot}
use Rattle.lwc_text.specs.declared.fault.InputRule.TheVariants.{SlotTaken}
use Rattle.lwcrun_inputs.specs.Inputs.{or_rejected, then_tested}
use Rattle.lwcrun_inputs.specs.declared.ending.Rejection.{Rejection}
use Rattle.lwcrun_inputs.specs.declared.ending.Rejection.TheVariants as rejections

-- the vault that bytes spell for an image, or why they are rejected
unfoldable pub vault_for : Image → List ℕ → Result Vault Rejection
vault_for image bytes =
    or_rejected rejections.Input (vault_at (length image.text) (pages_of image.form) bytes)

-- a vault whose slot the image leaves free, and whose pages fit the frames together with the image's; else it is
-- rejected
abbrev pub fitted_beside : ℕ → Image → Vault → Result Vault Rejection
fitted_beside frames image v =
    if takes_vault_slot image then Err (rejections.Input SlotTaken 0)
    else (if nat_lt frames (length image.pages + length v.pages)
    then Err (rejections.TooLarge (length image.pages + length v.pages) frames)
    else Ok v)

-- the vault that bytes spell for an image, where it can stand beside the image, or why they are rejected
unfoldable pub fitting_vault_for : ℕ → Image → List ℕ → Result Vault Rejection
fitting_vault_for frames image bytes = then_tested (vault_for image bytes) (fitted_beside frames image)

-- the commands that bytes spell, or why they are rejected
unfoldable pub script_of : List ℕ → Result (List Command) Rejection
script_of bytes = or_rejected rejections.Input (script_at bytes)
