-- What the readers of vaults and scripts answer, one test after another.
use Rattle.std.proofs.Common.{◌≡◌, ◌<◌, ◌≤◌, ◌+◌, ℕ, Bool, true, false, cond, List, length, Ok, Err, refl, sym, ap, ◌∙◌, arith}
use Rattle.std.specs.Prelude.{nat_lt}
use Rattle.std.proofs.lemmas.Bool.{le-ltb, lt-ltb, ltb-false}
use Rattle.guest_image.specs.declared.image.Image.{Image}
use Rattle.guest_image.specs.declared.image.Vault.{Vault}
use Rattle.guest_image.specs.Limits.{pages_of}
use Rattle.lwc_debug.specs.Scripts.{script_at}
use Rattle.lwc_debug.specs.declared.command.Command.{Command}
use Rattle.lwc_debug.specs.declared.script.TheConstants.{MOST_SCRIPT_BYTES}
use Rattle.lwc_text.specs.VaultFiles.{vault_at}
use Rattle.lwc_text.specs.declared.vault.TheConstants.{MOST_VAULT_BYTES}
use Rattle.lwc_text.specs.declared.fault.InputRule.TheVariants as inputs
use Rattle.lwc_vault.specs.Slots.{takes_vault_slot}
use Rattle.lwcrun_inputs.specs.declared.ending.Rejection.{Rejection}
use Rattle.lwcrun_inputs.specs.declared.ending.Rejection.TheVariants as rejections
use Rattle.lwcrun_inputs.specs.Inputs.{or_rejected, then_tested, within_limit}
use Rattle.lwcrun_core.specs.Beside.{fitted_beside, script_of, vault_for}
use Rattle.lwcrun_inputs.proofs.Readers.{limited}

-- the grammars reject what is too long

too_long_script : (bytes : List ℕ) → MOST_SCRIPT_BYTES < length bytes → script_of bytes ≡ Err (rejections.Input inputs.TooLong MOST_SCRIPT_BYTES)
unfolding script_of script_at
too_long_script bytes long = rw (lt-ltb MOST_SCRIPT_BYTES (length bytes) long) refl

too_long_vault : (image : Image) (bytes : List ℕ) → MOST_VAULT_BYTES < length bytes → vault_for image bytes ≡ Err (rejections.Input inputs.TooLong MOST_VAULT_BYTES)
unfolding vault_for vault_at
too_long_vault image bytes long = rw (lt-ltb MOST_VAULT_BYTES (length bytes) long) refl

pub script_limited : (r : Rejection) → r ≡ rejections.Input inputs.TooLong MOST_SCRIPT_BYTES → (bytes : List ℕ) → script_of bytes ≡ then_tested (within_limit MOST_SCRIPT_BYTES r bytes) script_of
script_limited r is = limited MOST_SCRIPT_BYTES r script_of (λ bytes long. too_long_script bytes long ∙ ap Err (sym is))

pub vault_limited : (image : Image) (r : Rejection) → r ≡ rejections.Input inputs.TooLong MOST_VAULT_BYTES → (bytes : List ℕ) → vault_for image bytes ≡ then_tested (within_limit MOST_VAULT_BYTES r bytes) (vault_for image)
vault_limited image r is = limited MOST_VAULT_BYTES r (vault_for image) (λ bytes long. too_long_vault image bytes long ∙ ap Err (sym is))

-- what the grammars make of what their readers answer

pub script_read : (bytes : List ℕ) (script : List Command) → script_at bytes ≡ Ok script → script_of bytes ≡ Ok script
unfolding script_of
script_read bytes script is = ap (or_rejected rejections.Input) is

pub vault_read : (image : Image) (bytes : List ℕ) (v : Vault) → vault_at (length image.text) (pages_of image.form) bytes ≡ Ok v → vault_for image bytes ≡ Ok v
unfolding vault_for
vault_read image bytes v is = ap (or_rejected rejections.Input) is

-- a vault that can stand beside an image, and one that can not

pub slot_is_taken : (frames : ℕ) (image : Image) (v : Vault) → takes_vault_slot image ≡ true → fitted_beside frames image v ≡ Err (rejections.Input inputs.SlotTaken 0)
slot_is_taken frames image v taken = rw taken refl

pub too_large_beside : (frames pages : ℕ) (image : Image) (v : Vault) → takes_vault_slot image ≡ false → pages ≡ length image.pages + length v.pages → frames < pages → fitted_beside frames image v ≡ Err (rejections.TooLarge pages frames)
too_large_beside frames pages image v free is over =
    let over_sum : frames < length image.pages + length v.pages = omega (arith, is, over) in
    rw free (rw (lt-ltb _ _ over_sum) (ap (λ n. Err (rejections.TooLarge n frames)) (sym is)))

pub fits_beside : (frames : ℕ) (image : Image) (v : Vault) → takes_vault_slot image ≡ false → length image.pages + length v.pages ≤ frames → fitted_beside frames image v ≡ Ok v
fits_beside frames image v free fits = rw free (rw (le-ltb _ _ fits) refl)

beside_by : (pages frames : ℕ) (y x : Vault) (r s : Rejection) (a b : Bool) → nat_lt frames pages ≡ b → cond a (Err r) (cond b (Err s) (Ok y)) ≡ Ok x → (y ≡ x) × (a ≡ false) × (pages ≤ frames)
beside_by pages frames y x r s true b is e = absurd cc
beside_by pages frames y x r s false true is e = absurd cc
beside_by pages frames y x r s false false is e = (cc, refl, ltb-false _ _ is)

pub beside_found : (frames : ℕ) (image : Image) (y x : Vault) → fitted_beside frames image y ≡ Ok x → (y ≡ x) × (takes_vault_slot image ≡ false) × (length image.pages + length y.pages ≤ frames)
beside_found frames image y x e = beside_by (length image.pages + length y.pages) frames y x _ _ (takes_vault_slot image) (nat_lt frames (length image.pages + length y.pages)) refl e
