-- What a vault file is, and how it is read.
use Rattle.std.specs.Prelude.{◌≡◌, ℕ, zero, suc, ◌+◌, ◌&&◌, not, nat_lt, ◌==◌, if◌then◌else◌, List, [], ◌∷◌, ◌++◌}
use Rattle.std.specs.Prelude.{length, take, drop, Option, Some, None, Result, Ok, Err, is_some}
use Rattle.std.specs.Int.{w32, from_le_bytes}
use Rattle.std.specs.List.{flat_map}
use Rattle.guest_image.specs.Limits.{IsVault}
use Rattle.guest_image.specs.Numbers.{is_above}
use Rattle.guest_image.specs.Spelling.{number, page}
use Rattle.guest_image.specs.declared.image.PageImage.{PageImage}
use Rattle.guest_image.specs.declared.image.TheConstants.{MOST_VAULT_PAGES}
use Rattle.guest_image.specs.declared.image.Vault.{Vault}
use Rattle.lwc_types.specs.Outcomes.{Refusal, ◌>>=◌}
use Rattle.lwc_text.specs.declared.fault.InputRule.{InputRule}
use Rattle.lwc_text.specs.declared.fault.InputRule.TheVariants.{TooLong, Truncated, BadEntry, BadPage}
use Rattle.lwc_text.specs.declared.vault.TheConstants.{MOST_VAULT_BYTES, NUMBER_BYTES, NUMBERED_PAGE_BYTES}

-- the bytes of a vault: its entry, and then each page's number and bytes
abbrev pub vault_bytes : Vault → List ℕ
vault_bytes v = number v.entry ++ flat_map page v.pages

-- the bytes are those of this vault, beside a text of this length and with contexts of this number of pages
pub record IsVaultFile (instructions pages : ℕ) (bytes : List ℕ) (v : Vault) : Type 0 where
  pub valid : IsVault instructions pages v
  pub spelled : bytes ≡ vault_bytes v

-- a value, or the first refusal
abbrev pub Read : Type 0 → Type 0
Read A = Result A (Refusal InputRule)

-- a rule is broken at an offset
abbrev pub refused : {A : Type 0} → InputRule → ℕ → Read A
refused rule at = Err (record { rule = rule; at = at })

-- the number at the beginning of bytes: the lowest byte first
abbrev pub number_in : List ℕ → ℕ
number_in bytes = from_le_bytes w32 (take NUMBER_BYTES bytes)

-- the page at the beginning of bytes, which have it whole
abbrev pub page_in : List ℕ → PageImage
page_in bytes = record {
  number = number_in bytes;
  bytes = drop NUMBER_BYTES (take NUMBERED_PAGE_BYTES bytes);
}

-- the page at an offset, after one with this number: its number is tested once it is whole, and then its bytes
unfoldable pub page_at : ℕ → Option ℕ → ℕ → List ℕ → Read PageImage
page_at pages last at rest =
    if nat_lt (length rest) NUMBER_BYTES then refused Truncated (at + length rest)
    else (if not (nat_lt (number_in rest) pages && is_above last (number_in rest)) then refused BadPage at
    else (if nat_lt (length rest) NUMBERED_PAGE_BYTES then refused Truncated (at + length rest)
    else Ok (page_in rest)))

-- the pages from an offset on, after one with this number: at most this number, and one at least
unfoldable pub pages_at : ℕ → ℕ → Option ℕ → ℕ → List ℕ → Read (List PageImage)
pages_at zero pages last at rest = Ok []
pages_at (suc most) pages last at rest =
    if length rest == 0 && is_some last then Ok []
    else (do
      p ← page_at pages last at rest
      ps ← pages_at most pages (Some p.number) (at + NUMBERED_PAGE_BYTES) (drop NUMBERED_PAGE_BYTES rest)
      Ok (p ∷ ps))

-- the vault that the bytes spell, or the first refusal
unfoldable pub vault_at : ℕ → ℕ → List ℕ → Read Vault
vault_at instructions pages bytes =
    if nat_lt MOST_VAULT_BYTES (length bytes) then refused TooLong MOST_VAULT_BYTES
    else (if nat_lt (length bytes) NUMBER_BYTES then refused Truncated (length bytes)
    else (if not (nat_lt (number_in bytes) instructions) then refused BadEntry 0
    else (do
      ps ← pages_at MOST_VAULT_PAGES pages None NUMBER_BYTES (drop NUMBER_BYTES bytes)
      Ok (record { entry = number_in bytes; pages = ps }))))
