-- How what is read of a schedule, of requests or of a vault follows from the bytes.
use Rattle.std.specs.Prelude.{◌≡◌, ◌<◌, ◌≤◌, ◌^◌, ℕ, List, Ok, slice_index}
use Rattle.lwc_text.specs.Requests.{IsRequestFile, requests_at}
use Rattle.guest_image.specs.declared.image.Vault.{Vault}
use Rattle.lwc_types.specs.declared.limits.TheConstants.{MOST_PAGES}
use Rattle.lwc_text.specs.VaultFiles.{IsVaultFile, vault_at}
use Rattle.lwc_text.specs.Schedules.{IsSchedule, schedule_at}

-- what is read of a schedule is its steps, and a schedule is read
pub record ScheduleFacts : Type 0 where
  pub found : (threads most : ℕ) (bytes steps : List ℕ) → schedule_at threads most bytes ≡ Ok steps
      → IsSchedule threads most bytes steps
  pub reads : (threads most : ℕ) (bytes steps : List ℕ) → IsSchedule threads most bytes steps
      → schedule_at threads most bytes ≡ Ok steps

-- what is read of a request file is its requests, and a request file is read
pub record RequestFacts : Type 0 where
  pub found : (bytes : List ℕ) (requests : List (List ℕ)) → requests_at bytes ≡ Ok requests
      → IsRequestFile bytes requests
  pub reads : (bytes : List ℕ) (requests : List (List ℕ)) → IsRequestFile bytes requests
      → requests_at bytes ≡ Ok requests

-- what is read of a vault file is its vault, and a vault file is read
pub record VaultFileFacts : Type 0 where
  pub found : (instructions pages : ℕ) (bytes : List ℕ) (v : Vault) → ((i : ℕ) → slice_index bytes i < 256)
      → vault_at instructions pages bytes ≡ Ok v → IsVaultFile instructions pages bytes v
  pub reads : (instructions pages : ℕ) (bytes : List ℕ) (v : Vault) → instructions ≤ 2 ^ 32
      → pages ≤ MOST_PAGES → IsVaultFile instructions pages bytes v → vault_at instructions pages bytes ≡ Ok v
