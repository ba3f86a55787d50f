use Rattle.lwc_text.proofs.VaultFacts.{is_vault_file, vault_file_is_read}
use Rattle.lwc_text.proofs.laws.vault_files_are_read_as_spelled.Goals as goal

pub returns : goal.returns
returns c = record { found = is_vault_file; reads = vault_file_is_read }
