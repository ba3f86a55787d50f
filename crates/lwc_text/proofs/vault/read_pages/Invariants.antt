use Rattle.std.proofs.Common.{length}
use Rattle.lwc_text.proofs.VaultFiles.{IsSoFar}
use Rattle.lwc_text.proofs.vault.read_pages.Given as goal

abbrev pub invariant-pages : goal.invariant-pages
invariant-pages l = IsSoFar l.pages l.bytes l.read.items l.last l.rest

abbrev pub decreases-pages : goal.decreases-pages
decreases-pages l = length l.rest
