use Rattle.std.proofs.Common.{rules}
use Rattle.lwc_base.proofs.Facts.{changes}
use Rattle.lwc_base.specs.Store.{store}
use Rattle.lwc_syscall.specs.Plain.{store_at}
use Rattle.lwc_syscall.proofs.bytes.store_at.Goals as goal

pub returns-clause-live : goal.returns-clause-live
unfolding store_at store
returns-clause-live g c = search (rules, changes)
