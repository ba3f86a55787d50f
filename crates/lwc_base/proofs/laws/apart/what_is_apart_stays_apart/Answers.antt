use Rattle.lwc_base.proofs.Clones.{clone-keeps_apart}
use Rattle.lwc_base.proofs.Common.{apart-put_at, apart-after_store, apart-map_pages, apart-unmap_pages}
use Rattle.lwc_base.proofs.Overlays.{overlay-keeps_apart}
use Rattle.lwc_base.proofs.Reaped.{reap-apart}
use Rattle.lwc_base.proofs.Saving.{save-apart}
use Rattle.lwc_base.proofs.laws.apart.what_is_apart_stays_apart.Goals as goal

pub returns-clause-put : goal.returns-clause-put
returns-clause-put c = apart-put_at

pub returns-clause-store : goal.returns-clause-store
returns-clause-store c = apart-after_store

pub returns-clause-map : goal.returns-clause-map
returns-clause-map c = apart-map_pages

pub returns-clause-unmap : goal.returns-clause-unmap
returns-clause-unmap c = apart-unmap_pages

pub returns-clause-clone : goal.returns-clause-clone
returns-clause-clone c = clone-keeps_apart

pub returns-clause-save : goal.returns-clause-save
returns-clause-save c = save-apart

pub returns-clause-reap : goal.returns-clause-reap
returns-clause-reap c = reap-apart

pub returns-clause-overlay : goal.returns-clause-overlay
returns-clause-overlay c = overlay-keeps_apart
