-- What calls keep of names: those of a job's contexts and groups are of that job.
use Rattle.std.proofs.Common.{ℕ, true, false, Bool, sym, subst}
use Rattle.lwc_base.specs.Channels.{Channels}
use Rattle.lwc_base.specs.Jobs.{NamesKeepToJobs}
use Rattle.lwc_base.specs.Mapping.{mapped_or_not}
use Rattle.lwc_base.specs.World.{World}
use Rattle.lwc_types.specs.declared.name.Name.{Name}
use Rattle.lwc_syscall.specs.Changes.{IsPlainChange, Mapped, Nothing, Read, SlotPut, UidPut, Written}
use Rattle.lwc_syscall.specs.declared.calls.CallContexts.{CallContexts}
use Rattle.lwc_syscall.proofs.Kept.{store-done}
use Rattle.lwc_base.proofs.Jobs.{jobs-after_store, jobs-map_pages, jobs-put_slot, jobs-put_uid, jobs-unmap_pages}

jobs-mapped : (w : World) (c : Name) (from to : ℕ) (present : Bool) → NamesKeepToJobs w → NamesKeepToJobs (mapped_or_not w c from to present)
jobs-mapped w c from to true keeps = jobs-map_pages w c from to keeps
jobs-mapped w c from to false keeps = jobs-unmap_pages w c from to keeps

pub jobs-change : (w : World) (io : Channels) (targets : CallContexts) (job : ℕ) (v : World) (after : Channels) → IsPlainChange w io targets job v after → NamesKeepToJobs w → NamesKeepToJobs v
jobs-change w io targets job v after Nothing keeps = keeps
jobs-change w io targets job v after (SlotPut n value within known) keeps = jobs-put_slot w targets.slots n value (known.own keeps) keeps
jobs-change w io targets job v after (UidPut uid) keeps = jobs-put_uid w targets.cred uid keeps
jobs-change w io targets job v after (Mapped from to present few) keeps = jobs-mapped w targets.memory from to present keeps
jobs-change w io targets job v after (Read u piece n value short is within known) keeps =
    jobs-put_slot u targets.slots n value (known.own keeps) (subst NamesKeepToJobs (sym (store-done w u targets.memory job piece is)) (jobs-after_store w targets.memory job piece keeps))
jobs-change w io targets job v after (Written value bytes) keeps = keeps
