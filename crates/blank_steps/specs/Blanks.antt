-- Machines in which a context is blank, and threads to which that makes no difference.
use Rattle.std.specs.Prelude.{◌≡◌, ℕ, true, Some, slice_get}
use Rattle.kernel_core.specs.Machine.{Machine}
use Rattle.kernel_core.specs.Step.{with_world}
use Rattle.kernel_core.specs.declared.thread.Thread.{Thread}
use Rattle.lwc_types.specs.declared.fault.ThreadStatus.TheVariants.{Running}
use Rattle.lwc_types.specs.declared.name.Name.{Name}
use Rattle.world_views.specs.Blank.{blank}
use Rattle.world_views.specs.Outside.{IsOutside}

-- the machine with zero bytes in each page of a context's own, the tags kept
abbrev pub blank_in : Name → Machine → Machine
blank_in v m = record m { environment = with_world m.environment (blank true v m.environment.world) }

-- the thread of a number, if it runs, is outside a context: it is in another one, its job's next context is another
-- one, and none of its descriptors opens that; contexts have from 1 to the most pages
abbrev pub ActsOutside : Name → Machine → ℕ → Type 0
ActsOutside v m t =
    (x : Thread) → slice_get m.threads t ≡ Some x → x.status ≡ Running →
    IsOutside v x.context x.job m.environment.world
