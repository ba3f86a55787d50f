-- Machines in which the vault is blank, threads to which that makes no difference, and worlds in which it is shut.
use Rattle.std.specs.Prelude.{◌≡◌, ◌<◌, ℕ}
use Rattle.blank_steps.specs.Blanks as each
use Rattle.kernel_core.specs.Machine.{Machine}
use Rattle.kernel_core.specs.Start.{vault_name}
use Rattle.lwc_base.specs.Cells.{slot_at}
use Rattle.lwc_base.specs.World.{World}
use Rattle.lwc_base.specs.declared.descriptor.Cap.{Cap}
use Rattle.lwc_base.specs.declared.descriptor.Descriptor.TheVariants.{Ctx}
use Rattle.lwc_types.specs.declared.key.TheConstants.{SLOTS}
use Rattle.lwc_types.specs.declared.name.Name.{Name}
use Rattle.world_views.specs.Outside.{LacksKeys}

-- the machine with zero bytes in each page of the vault, the tags kept
abbrev pub blank_machine : Machine → Machine
blank_machine m = each.blank_in vault_name m

-- the thread of a number, if it runs, is outside the vault: it is in another context, its job's next context is
-- another one, and none of its descriptors opens the vault; contexts have from 1 to the most pages
abbrev pub ActsOutside : Machine → ℕ → Type 0
ActsOutside m t = each.ActsOutside vault_name m t

-- no descriptor opens the vault: in no slot of any context has one of the vault a key
abbrev pub IsShutWorld : World → Type 0
IsShutWorld w =
    (e : Name) (n : ℕ) (cap : Cap) → n < SLOTS → slot_at w e n ≡ Ctx vault_name cap → LacksKeys cap
