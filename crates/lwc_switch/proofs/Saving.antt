-- What stays while registers are saved.
use Rattle.std.proofs.Common.{◌≡◌, ◌∙◌, ℕ, true}
use Rattle.lwc_base.specs.Saved.{save}
use Rattle.lwc_base.specs.World.{World, is_live}
use Rattle.lwc_base.proofs.Saving.{saves}
use Rattle.lwc_types.specs.declared.name.Name.{Name}
use Rattle.lwc_types.specs.declared.regs.Regs.{Regs}

-- a context lives on
pub live_after_save : (w : World) (c d : Name) (t : ℕ) (regs : Regs) → is_live w d ≡ true → is_live (save w c t regs) d ≡ true
live_after_save w c d t regs live = (saves w c t regs).names.live d ∙ live
