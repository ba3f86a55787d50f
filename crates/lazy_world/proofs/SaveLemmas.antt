-- KeptRegisters that a context keeps for a thread.
use Rattle.std.proofs.Common.{◌≡◌, ℕ, ◌<◌, arith, length, sym, ap, subst, ◌∙◌, Some, None, set}
use Rattle.std.specs.FinMap as fm
use Rattle.lwc_base.specs.Fresh.{IsFresh}
use Rattle.lwc_base.specs.Saved.{save, with_saved}
use Rattle.lwc_types.specs.declared.name.Name.{Name}
use Rattle.lwc_types.specs.declared.regs.Regs.{Regs}
use Rattle.lwc_types.specs.declared.right.Right.{Right}
use Rattle.ctx_table.specs.NameTables.{ArePlaced}
use Rattle.lazy_world.specs.Registers.{KeptRegisters}
use Rattle.lazy_world.specs.Cells.{Row}
use Rattle.lazy_world.specs.Sound.{IsSound}
use Rattle.lazy_world.specs.States.{Parts, context_of, registers_at, world_of}
use Rattle.lazy_world.proofs.PlaceLemmas.{set_at}
use Rattle.lazy_world.proofs.SoundLemmas.{sound-registers}
use Rattle.lazy_world.proofs.WorldLemmas.{change_context-registers}
use Rattle.lwc_base.proofs.Facts.{stays_fresh}

abbrev pub kept : KeptRegisters → ℕ → Regs → KeptRegisters
kept old t regs = record { entry = old.entry; saved = set old.saved t (Some regs) }

saved-context : (row : Row) (right : ℕ → Right) (old : KeptRegisters) (t : ℕ) (regs : Regs) → t < length old.saved →
    context_of row right (kept old t regs) ≡ with_saved t regs (context_of row right old)
saved-context row right old t regs inside = λ e. record { cell = row; right = right; entry = old.entry; saved = λ n. set_at old.saved t n (Some regs) None inside e }

module _ (s : Parts) (sound : IsSound s) (placed : ArePlaced s.contexts) (c : Name) (i : ℕ) (found : fm.get s.contexts.map c ≡ Some i)
    (old : KeptRegisters) (is : old ≡ registers_at s.registers i) (t : ℕ) (regs : Regs) (inside : t < length old.saved) where
  low : i < length s.registers
  low = let below = placed.within c i found in omega (arith, below, sound.sizes.contexts, sound.sizes.registers)

  pub saved-world : world_of (record s { registers = set s.registers i (kept old t regs) }) ≡ save (world_of s) c t regs
  unfolding save
  saved-world =
      change_context-registers s placed c i found (kept old t regs) (with_saved t regs) low
      (saved-context (s.rows i) (s.rights i) old t regs inside ∙ ap (λ (r : KeptRegisters). with_saved t regs (context_of (s.rows i) (s.rights i) r)) is)

  pub sound-saved : IsSound (record s { registers = set s.registers i (kept old t regs) })
  sound-saved = sound-registers s sound i (kept old t regs) (subst IsFresh (sym saved-world) (stays_fresh.saved (world_of s) c t regs sound.fresh))
