-- The registers that contexts keep for threads.
use Rattle.std.specs.Prelude.{ℕ, ◌==◌, if◌then◌else◌, Some, unwrap_or}
use Rattle.lwc_base.specs.World.{World, Context, change_context}
use Rattle.lwc_types.specs.declared.name.Name.{Name}
use Rattle.lwc_types.specs.declared.regs.Regs.{Regs}

-- a context that keeps these registers for a thread, in place of those that it kept for it
abbrev pub with_saved : ℕ → Regs → Context → Context
with_saved t regs x = record x { saved = λ s. if s == t then Some regs else x.saved s }

-- a context keeps these registers for a thread
unfoldable pub save : World → Name → ℕ → Regs → World
save w c t regs = change_context w c (with_saved t regs)

-- the registers that a thread enters a context with: those that the context keeps for it, else those it
-- begins with
abbrev pub entered : Context → ℕ → Regs
entered x t = unwrap_or (x.saved t) x.entry
