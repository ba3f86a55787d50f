-- Worlds in which each name is below what its job has counted, so that the next names of a job are new.
use Rattle.std.specs.Prelude.{◌≡◌, ℕ, ◌<◌, ◌≤◌, true}
use Rattle.lwc_base.specs.Holders.{Rules, everywhere, InContext, IsGroup, Keeps}
use Rattle.lwc_base.specs.World.{World, Context, is_live}
use Rattle.lwc_types.specs.declared.counters.Counters.{Counters}
use Rattle.lwc_types.specs.declared.name.Name.{Name}

-- a job has named a context
abbrev pub IsNamedContext : (ℕ → Counters) → Name → Type 0
IsNamedContext next c = c.k < (next c.job).contexts

-- a job has named a group
abbrev pub IsNamedGroup : (ℕ → Counters) → Name → Type 0
IsNamedGroup next g = g.k < (next g.job).groups

-- a cell may name each group that has been named
abbrev pub named_groups : (ℕ → Counters) → Rules
named_groups next = everywhere (λ k g. IsNamedGroup next g) (λ k value. Unit {0})

-- each group that a context's cells name has been named
abbrev pub NamesOldGroups : (ℕ → Counters) → Context → Type 0
NamesOldGroups next x = (job : ℕ) → InContext (named_groups next) job x

-- each live context, each live group and each group that a cell names has been named
pub record IsFresh (w : World) : Type 0 where
  pub contexts : (c : Name) → is_live w c ≡ true → IsNamedContext w.next c
  pub groups : (g : Name) → IsGroup w g → IsNamedGroup w.next g
  pub cells : Keeps (named_groups w.next) w

-- a job has counted no fewer contexts, groups and tags than before
pub record Rises (before after : Counters) : Type 0 where
  pub contexts : before.contexts ≤ after.contexts
  pub groups : before.groups ≤ after.groups
  pub tags : before.tags ≤ after.tags
