-- What may be at each holder of a world: the groups that cells name, and the values of cells and groups.
use Rattle.std.specs.Prelude.{◌≡◌, ℕ, true}
use Rattle.std.specs.FinMap as fm
use Rattle.lwc_base.specs.declared.cell.Cell.{Cell}
use Rattle.lwc_base.specs.declared.cell.Cell.TheVariants.{Own, Common}
use Rattle.lwc_base.specs.Keys.{ValueOf}
use Rattle.lwc_base.specs.World.{World, Context, Group, context, group, is_live}
use Rattle.lwc_types.specs.declared.key.Key.{Key}
use Rattle.lwc_types.specs.declared.name.Name.{Name}

-- a group has the name
abbrev pub IsGroup : World → Name → Type 0
IsGroup w g = fm.contains_key w.groups g ≡ true

-- the groups that a cell under a key may name, and the values under a key, by the job of the holder's name
pub record Rules : Type 1 where
  pub group : ℕ → (k : Key) → Name → Type 0
  pub value : ℕ → (k : Key) → ValueOf k → Type 0

-- rules that are the same for every job
abbrev pub everywhere : ((k : Key) → Name → Type 0) → ((k : Key) → ValueOf k → Type 0) → Rules
everywhere group value = record { group = λ job. group; value = λ job. value }

-- a cell under a key of a job's context keeps the rules
abbrev pub InCell : Rules → ℕ → (k : Key) → Cell (ValueOf k) → Type 0
InCell rules job k (Own value) = rules.value job k value
InCell rules job k (Common g) = rules.group job k g

-- each cell of a job's context keeps the rules
abbrev pub InContext : Rules → ℕ → Context → Type 0
InContext rules job x = (k : Key) → InCell rules job k (x.cell k)

-- each value of a job's group keeps the rules
abbrev pub InGroup : Rules → ℕ → Group → Type 0
InGroup rules job x = (k : Key) → rules.value job k (x.value k)

-- each live context and each live group keeps the rules
pub record Keeps (rules : Rules) (w : World) : Type 0 where
  pub contexts : (c : Name) → is_live w c ≡ true → InContext rules c.job (context w c)
  pub groups : (g : Name) → IsGroup w g → InGroup rules g.job (group w g)
