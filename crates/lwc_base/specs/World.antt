-- The world: contexts and groups by name, what each job has counted, and the size.
use Rattle.std.specs.Prelude.{ℕ, ◌+◌, ◌==◌, if◌then◌else◌, Bool, Option, None, Some, count_by, unwrap_or}
use Rattle.std.specs.FinMap as fm
use Rattle.lwc_base.specs.declared.cell.Cell.{Cell}
use Rattle.lwc_base.specs.declared.cell.Cell.TheVariants.{Own}
use Rattle.lwc_base.specs.declared.descriptor.Descriptor.TheVariants.{Empty}
use Rattle.lwc_base.specs.Keys.{ValueOf, nothing}
use Rattle.lwc_types.specs.declared.counters.Counters.{Counters}
use Rattle.lwc_types.specs.declared.key.Key.{Key}
use Rattle.lwc_types.specs.declared.key.Key.TheVariants.{Page, Slot, Cred}
use Rattle.lwc_types.specs.declared.name.Name.{Name}
use Rattle.lwc_types.specs.declared.regs.Regs.{Regs}
use Rattle.lwc_types.specs.declared.right.Right.{Right}
use Rattle.lwc_types.specs.declared.right.Right.TheVariants.{Write}
use Rattle.lwc_types.specs.declared.size.WorldSize.{WorldSize}
use Rattle.lwc_types.specs.Names.{name_cmp}
use Rattle.lwc_types.specs.Registers.{fresh_registers}

-- a context: the cell under each key, the right of each page, the registers it begins with, and those that it
-- keeps for some threads; an absent page has the right Write
pub record Context : Type 0 where
  pub cell : (k : Key) → Cell (ValueOf k)
  pub right : ℕ → Right
  pub entry : Regs
  pub saved : ℕ → Option Regs

-- a group: the values that contexts have in common, and nothing under the other keys
pub record Group : Type 0 where
  pub value : (k : Key) → ValueOf k

-- the world: contexts and groups, what each job has counted, and the size
pub record World : Type 0 where
  pub contexts : fm.FinMap name_cmp Context
  pub groups : fm.FinMap name_cmp Group
  pub next : ℕ → Counters
  pub size : WorldSize

-- what is under each key of a context as it is made: nothing but the uid
abbrev pub new_value : ℕ → (k : Key) → ValueOf k
new_value uid (Page p) = None
new_value uid (Slot n) = Empty
new_value uid Cred = uid

-- a context as it is made: each cell is its own, with no page, empty slots, and the uid
abbrev pub new_context : ℕ → Regs → Context
new_context uid entry =
    record { cell = λ k. Own (new_value uid k); right = λ p. Write; entry = entry; saved = λ t. None }

-- a group with nothing in it
abbrev pub new_group : Group
new_group = record { value = nothing }

-- whether a context has the name
abbrev pub is_live : World → Name → Bool
is_live w c = fm.contains_key w.contexts c

-- the context of a name, and one with nothing in it where no context has that name
unfoldable pub context : World → Name → Context
context w c = unwrap_or (fm.get w.contexts c) (new_context 0 (fresh_registers 0))

-- the group of a name, and one with nothing in it where no group has that name
unfoldable pub group : World → Name → Group
group w g = unwrap_or (fm.get w.groups g) new_group

-- the world with a change of the context that was found, if one was
abbrev pub changed_context : World → Name → (Context → Context) → Option Context → World
changed_context w c change None = w
changed_context w c change (Some x) = record w { contexts = fm.insert w.contexts c (change x) }

-- one context is changed; nothing is, where no context has the name
unfoldable pub change_context : World → Name → (Context → Context) → World
change_context w c change = changed_context w c change (fm.get w.contexts c)

-- the world with a change of the group that was found, if one was
abbrev pub changed_group : World → Name → (Group → Group) → Option Group → World
changed_group w g change None = w
changed_group w g change (Some x) = record w { groups = fm.insert w.groups g (change x) }

-- one group is changed; nothing is, where no group has the name
unfoldable pub change_group : World → Name → (Group → Group) → World
change_group w g change = changed_group w g change (fm.get w.groups g)

-- what a job has counted is changed
unfoldable pub change_counters : World → ℕ → (Counters → Counters) → World
change_counters w job change = record w { next = λ j. if j == job then change (w.next j) else w.next j }

-- what a job has counted before it has named anything
abbrev pub nothing_counted : Counters
nothing_counted = record { contexts = 0; groups = 0; tags = 0 }

-- a world of a size, without contexts and groups, in which nothing has been counted
unfoldable pub empty_world : WorldSize → World
empty_world size = record {
  contexts = fm.empty;
  groups = fm.empty;
  next = λ j. nothing_counted;
  size = size;
}

-- the next name of a job's contexts
abbrev pub next_context : World → ℕ → Name
next_context w job = record { job = job; k = (w.next job).contexts }

-- the job makes its next context, which is this one
unfoldable pub add_context : World → ℕ → Context → World
add_context w job x =
    change_counters (record w { contexts = fm.insert w.contexts (next_context w job) x }) job
    (λ n. record n { contexts = n.contexts + 1 })

-- the next name of a job's groups
abbrev pub next_group : World → ℕ → Name
next_group w job = record { job = job; k = (w.next job).groups }

-- the job makes its next group, which is this one
unfoldable pub add_group : World → ℕ → Group → World
add_group w job x =
    change_counters (record w { groups = fm.insert w.groups (next_group w job) x }) job
    (λ n. record n { groups = n.groups + 1 })

-- the number of live contexts of a job
unfoldable pub live_of : World → ℕ → ℕ
live_of w job = count_by (λ c. c.job == job) (fm.keys w.contexts)

-- the number of live groups of a job
unfoldable pub groups_of : World → ℕ → ℕ
groups_of w job = count_by (λ g. g.job == job) (fm.keys w.groups)
