-- Worlds and channels under other numbers: each request is this many numbers further on, and each job but 0.
use Rattle.std.specs.Prelude.{ℕ, zero, suc, ◌+◌, ◌-◌, ◌==◌, ◌++◌, if◌then◌else◌, [], map, nat_lt, replicate}
use Rattle.std.specs.Option.{option_map}
use Rattle.std.specs.FinMap as fm
use Rattle.lwc_base.specs.Channels.{Channels}
use Rattle.lwc_base.specs.Keys.{ValueOf}
use Rattle.lwc_base.specs.World.{World, Context, Group, nothing_counted}
use Rattle.lwc_base.specs.declared.cell.Cell.{Cell}
use Rattle.lwc_base.specs.declared.cell.Cell.TheVariants.{Own, Common}
use Rattle.lwc_base.specs.declared.descriptor.Descriptor.{Descriptor}
use Rattle.lwc_base.specs.declared.descriptor.Descriptor.TheVariants.{Empty, Console, File, Request, Reply, Ctx}
use Rattle.lwc_types.specs.Names.{name_cmp}
use Rattle.lwc_types.specs.declared.counters.Counters.{Counters}
use Rattle.lwc_types.specs.declared.key.Key.{Key}
use Rattle.lwc_types.specs.declared.key.Key.TheVariants.{Page, Slot, Cred}
use Rattle.lwc_types.specs.declared.name.Name.{Name}
use Rattle.lwc_types.specs.declared.name.Tag.{Tag}
use Rattle.lwc_types.specs.declared.page.PageValue.{PageValue}
use Rattle.lwc_types.specs.declared.page.PageValue.TheVariants.{Zero, Data}

module _ (r : ℕ) where
  -- the number of a job: job 0 stays, and each other one is this many numbers further on
  abbrev pub shifted_job : ℕ → ℕ
  shifted_job zero = 0
  shifted_job (suc j) = suc j + r

  -- the name of a context or a group: that of the other job, under the same count
  abbrev pub shifted_name : Name → Name
  shifted_name n = record { job = shifted_job n.job; k = n.k }

  -- a tag: that of the other job, under the same count
  abbrev pub shifted_tag : Tag → Tag
  shifted_tag t = record { job = shifted_job t.job; k = t.k }

  -- a page's value: the same bytes, under the other tag
  abbrev pub shifted_page : PageValue → PageValue
  shifted_page Zero = Zero
  shifted_page (Data tag bytes) = Data (shifted_tag tag) bytes

  -- a descriptor: of the other context, of the request or the reply this many numbers further on, or the same
  abbrev pub shifted_descriptor : Descriptor → Descriptor
  shifted_descriptor Empty = Empty
  shifted_descriptor Console = Console
  shifted_descriptor (File file at) = File file at
  shifted_descriptor (Request q at) = Request (q + r) at
  shifted_descriptor (Reply q) = Reply (q + r)
  shifted_descriptor (Ctx name cap) = Ctx (shifted_name name) cap

  -- what is under a key
  abbrev pub shifted_value : (k : Key) → ValueOf k → ValueOf k
  shifted_value (Page p) value = option_map shifted_page value
  shifted_value (Slot n) value = shifted_descriptor value
  shifted_value Cred value = value

  -- a cell: its own value, or the other group
  abbrev pub shifted_cell : (k : Key) → Cell (ValueOf k) → Cell (ValueOf k)
  shifted_cell k (Own value) = Own (shifted_value k value)
  shifted_cell k (Common g) = Common (shifted_name g)

  -- a context: other cells, and the same rights and registers
  abbrev pub shifted_context : Context → Context
  shifted_context x = record x { cell = λ k. shifted_cell k (x.cell k) }

  -- a group
  abbrev pub shifted_group : Group → Group
  shifted_group x = record { value = λ k. shifted_value k (x.value k) }

  -- one entry of a table by name
  abbrev pub shifted_entry : {X : Type 0} → (X → X) → Name × X → Name × X
  shifted_entry f e = (shifted_name e.0, f e.1)

  -- a table by name: its entries in the same order, under the other names
  abbrev pub shifted_table : {X : Type 0} → (X → X) → fm.FinMap name_cmp X → fm.FinMap name_cmp X
  shifted_table f m = fm.from_sorted (map (shifted_entry f) (fm.entries m))

  -- what each job has counted; the jobs in between have counted nothing
  abbrev pub shifted_counters : (ℕ → Counters) → ℕ → Counters
  shifted_counters next j =
      if j == 0 then next 0 else (if nat_lt r j then next (j - r) else nothing_counted)

  -- a world
  unfoldable pub shifted_world : World → World
  shifted_world w = record {
    contexts = shifted_table shifted_context w.contexts;
    groups = shifted_table shifted_group w.groups;
    next = shifted_counters w.next;
    size = w.size;
  }

  -- channels: behind this many empty requests, whose replies are empty
  unfoldable pub shifted_channels : Channels → Channels
  shifted_channels io = record {
    files = io.files;
    requests = replicate r [] ++ io.requests;
    console = io.console;
    replies = replicate r [] ++ io.replies;
  }
