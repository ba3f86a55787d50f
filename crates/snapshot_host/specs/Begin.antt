-- The context that a request is served in.
use Rattle.std.specs.Prelude.{◌≡◌, ℕ, ◌+◌, ◌==◌, if◌then◌else◌, None}
use Rattle.lwc_base.specs.declared.cell.Cell.TheVariants.{Own}
use Rattle.lwc_base.specs.declared.descriptor.Descriptor.TheVariants.{Reply, Request}
use Rattle.lwc_base.specs.Cells.{page_at, slot_at, uid_at}
use Rattle.lwc_base.specs.Keys.{ValueOf}
use Rattle.lwc_base.specs.World.{World, Context, add_context, context}
use Rattle.lwc_types.specs.declared.key.Key.{Key}
use Rattle.lwc_types.specs.declared.key.Key.TheVariants.{Page, Slot, Cred}
use Rattle.lwc_types.specs.declared.name.Name.{Name}

-- the name of the context that a request is served in
abbrev pub request_context : ℕ → Name
request_context r = record { job = r + 1; k = 0 }

-- what is under its keys: the request in slot 0, its reply in slot 1, and else what the home has
abbrev pub begun_value : World → Name → ℕ → (k : Key) → ValueOf k
begun_value w home r (Page p) = page_at w home p
begun_value w home r (Slot n) =
    if n == 0 then Request r 0 else (if n == 1 then Reply r else slot_at w home n)
begun_value w home r Cred = uid_at w home

-- that context: each cell is its own, pages have the home's rights, it begins as the home does, and it has no saved
-- registers
unfoldable pub begun_context : World → Name → ℕ → Context
begun_context w home r = record {
  cell = λ k. Own (begun_value w home r k);
  right = (context w home).right;
  entry = (context w home).entry;
  saved = λ t. None;
}

-- the request's job, the one after the request's number, makes its first context
unfoldable pub begin : World → Name → ℕ → World
begin w home r = add_context w (r + 1) (begun_context w home r)

-- a job has counted nothing
abbrev pub IsNewJob : World → ℕ → Type 0
IsNewJob w job = w.next job ≡ record { contexts = 0; groups = 0; tags = 0 }
