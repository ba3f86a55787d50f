-- A pool of counted slots as the list of them.
use Rattle.std.specs.Prelude.{◌≡◌, ℕ, ◌==◌, ◌≤◌, List, count_by, length, slice_index, slice_index_or, slice_set}
use Rattle.pool_base.specs.HoldCounts.{Places}
use Rattle.pool_base.specs.Padded.{padded}
use Rattle.pool_base.specs.Paired.{paired}
use Rattle.fd_table.specs.Slots.{Slot, empty_slot}

-- an object: how often it is held, and the slot that it stands for
pub record Held : Type 0 where
  pub count : ℕ
  pub slot : Slot

-- what is read past the end of a pool
abbrev pub no_held : Held
no_held = record { count = 0; slot = empty_slot }

-- the object at a place
abbrev pub held_at : List Held → ℕ → Held
held_at pool o = slice_index_or pool o no_held

-- how often an object is held
abbrev pub count_of : List Held → ℕ → ℕ
count_of pool o = (held_at pool o).count

-- the slot that an object stands for
abbrev pub slot_at : List Held → ℕ → Slot
slot_at pool o = (held_at pool o).slot

-- the objects, where one is held this often
abbrev pub recount : List Held → ℕ → ℕ → List Held
recount pool o c = slice_set pool o (record (held_at pool o) { count = c })

-- how many objects are free
abbrev pub free_of : List Held → ℕ
free_of pool = count_by (λ held. held.count == 0) pool

-- an object, of its count and the slot that it stands for
abbrev pub seen_held : ℕ → Slot → Held
seen_held count slot = record { count = count; slot = slot }

-- the objects, of their counts and of the slots of those that were taken
abbrev pub seen_pool : Places → List Slot → List Held
seen_pool places slots = paired seen_held places.counts (padded (length places.counts) empty_slot slots)

-- each object that was taken has a filling, and no other object is held
pub record IsWhole (places : Places) (slots : List Slot) : Type 0 where
  pub filled : length slots ≡ places.taken
  pub within : places.taken ≤ length places.counts
  pub fresh : (o : ℕ) → places.taken ≤ o → slice_index places.counts o ≡ 0
