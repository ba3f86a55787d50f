-- How many objects that are held name a place.
use Rattle.std.specs.Prelude.{◌≡◌, ◌≢◌, ℕ, ◌+◌, ◌-◌, ◌<◌, ◌==◌, ◌&&◌, if◌then◌else◌, Bool, false, List, Option, None}
use Rattle.std.specs.Prelude.{Some, count_by, length, nat_lt, slice_index, slice_set}
use Rattle.fd_table.specs.Pools.{Held, count_of, held_at, slot_at}
use Rattle.fd_table.specs.Slots.{Slot}
use Rattle.fd_table.specs.Tables.{times}

-- whether this target is the place
abbrev pub is_target : ℕ → Option ℕ → Bool
is_target place None = false
is_target place (Some t) = t == place

-- whether an object is held and names the place
abbrev pub is_naming : ℕ → Held → Bool
is_naming place held = nat_lt 0 held.count && is_target place held.slot.target

-- for each place the number of held objects that name it, and held objects name these places alone
pub record IsCounted (pool : List Held) (named : List ℕ) : Type 0 where
  pub counts : (place : ℕ) → place < length named → slice_index named place ≡ count_by (is_naming place) pool
  pub inside : (o place : ℕ) → 0 < count_of pool o → (slot_at pool o).target ≡ Some place → place < length named

-- numbers of which one is greater by 1, if one is meant
abbrev pub counted_more : List ℕ → Option ℕ → List ℕ
counted_more named None = named
counted_more named (Some place) = slice_set named place (slice_index named place + 1)

-- numbers of which one is less by 1, if one is meant
abbrev pub counted_less : List ℕ → Option ℕ → List ℕ
counted_less named None = named
counted_less named (Some place) = slice_set named place (slice_index named place - 1)

-- the place that an object names, where it is held once
abbrev pub last_target : Held → Option ℕ
last_target held = if held.count == 1 then held.slot.target else None

-- a free object is held once now and stands for a slot, and all others are as they were
pub record Takes (old new : List Held) (o : ℕ) (slot : Slot) : Type 0 where
  pub size : length new ≡ length old
  pub inside : o < length old
  pub was_free : count_of old o ≡ 0
  pub here : held_at new o ≡ record { count = 1; slot = slot }
  pub others : (p : ℕ) → p ≢ o → held_at new p ≡ held_at old p

-- each object that entries name is held once more
pub record HoldsMore (old new : List Held) (entries : List ℕ) : Type 0 where
  pub size : length new ≡ length old
  pub counts : (o : ℕ) → count_of new o ≡ count_of old o + times o entries
  pub same : (o : ℕ) → slot_at new o ≡ slot_at old o

-- each object that entries name is held once less
pub record HoldsLess (old new : List Held) (entries : List ℕ) : Type 0 where
  pub size : length new ≡ length old
  pub counts : (o : ℕ) → count_of new o + times o entries ≡ count_of old o
  pub same : (o : ℕ) → slot_at new o ≡ slot_at old o
