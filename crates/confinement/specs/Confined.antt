-- One step of a thread is confined to what it may change.
use Rattle.std.specs.Prelude.{◌≡◌, ◌⊎◌, ◌<◌, ℕ, false, true, Option, Some, slice_get}
use Rattle.access_cap.specs.Kinds.{is_chosen}
use Rattle.kernel_core.specs.Machine.{Machine, home_of}
use Rattle.kernel_core.specs.declared.calling.TheConstants.{LW_CREATE, LW_OVERLAY, LW_RESTRICT, LW_SWITCH, LW_SYSCALL}
use Rattle.kernel_core.specs.declared.thread.Thread.{Thread}
use Rattle.lwc_base.specs.declared.cell.Cell.TheVariants.{Common, Own}
use Rattle.lwc_base.specs.declared.descriptor.Cap.{Cap}
use Rattle.lwc_base.specs.declared.descriptor.Descriptor.TheVariants.{Ctx, Empty}
use Rattle.lwc_base.specs.Capabilities.{empty_cap, full_cap, has_key}
use Rattle.lwc_base.specs.Cells.{slot_at, value_at}
use Rattle.lwc_base.specs.Modes.{IsKey}
use Rattle.lwc_base.specs.Rights.{right_at}
use Rattle.lwc_base.specs.Slots.{lowest_empty}
use Rattle.lwc_base.specs.World.{World, context, is_live, next_context}
use Rattle.lwc_types.specs.declared.key.TheConstants.{SLOTS}
use Rattle.lwc_types.specs.declared.fault.ThreadStatus.TheVariants.{Idle}
use Rattle.lwc_types.specs.declared.key.Key.{Key}
use Rattle.lwc_types.specs.declared.key.Key.TheVariants.{Page, Slot}
use Rattle.lwc_types.specs.declared.key.Kind.TheVariants as kinds
use Rattle.lwc_types.specs.declared.limits.TheConstants.{MOST_PAGES}
use Rattle.lwc_types.specs.declared.name.Name.{Name}
use Rattle.lwc_types.specs.declared.page.PageValue.{PageValue}
use Rattle.lwc_types.specs.declared.right.Right.TheVariants.{Read}
use Rattle.confinement.specs.One.{IsOneValue}
use Rattle.lwc_syscall.specs.Syscall.{mask_in}
use Rattle.confinement.specs.May.{IsGiven, MakesCall, MayBeSeen, MayChange, MayReplace, MayShare, regs_at, world_of}

-- a context is live in both worlds
abbrev pub IsLiveInBoth : World → World → Name → Type 0
IsLiveInBoth w v e = (is_live w e ≡ true) × (is_live v e ≡ true)

-- each key of the one capability is one of the other
abbrev pub IsPart : Cap → Cap → Type 0
IsPart part whole = (k : Key) → IsKey MOST_PAGES k → has_key part k ≡ true → has_key whole k ≡ true

-- a slot that the next step of a thread may copy a descriptor out of: one of its own context; of the context
-- that an accepted overlay takes from, one that the capability has; of the context that an accepted call over
-- chosen contexts names, one that the capability has, where the call chooses slots; and one of its home,
-- where it waits for a request
pub data MayCopy (m : Machine) (t : ℕ) : Name → ℕ → Type 0 where
  OutOfItsOwn : (x : Thread) (n : ℕ) → slice_get m.threads t ≡ Some x → MayCopy m t x.context n
  OutOfTheGiver : (x : Thread) (d : Name) (cap : Cap) (n : ℕ) → MakesCall m t x LW_OVERLAY → IsGiven m x d cap →
      has_key cap (Slot n) ≡ true → MayCopy m t d n
  OutOfTheChosen : (x : Thread) (d : Name) (cap : Cap) (n : ℕ) → MakesCall m t x LW_SYSCALL → IsGiven m x d cap →
      has_key cap (Slot n) ≡ true → is_chosen (mask_in (regs_at m x)) kinds.Slot ≡ true → MayCopy m t d n
  OutOfItsHome : (x : Thread) (n : ℕ) → slice_get m.threads t ≡ Some x → x.status ≡ Idle → MayCopy m t (home_of t) n

-- where a new capability for a context comes from: a slot that the step may copy out of had it; an accepted
-- restriction took keys from one that a slot had; the step made the context, and it is the full one; or an
-- accepted switch left the context, and it has no key
pub data ComesFrom (m : Machine) (t : ℕ) (d : Name) (cap : Cap) : Type 0 where
  Stood : (e : Name) (n : ℕ) → MayCopy m t e n → n < SLOTS → slot_at (world_of m) e n ≡ Ctx d cap → ComesFrom m t d cap
  Restricted : (x : Thread) (whole : Cap) → MakesCall m t x LW_RESTRICT → IsGiven m x d whole → IsPart cap whole →
      ComesFrom m t d cap
  Made : (x : Thread) → MakesCall m t x LW_CREATE → d ≡ next_context (world_of m) x.job →
      cap ≡ full_cap (world_of m).size.pages → ComesFrom m t d cap
  OfTheCaller : (x : Thread) → MakesCall m t x LW_SWITCH → d ≡ x.context → cap ≡ empty_cap → ComesFrom m t d cap

-- an accepted switch has put a descriptor of the caller's context without a key into the lowest empty slot of
-- the target, which is common afterwards if it was before, and changed nothing else: neither a cell, nor a
-- right, nor what is read of another one
pub record Enters (m : Machine) (after : Machine) (x : Thread) (d : Name) : Type 0 where
  pub slot : ℕ
  pub within : slot < SLOTS
  pub lowest : lowest_empty (world_of m) d ≡ Some slot
  pub empty : slot_at (world_of m) d slot ≡ Empty
  pub shared : (g : Name) → IsLiveInBoth (world_of m) (world_of after) d →
      (context (world_of m) d).cell (Slot slot) ≡ Common g → (context (world_of after) d).cell (Slot slot) ≡ Common g
  pub descriptor : IsLiveInBoth (world_of m) (world_of after) d →
      slot_at (world_of after) d slot ≡ Ctx x.context empty_cap
  pub cells : (e : Name) (k : Key) → IsLiveInBoth (world_of m) (world_of after) e → IsKey (world_of m).size.pages k →
      ((context (world_of after) e).cell k ≡ (context (world_of m) e).cell k) ⊎ ((e ≡ d) × (k ≡ Slot slot))
  pub rights : (e : Name) (p : ℕ) → IsLiveInBoth (world_of m) (world_of after) e →
      right_at (world_of after) e p ≡ right_at (world_of m) e p
  pub values : (e : Name) (k : Key) → IsLiveInBoth (world_of m) (world_of after) e → IsKey (world_of m).size.pages k →
      (value_at (world_of after) e k ≡ value_at (world_of m) e k) ⊎ (IsOneValue (world_of m) d e k × (k ≡ Slot slot))

-- a page of a context has the right Read and the same value, and its cell is the same, or is common now where the
-- page may be shared
pub record IsLeftToRead (w v : World) (e : Name) (p : ℕ) (IsShared : Type 0) : Type 0 where
  pub right : right_at v e p ≡ Read
  pub value : value_at v e (Page p) ≡ value_at w e (Page p)
  pub cell : ((context v e).cell (Page p) ≡ (context w e).cell (Page p))
      ⊎ ((g : Name) × ((context v e).cell (Page p) ≡ Common g) × IsShared)

-- a step of a thread is confined. Of each context that is live before and after it: a cell is the same, or
-- the step may change it, and so is the right of a page; what is read under a key is the same, or the step
-- may change it there or where it is common; it begins with the same registers; and it keeps the same
-- registers for each thread, but for this one in the context that it stood in. A page of its own with the
-- right Read is left to be read, or the step may replace it. An accepted switch changes no other cell or
-- value than one slot's; an accepted overlay leaves each value of the context that it takes from, and in its
-- own those under keys that the capability does not have; and each descriptor of a context stood in its slot,
-- or its capability comes from where the step may take it
pub record IsConfined (m : Machine) (t : ℕ) (after : Machine) : Type 0 where
  pub cells : (e : Name) (k : Key) → IsLiveInBoth (world_of m) (world_of after) e → IsKey (world_of m).size.pages k →
      ((context (world_of after) e).cell k ≡ (context (world_of m) e).cell k) ⊎ MayChange m t e k
  pub rights : (e : Name) (p : ℕ) → IsLiveInBoth (world_of m) (world_of after) e →
      IsKey (world_of m).size.pages (Page p) →
      (right_at (world_of after) e p ≡ right_at (world_of m) e p) ⊎ MayChange m t e (Page p)
  pub values : (e : Name) (k : Key) → IsLiveInBoth (world_of m) (world_of after) e → IsKey (world_of m).size.pages k →
      (value_at (world_of after) e k ≡ value_at (world_of m) e k) ⊎ MayBeSeen m t e k
  pub entries : (e : Name) → IsLiveInBoth (world_of m) (world_of after) e →
      (context (world_of after) e).entry ≡ (context (world_of m) e).entry
  pub saved : (e : Name) (s : ℕ) → IsLiveInBoth (world_of m) (world_of after) e →
      ((context (world_of after) e).saved s ≡ (context (world_of m) e).saved s)
      ⊎ ((s ≡ t) × (x : Thread) × (slice_get m.threads t ≡ Some x) × (x.context ≡ e))
  pub capabilities : (e d : Name) (n : ℕ) (cap : Cap) → is_live (world_of after) e ≡ true → n < SLOTS →
      slot_at (world_of after) e n ≡ Ctx d cap → (slot_at (world_of m) e n ≡ Ctx d cap) ⊎ ComesFrom m t d cap
  pub read_only : (e : Name) (p : ℕ) (value : Option PageValue) → IsLiveInBoth (world_of m) (world_of after) e →
      IsKey (world_of m).size.pages (Page p) → (context (world_of m) e).cell (Page p) ≡ Own value →
      right_at (world_of m) e p ≡ Read →
      IsLeftToRead (world_of m) (world_of after) e p (MayShare m t e p) ⊎ MayReplace m t e p
  pub switch : (x : Thread) (d : Name) (cap : Cap) → MakesCall m t x LW_SWITCH → IsGiven m x d cap →
      Enters m after x d
  pub overlay : (x : Thread) (d : Name) (cap : Cap) (k : Key) → MakesCall m t x LW_OVERLAY → IsGiven m x d cap →
      IsLiveInBoth (world_of m) (world_of after) d → IsKey (world_of m).size.pages k →
      value_at (world_of after) d k ≡ value_at (world_of m) d k
  pub uncovered : (x : Thread) (d : Name) (cap : Cap) (k : Key) → MakesCall m t x LW_OVERLAY → IsGiven m x d cap →
      IsLiveInBoth (world_of m) (world_of after) x.context → IsKey (world_of m).size.pages k → has_key cap k ≡ false →
      value_at (world_of after) x.context k ≡ value_at (world_of m) x.context k
