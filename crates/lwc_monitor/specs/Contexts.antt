-- What a step under traps leaves of each context.
use Rattle.std.specs.Prelude.{◌≡◌, ◌≢◌, ◌⊎◌, ℕ, None, Option, Some, false, slice_get, true}
use Rattle.std.specs.FinMap as fm
use Rattle.confinement.specs.Confined.{Enters, IsConfined, IsLiveInBoth}
use Rattle.confinement.specs.May.{world_of}
use Rattle.confinement.specs.One.{IsOneValue}
use Rattle.kernel_core.specs.Machine.{Machine}
use Rattle.kernel_core.specs.Refused.{advanced_thread}
use Rattle.kernel_core.specs.Step.{step}
use Rattle.kernel_core.specs.declared.thread.Thread.{Thread}
use Rattle.lwc_base.specs.Cells.{value_at}
use Rattle.lwc_base.specs.Keys.{ValueOf}
use Rattle.lwc_base.specs.Modes.{IsKey}
use Rattle.lwc_base.specs.Refusals.{first_refusal}
use Rattle.lwc_base.specs.Rights.{right_at}
use Rattle.lwc_base.specs.World.{context, is_live}
use Rattle.lwc_base.specs.declared.cell.Cell.{Cell}
use Rattle.lwc_base.specs.declared.cell.Cell.TheVariants.{Own}
use Rattle.lwc_types.specs.declared.key.Key.{Key}
use Rattle.lwc_types.specs.declared.key.Key.TheVariants.{Cred, Page, Slot}
use Rattle.lwc_types.specs.declared.name.Name.{Name}
use Rattle.lwc_types.specs.declared.page.PageValue.{PageValue}
use Rattle.lwc_monitor.specs.Steps.{Monitored, call_of}
use Rattle.lwc_monitor.specs.Traps.{is_trapped, trap_rows}
use Rattle.lwc_overlay.specs.Named.{link}
use Rattle.lwc_monitor.specs.declared.numbers.TheConstants.{LW_TRAP}

-- each context begins with the same registers, and keeps the same, but for those of a thread in one
pub record LeavesRegisters (m after : Machine) (t : ℕ) (c : Name) : Type 0 where
  pub entries : (e : Name) → IsLiveInBoth (world_of m) (world_of after) e →
      (context (world_of after) e).entry ≡ (context (world_of m) e).entry
  pub saved : (e : Name) (s : ℕ) → IsLiveInBoth (world_of m) (world_of after) e →
      ((context (world_of after) e).saved s ≡ (context (world_of m) e).saved s) ⊎ ((s ≡ t) × (e ≡ c))

-- the thread of a number is in a context
abbrev pub IsIn : Machine → ℕ → Name → Type 0
IsIn m t c = (x : Thread) × (slice_get m.threads t ≡ Some x) × (x.context ≡ c)

-- each other thread is as it was
abbrev pub LeavesThreads : Machine → Machine → ℕ → Type 0
LeavesThreads m after t = (u : ℕ) → t ≢ u → slice_get after.threads u ≡ slice_get m.threads u

-- a step changes its thread alone, which stays in its context
pub record ChangesThread (m after : Machine) (t : ℕ) : Type 0 where
  pub others : LeavesThreads m after t
  pub stays : (x : Thread) → slice_get m.threads t ≡ Some x → IsIn after t x.context
  pub environment : after.environment ≡ m.environment

-- a step takes its thread to a monitor, which gets one descriptor, of the context that the thread was in, without a key
pub record GoesTo (m after : Machine) (t : ℕ) (x : Thread) (d : Name) : Type 0 where
  pub others : LeavesThreads m after t
  pub arrives : IsIn after t d
  pub enters : Enters m after x d
  pub registers : LeavesRegisters m after t x.context
  pub channels : after.environment.channels ≡ m.environment.channels

-- the traps are those of contexts that live on
abbrev pub KeepsTraps : Monitored → Monitored → Type 0
KeepsTraps s after = after.traps ≡ fm.retain_keys s.traps (is_live (world_of after.machine))

-- the call that traps is accepted: no row of its table holds, and the slot in r1 has a descriptor of the context
pub record IsTaken (s : Monitored) (x : Thread) (d : Name) : Type 0 where
  pub accepted :
      first_refusal (trap_rows s.traps (world_of s.machine) x.context (advanced_thread s.machine x).regs) ≡ None
  pub named : d ≡ (link (world_of s.machine) x.context (advanced_thread s.machine x).regs).0

-- a step under traps is the kernel's, and confined; or it changes its thread alone; or, by the call that traps, its
-- thread, and one context more is trapped by the thread's; or it takes a thread of a trapped context to its monitor
pub data LeavesContexts (s after : Monitored) (t : ℕ) : Type 0 where
  OfTheKernel : after.machine ≡ step s.machine t → IsConfined s.machine t after.machine → KeepsTraps s after →
      LeavesContexts s after t
  OfTheThread : ChangesThread s.machine after.machine t → after.traps ≡ s.traps → LeavesContexts s after t
  OfATrap : (x : Thread) (d : Name) → slice_get s.machine.threads t ≡ Some x → call_of s.machine x ≡ Some LW_TRAP →
      ChangesThread s.machine after.machine t → IsTaken s x d → is_trapped s.traps d ≡ false →
      after.traps ≡ fm.insert s.traps d x.context → LeavesContexts s after t
  ToTheMonitor : (x : Thread) (m : Name) → slice_get s.machine.threads t ≡ Some x → fm.get s.traps x.context ≡ Some m →
      GoesTo s.machine after.machine t x m → KeepsTraps s after → LeavesContexts s after t

-- a cell is a page's own, and has a value
abbrev pub IsOwnValue : Cell (Option PageValue) → Type 0
IsOwnValue (Own (Some value)) = Unit {0}
IsOwnValue _ = ⊥

abbrev pub IsOwnPage : (k : Key) → Cell (ValueOf k) → Type 0
IsOwnPage (Page p) cell = IsOwnValue cell
IsOwnPage (Slot n) cell = ⊥
IsOwnPage Cred cell = ⊥

-- nothing has changed but values of pages that a context has, alone or in common with others: the same contexts live;
-- each cell is the same, or is of a page of the context's own, with a value before and after; and rights, registers
-- and channels are the same
pub record LeavesButPages (m after : Machine) (d : Name) : Type 0 where
  pub live : (e : Name) → is_live (world_of after) e ≡ is_live (world_of m) e
  pub cells : (e : Name) (k : Key) → is_live (world_of m) e ≡ true → IsKey (world_of m).size.pages k →
      ((context (world_of after) e).cell k ≡ (context (world_of m) e).cell k) ⊎
      ((e ≡ d) × IsOwnPage k ((context (world_of m) e).cell k) × IsOwnPage k ((context (world_of after) e).cell k))
  pub rights : (e : Name) (p : ℕ) → right_at (world_of after) e p ≡ right_at (world_of m) e p
  pub values : (e : Name) (k : Key) → is_live (world_of m) e ≡ true → IsKey (world_of m).size.pages k →
      (value_at (world_of after) e k ≡ value_at (world_of m) e k) ⊎
      (IsOneValue (world_of m) d e k × (p : ℕ) × (k ≡ Page p))
  pub entries : (e : Name) → is_live (world_of m) e ≡ true →
      (context (world_of after) e).entry ≡ (context (world_of m) e).entry
  pub saved : (e : Name) (s : ℕ) → is_live (world_of m) e ≡ true →
      (context (world_of after) e).saved s ≡ (context (world_of m) e).saved s
  pub channels : after.environment.channels ≡ m.environment.channels

-- a step of a thread in a trapped context takes it to the monitor; or it leaves the thread there, the other threads,
-- and all but values of the context's pages
pub data LeavesAllBut (s : Monitored) (after : Machine) (t : ℕ) (x : Thread) (m : Name) : Type 0 where
  GoesToIt : GoesTo s.machine after t x m → LeavesAllBut s after t x m
  StaysThere : LeavesThreads s.machine after t → IsIn after t x.context → LeavesButPages s.machine after x.context →
      LeavesAllBut s after t x m
