-- Closed contexts, whose descriptors open no other one, and steps that stay in one.
use Rattle.std.specs.Prelude.{◌≡◌, ◌≢◌, ◌⊎◌, ◌<◌, ℕ, false, true, List, [], ◌∷◌, Some, slice_get}
use Rattle.kernel_core.specs.Machine.{Machine}
use Rattle.kernel_core.specs.Step.{step}
use Rattle.kernel_core.specs.declared.calling.TheConstants.{LW_SWITCH}
use Rattle.kernel_core.specs.declared.thread.Thread.{Thread}
use Rattle.lwc_base.specs.declared.descriptor.Cap.{Cap}
use Rattle.lwc_base.specs.declared.descriptor.Descriptor.TheVariants.{Ctx}
use Rattle.lwc_base.specs.Capabilities.{has_key}
use Rattle.lwc_base.specs.Cells.{slot_at, value_at}
use Rattle.lwc_base.specs.Clones.{HaveInCommon}
use Rattle.lwc_base.specs.Modes.{IsKey}
use Rattle.lwc_base.specs.Rights.{right_at}
use Rattle.lwc_base.specs.World.{World, context, is_live}
use Rattle.lwc_types.specs.declared.key.TheConstants.{SLOTS}
use Rattle.lwc_types.specs.declared.fault.ThreadStatus.TheVariants.{Idle, Running}
use Rattle.lwc_types.specs.declared.key.Key.{Key}
use Rattle.lwc_types.specs.declared.key.Key.TheVariants.{Page}
use Rattle.lwc_types.specs.declared.limits.TheConstants.{MOST_PAGES}
use Rattle.lwc_types.specs.declared.name.Name.{Name}
use Rattle.confinement.specs.Confined.{IsLiveInBoth}
use Rattle.confinement.specs.May.{IsGiven, MakesCall}

-- a context lives, and no descriptor of another one in its slots has a key
pub record IsClosed (w : World) (c : Name) : Type 0 where
  pub live : is_live w c ≡ true
  pub shut : (n : ℕ) (d : Name) (cap : Cap) (k : Key) → n < SLOTS → slot_at w c n ≡ Ctx d cap → d ≢ c →
      IsKey MOST_PAGES k → has_key cap k ≡ false

-- each thread that runs in a context has this job
abbrev pub IsOfJob : Machine → Name → ℕ → Type 0
IsOfJob m c job =
    (t : ℕ) (x : Thread) → slice_get m.threads t ≡ Some x → x.status ≡ Running → x.context ≡ c → x.job ≡ job

-- a context is this one, or was not there in a world
abbrev pub IsOrIsNew : World → Name → Name → Type 0
IsOrIsNew w c d = (d ≡ c) ⊎ (is_live w d ≡ false)

-- the next step of a thread is made in this context or in a new one, and no accepted switch leads out
pub record StaysIn (w : World) (c : Name) (m : Machine) (t : ℕ) : Type 0 where
  pub here : (x : Thread) → slice_get m.threads t ≡ Some x → (x.status ≢ Idle) × IsOrIsNew w c x.context
  pub there : (x : Thread) (d : Name) (cap : Cap) → MakesCall m t x LW_SWITCH → IsGiven m x d cap →
      IsOrIsNew w c d

-- so it is with each of these steps; the world is the one in which they begin
abbrev pub StayIn : World → Name → Machine → List ℕ → Type 0
StayIn w c m [] = Unit {0}
StayIn w c m (t ∷ ts) = StaysIn w c m t × StayIn w c (step m t) ts

-- of each other context that lives before and after: each cell is the same, and the right of each page, the registers
-- that it begins with and those that it keeps; and so is each value, but what it had in common with this one
pub record LeavesOthers (w v : World) (c : Name) : Type 0 where
  pub cells : (e : Name) (k : Key) → IsLiveInBoth w v e → e ≢ c → IsKey w.size.pages k →
      (context v e).cell k ≡ (context w e).cell k
  pub rights : (e : Name) (p : ℕ) → IsLiveInBoth w v e → e ≢ c → IsKey w.size.pages (Page p) →
      right_at v e p ≡ right_at w e p
  pub values : (e : Name) (k : Key) → IsLiveInBoth w v e → e ≢ c → IsKey w.size.pages k →
      (value_at v e k ≡ value_at w e k) ⊎ HaveInCommon w c e k
  pub entries : (e : Name) → IsLiveInBoth w v e → (context v e).entry ≡ (context w e).entry
  pub saved : (e : Name) (s : ℕ) → IsLiveInBoth w v e → e ≢ c → (context v e).saved s ≡ (context w e).saved s
