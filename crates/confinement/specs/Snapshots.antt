-- Contexts that are made and then left alone.
use Rattle.std.specs.Prelude.{◌≡◌, ◌≢◌, ◌<◌, ℕ, List, [], ◌∷◌, true, None, Some, slice_get, slice_index}
use Rattle.kernel_core.specs.Machine.{Machine}
use Rattle.kernel_core.specs.Runs.{run}
use Rattle.kernel_core.specs.Step.{Outcome, step}
use Rattle.kernel_core.specs.declared.calling.TheConstants.{LW_CREATE, LW_OVERLAY, LW_SWITCH, LW_SYSCALL}
use Rattle.kernel_core.specs.declared.thread.Thread.{Thread}
use Rattle.lwc_base.specs.declared.cell.Cell.TheVariants.{Common}
use Rattle.lwc_base.specs.declared.descriptor.Cap.{Cap}
use Rattle.lwc_base.specs.declared.descriptor.Descriptor.TheVariants.{Ctx, Empty}
use Rattle.lwc_base.specs.declared.item.Mode.TheVariants.{Share}
use Rattle.lwc_base.specs.Capabilities.{empty_cap}
use Rattle.lwc_base.specs.Cells.{slot_at}
use Rattle.lwc_base.specs.Modes.{IsKey, mode}
use Rattle.lwc_base.specs.Rights.{right_at}
use Rattle.lwc_base.specs.Slots.{lowest_empty}
use Rattle.lwc_base.specs.World.{World, context, is_live, next_context}
use Rattle.lwc_types.specs.declared.key.TheConstants.{SLOTS}
use Rattle.lwc_types.specs.declared.key.Key.{Key}
use Rattle.lwc_types.specs.declared.key.Key.TheVariants.{Page, Slot}
use Rattle.lwc_types.specs.declared.name.Name.{Name}
use Rattle.lwc_overlay.specs.Named.{items_of}
use Rattle.lwc_switch.specs.Switch.{arriving}
use Rattle.res_spec.specs.declared.items.SpecCall.TheVariants as call
use Rattle.confinement.specs.May.{IsGiven, MakesCall, MayChange, regs_at, world_of}

-- the next step of a thread touches a context: the thread stands in it, or it is named by an accepted switch,
-- by an accepted overlay with a share item, or by an accepted call over chosen contexts
pub data Touches (m : Machine) (t : ℕ) (c : Name) : Type 0 where
  Inside : (x : Thread) → slice_get m.threads t ≡ Some x → x.context ≡ c → Touches m t c
  Entered : (x : Thread) (cap : Cap) → MakesCall m t x LW_SWITCH → IsGiven m x c cap → Touches m t c
  SharedFrom : (x : Thread) (cap : Cap) (k : Key) → MakesCall m t x LW_OVERLAY → IsGiven m x c cap →
      mode (items_of (world_of m) x.context call.Overlay (regs_at m x)) k ≡ Some Share → Touches m t c
  Chosen : (x : Thread) (cap : Cap) → MakesCall m t x LW_SYSCALL → IsGiven m x c cap → Touches m t c

-- no step of these has a pair with this context among those that it may change; what it has in common may
-- change elsewhere
abbrev pub LeaveIt : Machine → List ℕ → Name → Type 0
LeaveIt m [] c = Unit {0}
LeaveIt m (t ∷ ts) c = ((k : Key) → MayChange m t c k → ⊥) × LeaveIt (step m t) ts c

-- a context is untouched by these steps: it lives before and after them, and none of them may change a key of
-- it
pub record IsUntouched (m : Machine) (steps : List ℕ) (c : Name) : Type 0 where
  pub before : is_live (world_of m) c ≡ true
  pub after : is_live (world_of (run m steps)) c ≡ true
  pub left : LeaveIt m steps c

-- the next step of a thread makes a context, by the call for it
pub record Makes (m : Machine) (t : ℕ) (c : Name) : Type 0 where
  pub thread : Thread
  pub made : MakesCall m t thread LW_CREATE
  pub named : c ≡ next_context (world_of m) thread.job

-- a context is as it was: the same cells, and so the same values of its own, the same rights of its pages, and
-- the registers that it begins with; and it keeps no registers
pub record IsAsMade (w v : World) (c : Name) : Type 0 where
  pub cells : (k : Key) → IsKey w.size.pages k → (context v c).cell k ≡ (context w c).cell k
  pub rights : (p : ℕ) → IsKey w.size.pages (Page p) → right_at v c p ≡ right_at w c p
  pub entry : (context v c).entry ≡ (context w c).entry
  pub saved : (t : ℕ) → (context v c).saved t ≡ None

-- the call by which a thread enters a context, before its step's budget falls: the thread goes on there with
-- the registers that the context begins with, but for the slot's number in r1 and the argument in r2; the
-- context is as it was made, but for a descriptor of the caller's context without a key in its lowest empty
-- slot, which is common if it was made so
pub record IsResumed (made : World) (c : Name) (m : Machine) (x : Thread) (outcome : Outcome) : Type 0 where
  pub slot : ℕ
  pub within : slot < SLOTS
  pub lowest : lowest_empty (world_of m) c ≡ Some slot
  pub empty : slot_at (world_of m) c slot ≡ Empty
  pub there : outcome.thread.context ≡ c
  pub regs : outcome.thread.regs ≡ arriving (context made c).entry slot (slice_index (regs_at m x).r 2)
  pub cells : (k : Key) → IsKey made.size.pages k → k ≢ Slot slot →
      (context outcome.environment.world c).cell k ≡ (context made c).cell k
  pub rights : (p : ℕ) → IsKey made.size.pages (Page p) → right_at outcome.environment.world c p ≡ right_at made c p
  pub shared : (g : Name) → (context made c).cell (Slot slot) ≡ Common g →
      (context outcome.environment.world c).cell (Slot slot) ≡ Common g
  pub descriptor : slot_at outcome.environment.world c slot ≡ Ctx x.context empty_cap
  pub entry : (context outcome.environment.world c).entry ≡ (context made c).entry
  pub saved : (t : ℕ) → (context outcome.environment.world c).saved t ≡ None
