-- What the next step of a thread may change: pairs of a context and a key.
use Rattle.std.specs.Prelude.{◌≡◌, ℕ, true, None, Some, slice_get, slice_index}
use Rattle.access_cap.specs.Kinds.{is_chosen}
use Rattle.guest_isa.specs.declared.instr.Instr.{Instr}
use Rattle.guest_isa.specs.declared.op.Op.TheVariants.{Sys}
use Rattle.guest_machine.specs.Advances.{advanced}
use Rattle.guest_machine.specs.declared.progress.Next.TheVariants as next
use Rattle.kernel_core.specs.Machine.{Machine}
use Rattle.kernel_core.specs.Refused.{advanced_thread, refusal_of}
use Rattle.kernel_core.specs.Step.{args_of}
use Rattle.kernel_core.specs.declared.calling.TheConstants.{LW_CREATE, LW_OVERLAY, LW_SWITCH, LW_SYSCALL}
use Rattle.kernel_core.specs.declared.thread.Thread.{Thread}
use Rattle.lwc_base.specs.declared.descriptor.Cap.{Cap}
use Rattle.lwc_base.specs.declared.descriptor.Descriptor.TheVariants.{Ctx}
use Rattle.lwc_base.specs.declared.item.Mode.{Mode}
use Rattle.lwc_base.specs.declared.item.Mode.TheVariants.{Share}
use Rattle.lwc_base.specs.Capabilities.{has_key}
use Rattle.lwc_base.specs.Cells.{slot_at}
use Rattle.lwc_base.specs.Modes.{kind_of, mode}
use Rattle.lwc_base.specs.Slots.{lowest_empty}
use Rattle.lwc_base.specs.World.{World}
use Rattle.lwc_types.specs.declared.fault.ThreadStatus.TheVariants.{Running}
use Rattle.lwc_types.specs.declared.key.Key.{Key}
use Rattle.lwc_types.specs.declared.key.Key.TheVariants.{Page, Slot}
use Rattle.lwc_types.specs.declared.name.Name.{Name}
use Rattle.lwc_types.specs.declared.regs.Regs.{Regs}
use Rattle.lwc_create.specs.Create as create
use Rattle.lwc_overlay.specs.Named.{items_of}
use Rattle.lwc_syscall.specs.Changes.{maps_page}
use Rattle.lwc_syscall.specs.Syscall.{inner_args, inner_call, mask_in, targets_of}
use Rattle.lwc_syscall.specs.Plain.{plain_call}
use Rattle.confinement.specs.One.{IsOneValue}
use Rattle.res_spec.specs.declared.items.SpecCall.TheVariants as call

-- the world of a machine
abbrev pub world_of : Machine → World
world_of m = m.environment.world

-- the registers of a thread as its next shared instruction comes
abbrev pub regs_at : Machine → Thread → Regs
regs_at m x = (advanced m.text x.regs).after

-- the next step of the thread of a number is a call of this number, and it is accepted
pub record MakesCall (m : Machine) (t : ℕ) (x : Thread) (call : ℕ) : Type 0 where
  pub instr : Instr
  pub found : slice_get m.threads t ≡ Some x
  pub running : x.status ≡ Running
  pub next : (advanced m.text x.regs).next ≡ next.Shared instr
  pub op : instr.op ≡ Sys
  pub number : instr.imm ≡ call
  pub accepted : refusal_of call t m.environment (advanced_thread m x) ≡ None

-- the slot in register 1 of the thread's context has a descriptor of a context with this capability
abbrev pub IsGiven : Machine → Thread → Name → Cap → Type 0
IsGiven m x d cap = slot_at (world_of m) x.context (slice_index (regs_at m x).r 1) ≡ Ctx d cap

-- what the next step of a thread may change: of its own context, each key; of the context that an accepted
-- switch goes to, the lowest empty slot; of the one that an accepted overlay takes from, the keys of the
-- capability that a share item names; of the one that an accepted call over chosen contexts names, the keys
-- of each chosen kind, all of the capability
pub data MayChange (m : Machine) (t : ℕ) : Name → Key → Type 0 where
  OfItsOwn : (x : Thread) (k : Key) → slice_get m.threads t ≡ Some x → MayChange m t x.context k
  OfTheTarget : (x : Thread) (d : Name) (cap : Cap) (n : ℕ) → MakesCall m t x LW_SWITCH → IsGiven m x d cap →
      lowest_empty (world_of m) d ≡ Some n → MayChange m t d (Slot n)
  OfTheGiver : (x : Thread) (d : Name) (cap : Cap) (k : Key) → MakesCall m t x LW_OVERLAY → IsGiven m x d cap →
      has_key cap k ≡ true → mode (items_of (world_of m) x.context call.Overlay (regs_at m x)) k ≡ Some Share →
      MayChange m t d k
  OfTheChosen : (x : Thread) (d : Name) (cap : Cap) (k : Key) → MakesCall m t x LW_SYSCALL → IsGiven m x d cap →
      has_key cap k ≡ true → is_chosen (mask_in (regs_at m x)) (kind_of k) ≡ true → MayChange m t d k

-- the next step of a thread may share a page of a context: a share item of an accepted call that makes a context
-- names it, in the thread's own context, or one of an accepted overlay, in the context that it takes from
pub data MayShare (m : Machine) (t : ℕ) : Name → ℕ → Type 0 where
  ByMaking : (x : Thread) (p : ℕ) → MakesCall m t x LW_CREATE →
      mode (create.items_of (world_of m) x.context (regs_at m x)) (Page p) ≡ Some Share → MayShare m t x.context p
  ByGiving : (x : Thread) (d : Name) (cap : Cap) (p : ℕ) → MakesCall m t x LW_OVERLAY → IsGiven m x d cap →
      mode (items_of (world_of m) x.context call.Overlay (regs_at m x)) (Page p) ≡ Some Share → MayShare m t d p

-- the next step of a thread may replace a page of a context that is its own and has the right Read: an accepted
-- map or unmap has it in its range, in the memory that the call is made for; or an accepted overlay of the
-- thread's own context names it
pub data MayReplace (m : Machine) (t : ℕ) : Name → ℕ → Type 0 where
  ByMapping : (x : Thread) (number p : ℕ) → MakesCall m t x number →
      maps_page (plain_call number) (args_of (regs_at m x)) p ≡ true → MayReplace m t x.context p
  ByMappingFor : (x : Thread) (p : ℕ) → MakesCall m t x LW_SYSCALL →
      maps_page (inner_call (regs_at m x)) (inner_args (regs_at m x)) p ≡ true →
      MayReplace m t (targets_of (world_of m) x.context (regs_at m x)).memory p
  ByTakingOver : (x : Thread) (p : ℕ) (how : Mode) → MakesCall m t x LW_OVERLAY →
      mode (items_of (world_of m) x.context call.Overlay (regs_at m x)) (Page p) ≡ Some how →
      MayReplace m t x.context p

-- the next step of a thread may change what is read under a key of a context: a pair that it may change has
-- the key, and this context or one that has the key in common with it
pub record MayBeSeen (m : Machine) (t : ℕ) (e : Name) (k : Key) : Type 0 where
  pub changed : Name
  pub may : MayChange m t changed k
  pub one : IsOneValue (world_of m) changed e k
