-- Fences: which contexts are inside, and what steps that are made inside leave of the others.
use Rattle.std.specs.Ordering.{eq_by_cmp}
use Rattle.lwc_base.specs.declared.cell.Cell.{Cell}
use Rattle.lwc_base.specs.declared.cell.Cell.TheVariants.{Common}
use Rattle.lwc_types.specs.Names.{name_cmp}
use Rattle.std.specs.Prelude.{◌||◌, ◌&&◌, ◌==◌, nat_le, ◌≡◌, ◌≢◌, ◌⊎◌, ◌≤◌, ◌<◌, ℕ, Bool, false, true, List, [], ◌∷◌}
use Rattle.std.specs.Prelude.{Some, slice_get}
use Rattle.kernel_core.specs.Machine.{Machine}
use Rattle.kernel_core.specs.Step.{step}
use Rattle.kernel_core.specs.declared.calling.TheConstants.{LW_CREATE, LW_OVERLAY, LW_SWITCH}
use Rattle.kernel_core.specs.declared.thread.Thread.{Thread}
use Rattle.lwc_base.specs.declared.descriptor.Cap.{Cap}
use Rattle.lwc_base.specs.declared.descriptor.Descriptor.{Descriptor}
use Rattle.lwc_base.specs.declared.descriptor.Descriptor.TheVariants.{Ctx}
use Rattle.lwc_base.specs.Capabilities.{has_key}
use Rattle.lwc_base.specs.Cells.{slot_at, value_at}
use Rattle.lwc_base.specs.Clones.{HaveInCommon}
use Rattle.lwc_base.specs.Modes.{IsKey, mode}
use Rattle.lwc_base.specs.declared.item.Mode.TheVariants.{Share}
use Rattle.lwc_types.specs.declared.key.TheConstants.{SLOTS}
use Rattle.lwc_types.specs.declared.fault.ThreadStatus.TheVariants.{Idle, Running}
use Rattle.lwc_types.specs.declared.key.Key.{Key}
use Rattle.lwc_types.specs.declared.key.Key.TheVariants.{Page, Slot}
use Rattle.lwc_types.specs.declared.limits.TheConstants.{MOST_PAGES}
use Rattle.lwc_types.specs.declared.name.Name.{Name}
use Rattle.lwc_create.specs.Create as create
use Rattle.lwc_overlay.specs.Named.{items_of}
use Rattle.res_spec.specs.declared.items.SpecCall.TheVariants as call
use Rattle.lwc_base.specs.Rights.{right_at}
use Rattle.lwc_base.specs.World.{World, context, next_context}
use Rattle.confinement.specs.Confined.{IsLiveInBoth}
use Rattle.confinement.specs.May.{IsGiven, MakesCall, MayBeSeen, regs_at, world_of}
use Rattle.lwc_syscall.specs.Plain.{is_written}

-- a fence: which contexts are inside; which keys of the others are opened to descriptors inside; and which of
-- their values may be seen to change from inside
pub record Fence : Type 0 where
  pub inside : Name → Bool
  pub opened : Name → Key → Bool
  pub seen : Name → Key → Bool

-- a descriptor may be inside: it is of a context inside, or each key of its capability is opened
abbrev pub MayBeInside : Fence → Descriptor → Type 0
MayBeInside f (Ctx d cap) =
    (f.inside d ≡ true) ⊎ ((k : Key) → IsKey MOST_PAGES k → has_key cap k ≡ true → f.opened d k ≡ true)
MayBeInside f _ = Unit {0}

-- a context is inside, or what it has under a key may be seen to change
abbrev pub IsInsideOrSeen : Fence → Name → Key → Type 0
IsInsideOrSeen f d k = (f.inside d ≡ true) ⊎ (f.seen d k ≡ true)

-- a machine keeps to a fence: in slots of contexts inside, and in opened ones, are descriptors that may be
-- inside; what is opened may be seen to change; so may what another context has in common with one inside, or with
-- one of which it may be seen; and what a thread that stands inside will make is inside
pub record KeepsTo (f : Fence) (m : Machine) : Type 0 where
  pub slots : (c : Name) (n : ℕ) → f.inside c ≡ true → n < SLOTS → MayBeInside f (slot_at (world_of m) c n)
  pub opened : (d : Name) (n : ℕ) → f.opened d (Slot n) ≡ true → n < SLOTS →
      MayBeInside f (slot_at (world_of m) d n)
  pub seen : (d : Name) (k : Key) → f.opened d k ≡ true → IsInsideOrSeen f d k
  pub common : (d e : Name) (k : Key) → IsInsideOrSeen f d k → IsKey (world_of m).size.pages k →
      HaveInCommon (world_of m) d e k → IsInsideOrSeen f e k
  pub later : (t : ℕ) (x : Thread) (k : ℕ) → slice_get m.threads t ≡ Some x → x.status ≡ Running →
      f.inside x.context ≡ true → ((world_of m).next x.job).contexts ≤ k →
      f.inside (record { job = x.job; k = k }) ≡ true

-- no slot of a context inside, and no opened one, has a descriptor that can be written: of the console or of a reply
abbrev pub IsMute : Fence → World → Type 0
IsMute f w = (c : Name) (n : ℕ) → (f.inside c ≡ true) ⊎ (f.opened c (Slot n) ≡ true) → n < SLOTS →
    is_written (slot_at w c n) ≡ false

-- the next step of a thread is made inside, and no accepted switch leads out
pub record StaysInside (f : Fence) (m : Machine) (t : ℕ) : Type 0 where
  pub here : (x : Thread) → slice_get m.threads t ≡ Some x → (x.status ≢ Idle) × (f.inside x.context ≡ true)
  pub there : (x : Thread) (d : Name) (cap : Cap) → MakesCall m t x LW_SWITCH → IsGiven m x d cap →
      f.inside d ≡ true

-- so it is with each of these steps
abbrev pub StayInside : Fence → Machine → List ℕ → Type 0
StayInside f m [] = Unit {0}
StayInside f m (t ∷ ts) = StaysInside f m t × StayInside f (step m t) ts

-- what the next step of a thread may give two contexts in common: a context that an accepted call makes has a key
-- that a share item names with its maker; and one that takes over by an accepted overlay has it with the giver,
-- whose capability has it
pub data MayJoin (m : Machine) (t : ℕ) : Name → Key → Name → Type 0 where
  WithItsMaker : (x : Thread) (k : Key) → MakesCall m t x LW_CREATE →
      mode (create.items_of (world_of m) x.context (regs_at m x)) k ≡ Some Share →
      MayJoin m t (next_context (world_of m) x.job) k x.context
  WithTheGiver : (x : Thread) (d : Name) (cap : Cap) (k : Key) → MakesCall m t x LW_OVERLAY → IsGiven m x d cap →
      has_key cap k ≡ true → mode (items_of (world_of m) x.context call.Overlay (regs_at m x)) k ≡ Some Share →
      MayJoin m t x.context k d

-- the next step of a thread begins no request, and stays away from what is inside: what it makes is neither inside
-- nor opened; it may change no slot that is inside or opened, so its thread stands outside, and no accepted switch
-- leads inside; and where it may join two contexts, both or neither may be seen to change
pub record StaysAway (f : Fence) (m : Machine) (t : ℕ) : Type 0 where
  pub here : (x : Thread) → slice_get m.threads t ≡ Some x → x.status ≢ Idle
  pub made : (x : Thread) (n : ℕ) → MakesCall m t x LW_CREATE →
      (f.inside (next_context (world_of m) x.job) ≡ false)
      × (f.opened (next_context (world_of m) x.job) (Slot n) ≡ false)
  pub slots : (c : Name) (n : ℕ) → (f.inside c ≡ true) ⊎ (f.opened c (Slot n) ≡ true) → n < SLOTS →
      MayBeSeen m t c (Slot n) → ⊥
  pub joins : (a c : Name) (k : Key) → IsKey (world_of m).size.pages k → MayJoin m t a k c →
      (IsInsideOrSeen f a k → IsInsideOrSeen f c k) × (IsInsideOrSeen f c k → IsInsideOrSeen f a k)

-- each of these steps is made inside and does not lead out, or stays away
abbrev pub StayInsideOrAway : Fence → Machine → List ℕ → Type 0
StayInsideOrAway f m [] = Unit {0}
StayInsideOrAway f m (t ∷ ts) = (StaysInside f m t ⊎ StaysAway f m t) × StayInsideOrAway f (step m t) ts

-- of each context outside that is live before and after: a cell is the same, and so is the right of a page, where
-- the key is not opened; a value is the same where it may not be seen to change; and it keeps the same registers.
-- Each context begins with the same registers
pub record LeavesOutside (f : Fence) (w v : World) : Type 0 where
  pub cells : (e : Name) (k : Key) → IsLiveInBoth w v e → IsKey w.size.pages k → f.inside e ≡ false →
      f.opened e k ≡ false → (context v e).cell k ≡ (context w e).cell k
  pub rights : (e : Name) (p : ℕ) → IsLiveInBoth w v e → IsKey w.size.pages (Page p) → f.inside e ≡ false →
      f.opened e (Page p) ≡ false → right_at v e p ≡ right_at w e p
  pub values : (e : Name) (k : Key) → IsLiveInBoth w v e → IsKey w.size.pages k → f.inside e ≡ false →
      f.seen e k ≡ false → value_at v e k ≡ value_at w e k
  pub entries : (e : Name) → IsLiveInBoth w v e → (context v e).entry ≡ (context w e).entry
  pub saved : (e : Name) (s : ℕ) → IsLiveInBoth w v e → f.inside e ≡ false →
      (context v e).saved s ≡ (context w e).saved s

-- two cells are common of one group
abbrev pub is_one_cell : {A : Type 0} → Cell A → Cell A → Bool
is_one_cell (Common g) (Common h) = eq_by_cmp name_cmp g h
is_one_cell _ _ = false

-- the fence of a context, for a job: inside are it and what the job makes later; nothing is opened; and what it has in
-- common may be seen to change
abbrev pub fence_of : World → Name → ℕ → Fence
fence_of w c job = record {
  inside = λ d. eq_by_cmp name_cmp d c || (d.job == job && nat_le (w.next job).contexts d.k);
  opened = λ d k. false;
  seen = λ d k. is_one_cell ((context w c).cell k) ((context w d).cell k);
}
