-- The call that takes a thread to another context: its refusals in order, and what it does where none holds.
use Rattle.std.specs.Prelude.{◌≡◌, ◌≢◌, ◌<◌, ℕ, ◌++◌, Bool, true, List, [], ◌∷◌, Option, None, Some, is_none}
use Rattle.std.specs.Prelude.{slice_index, slice_set, unwrap_or}
use Rattle.std.specs.Option.{option_map}
use Rattle.guest_call.specs.Changes.{IsUntouched}
use Rattle.guest_call.specs.Guest.{descriptor_for, link_of, slot_refusals, with_answer}
use Rattle.lwc_base.specs.declared.answer.Moved.{Moved}
use Rattle.lwc_base.specs.declared.answer.Moved.TheVariants.{To, Refused}
use Rattle.lwc_base.specs.declared.descriptor.Cap.{Cap}
use Rattle.lwc_base.specs.declared.descriptor.Descriptor.TheVariants.{Ctx}
use Rattle.lwc_base.specs.Capabilities.{empty_cap}
use Rattle.lwc_base.specs.Cells.{put_slot, slot_at, value_at}
use Rattle.lwc_base.specs.Facts.{KeepsNames}
use Rattle.lwc_base.specs.Life.{links}
use Rattle.lwc_base.specs.Refusals.{first_refusal}
use Rattle.lwc_base.specs.Saved.{entered, save}
use Rattle.lwc_base.specs.Slots.{lowest_empty}
use Rattle.lwc_base.specs.Summaries.{is_empty}
use Rattle.lwc_base.specs.World.{World, context, is_live}
use Rattle.lwc_types.specs.declared.key.TheConstants.{SLOTS}
use Rattle.lwc_types.specs.declared.key.Key.{Key}
use Rattle.lwc_types.specs.declared.key.Key.TheVariants.{Slot}
use Rattle.lwc_types.specs.declared.name.Name.{Name}
use Rattle.lwc_types.specs.declared.refusal.Refusal.{Refusal}
use Rattle.lwc_types.specs.declared.refusal.Refusal.TheVariants.{NoSlotThere}
use Rattle.lwc_types.specs.declared.regs.Regs.{Regs}

-- the context that the slot in register 1 has a descriptor of; the caller's own where it has none
unfoldable pub target : World → Name → Regs → Name
target w c regs =
    unwrap_or (option_map (λ link. link.0) (link_of (descriptor_for w c (slice_index regs.r 1)))) c

-- why the call is refused: the first of these that holds
unfoldable pub refusals : World → Name → Regs → List (Bool × Refusal)
refusals w c regs =
    slot_refusals w c (slice_index regs.r 1)
    ++ (is_none (lowest_empty w (target w c regs)), NoSlotThere) ∷ []

-- the caller's context keeps the registers for its thread, at the next instruction and with 0 in r0
abbrev pub left : World → Name → ℕ → Regs → World
left w c t regs = save w c t (with_answer regs 0)

-- the registers that a thread arrives with: the slot's number is in r1, and the argument in r2
abbrev pub arriving : Regs → ℕ → ℕ → Regs
arriving regs slot argument = record regs { r = slice_set (slice_set regs.r 1 slot) 2 argument }

-- the registers that the thread goes on with: those that it enters the target with, once its own are saved,
-- with the slot's number and an argument
abbrev pub entering : World → Name → ℕ → Regs → Name → ℕ → ℕ → Regs
entering w c t regs d slot argument = arriving (entered (context (left w c t regs) d) t) slot argument

-- those of a switch, whose argument is in r2
abbrev pub going_on : World → Name → ℕ → Regs → Name → ℕ → Regs
going_on w c t regs d slot = entering w c t regs d slot (slice_index regs.r 2)

-- the registers are saved, and the slot of the target gets a descriptor of the caller's context without a key
abbrev pub switched : World → Name → ℕ → Regs → Name → ℕ → World
switched w c t regs d slot = put_slot (left w c t regs) d slot (Ctx c empty_cap)

-- the end of the call: a refusal changes nothing; else the thread goes to the target
abbrev pub ended : World → Name → ℕ → Regs → Name → ℕ → Option Refusal → Moved × World
ended w c t regs d slot (Some refusal) = (Refused refusal, w)
ended w c t regs d slot None = (To d (going_on w c t regs d slot), switched w c t regs d slot)

-- the call that takes a thread from a context to another one: the answer, and the world afterwards
unfoldable pub switch : World → Name → ℕ → Regs → Moved × World
switch w c t regs =
    let d = target w c regs in
    ended w c t regs d (unwrap_or (lowest_empty w d) 0) (first_refusal (refusals w c regs))

-- a fact, if the answer is a refusal
abbrev pub IfRefused : Moved → Type 0 → Type 0
IfRefused (To d regs) P = Unit {0}
IfRefused (Refused refusal) P = P

-- a thread has gone from a context to a live one that it links to, where a slot was the lowest empty one
pub record IsSwitch (w v : World) (c d : Name) (t : ℕ) (regs arrived : Regs) : Type 0 where
  pub cap : Cap
  pub slot : ℕ
  pub had : slot_at w c (slice_index regs.r 1) ≡ Ctx d cap
  pub linked : links w c d ≡ true
  pub live : is_live w d ≡ true
  pub within : slot < SLOTS
  pub lowest : lowest_empty w d ≡ Some slot
  pub empty : is_empty (slot_at w d slot) ≡ true
  pub made : v ≡ switched w c t regs d slot
  pub goes_on : arrived ≡ going_on w c t regs d slot

-- nothing has changed but the registers that a context keeps for the thread, and a slot of the target
pub record LeavesRest (w v : World) (c d : Name) (t slot : ℕ) : Type 0 where
  pub names : KeepsNames w v
  pub values : (e : Name) (k : Key) → IsUntouched w d (Slot slot) e k → value_at v e k ≡ value_at w e k
  pub cells : (e : Name) (k : Key) → IsUntouched w d (Slot slot) e k → (context v e).cell k ≡ (context w e).cell k
  pub rights : (e : Name) → (context v e).right ≡ (context w e).right
  pub entries : (e : Name) → (context v e).entry ≡ (context w e).entry
  pub saved : (e : Name) (s : ℕ) → (e ≡ c → s ≢ t) → (context v e).saved s ≡ (context w e).saved s
