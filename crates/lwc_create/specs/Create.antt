-- The call that makes a new context: its refusals in their order, and what it does where none of them holds.
use Rattle.std.specs.Prelude.{◌≡◌, ◌<◌, ℕ, ◌+◌, ◌++◌, ◌-◌, ◌%◌, ◌^◌, ◌&&◌, Bool, true, List, [], ◌∷◌, Option, None}
use Rattle.std.specs.Prelude.{Some, is_none, nat_le, slice_index, slice_set, unwrap_or}
use Rattle.guest_call.specs.Asked as asked
use Rattle.guest_call.specs.Asked.{item_refusals}
use Rattle.guest_call.specs.Guest.{are_too_many}
use Rattle.lwc_base.specs.declared.answer.Answer.{Answer}
use Rattle.lwc_base.specs.declared.answer.Answer.TheVariants.{Done, Refused}
use Rattle.lwc_base.specs.declared.descriptor.Descriptor.TheVariants.{Ctx}
use Rattle.lwc_base.specs.declared.item.Item.{Item}
use Rattle.lwc_base.specs.Capabilities.{full_cap}
use Rattle.lwc_base.specs.Cells.{put_slot}
use Rattle.lwc_base.specs.Modes.{IsSpec}
use Rattle.lwc_base.specs.Refusals.{first_refusal}
use Rattle.lwc_base.specs.Sharing.{clone_context, needs_group, ranges_after_clone}
use Rattle.lwc_base.specs.Slots.{lowest_empty}
use Rattle.lwc_base.specs.World.{World, groups_of, live_of, next_context}
use Rattle.lwc_types.specs.declared.name.Name.{Name}
use Rattle.lwc_types.specs.declared.limits.TheConstants.{MOST_CONTEXTS_OF_JOB, MOST_GROUPS_OF_JOB}
use Rattle.lwc_types.specs.declared.refusal.Refusal.{Refusal}
use Rattle.lwc_types.specs.declared.refusal.Refusal.TheVariants.{TooManyContexts, NoSlot, TooManyGroups, TooManyRanges}
use Rattle.lwc_types.specs.declared.regs.Regs.{Regs}
use Rattle.res_spec.specs.declared.items.SpecCall.TheVariants.{Create}
use Rattle.world_face.specs.Calls.{AreFew, HasGroupPlace, HasPlace}

-- the items that the caller asks for: their address is in register 1, and their number in register 2
abbrev pub items_of : World → Name → Regs → List Item
items_of w c regs = asked.items_of w c Create (slice_index regs.r 1) (slice_index regs.r 2)

-- why there is no room for a context that is made by items: the first of these that holds
unfoldable pub room_refusals : World → Name → ℕ → List Item → List (Bool × Refusal)
room_refusals w c job items =
    (nat_le MOST_CONTEXTS_OF_JOB (live_of w job), TooManyContexts)
    ∷ (is_none (lowest_empty w c), NoSlot)
    ∷ (needs_group w c items && nat_le MOST_GROUPS_OF_JOB (groups_of w job), TooManyGroups)
    ∷ (are_too_many (ranges_after_clone w c job items), TooManyRanges)
    ∷ []

-- why the call is refused: the first of these that holds
unfoldable pub refusals : World → Name → ℕ → Regs → List (Bool × Refusal)
refusals w c job regs =
    item_refusals w c Create (slice_index regs.r 1) (slice_index regs.r 2)
    ++ room_refusals w c job (items_of w c regs)

-- the register value that says that there is no caller: -1
abbrev pub no_caller : ℕ
no_caller = 2 ^ 64 - 1

-- the registers after the call: this value in r0, no caller in r1, 0 in r2, and the next instruction
abbrev pub after_call : Regs → ℕ → Regs
after_call regs value = record {
  r = slice_set (slice_set (slice_set regs.r 0 value) 1 no_caller) 2 0;
  pc = (regs.pc + 1) % 2 ^ 64;
}

-- the new context is made, with no caller in its r0, and the slot gets a descriptor of it that has every key
abbrev pub created : World → Name → ℕ → Regs → ℕ → World
created w c job regs slot =
    put_slot (clone_context w c job (items_of w c regs) (after_call regs no_caller)) c slot
    (Ctx (next_context w job) (full_cap w.size.pages))

-- the end of the call: a refusal changes nothing; else the new context is made, and r0 gets the slot's number
abbrev pub ended : World → Name → ℕ → Regs → ℕ → Option Refusal → Answer × World
ended w c job regs slot (Some refusal) = (Refused refusal, w)
ended w c job regs slot None = (Done (after_call regs slot), created w c job regs slot)

-- the call that makes a new context from the caller's one, for its job: the answer, and the world afterwards
unfoldable pub create : World → Name → ℕ → Regs → Answer × World
create w c job regs =
    ended w c job regs (unwrap_or (lowest_empty w c) 0) (first_refusal (refusals w c job regs))

-- a fact, if the answer is a refusal
abbrev pub IfRefused : Answer → Type 0 → Type 0
IfRefused (Done regs) P = Unit {0}
IfRefused (Refused refusal) P = P

-- while the job has fewer contexts or groups than it may have, there is a place for one more
pub record HasPlaces (w : World) (job : ℕ) : Type 0 where
  pub context : live_of w job < MOST_CONTEXTS_OF_JOB → HasPlace w
  pub group : groups_of w job < MOST_GROUPS_OF_JOB → HasGroupPlace w

-- there is room for a context that is made by items, with its descriptor in this slot
pub record HasRoom (w : World) (c : Name) (job : ℕ) (items : List Item) (n : ℕ) : Type 0 where
  pub passed : first_refusal (room_refusals w c job items) ≡ None
  pub live : live_of w job < MOST_CONTEXTS_OF_JOB
  pub lowest : lowest_empty w c ≡ Some n
  pub group : needs_group w c items ≡ true → groups_of w job < MOST_GROUPS_OF_JOB
  pub few : AreFew (ranges_after_clone w c job items)

-- no refusal holds: the call makes a context by these items, with its descriptor in this slot
pub record IsAllowed (w : World) (c : Name) (job : ℕ) (regs : Regs) (items : List Item) (n : ℕ) : Type 0 where
  pub passed : first_refusal (refusals w c job regs) ≡ None
  pub asked : items ≡ items_of w c regs
  pub valid : IsSpec w.size.pages items
  pub room : HasRoom w c job items n
