-- The call that takes over what items name: its refusals in order, and what it does where none holds.
use Rattle.std.specs.Prelude.{◌≡◌, ◌≢◌, ◌<◌, ℕ, ◌&&◌, Bool, not, true, List, [], ◌∷◌, Option, None, Some, nat_le}
use Rattle.std.specs.Prelude.{slice_index}
use Rattle.guest_call.specs.Guest.{are_too_many, with_answer}
use Rattle.lwc_base.specs.declared.answer.Answer.{Answer}
use Rattle.lwc_base.specs.declared.answer.Answer.TheVariants.{Done, Refused}
use Rattle.lwc_base.specs.declared.descriptor.Cap.{Cap}
use Rattle.lwc_base.specs.declared.descriptor.Descriptor.TheVariants.{Ctx}
use Rattle.lwc_base.specs.declared.item.Item.{Item}
use Rattle.lwc_base.specs.declared.item.Mode.TheVariants.{Share}
use Rattle.lwc_base.specs.Capabilities.{covers}
use Rattle.lwc_base.specs.Cells.{slot_at, value_at}
use Rattle.lwc_base.specs.Modes.{IsSpec, mode}
use Rattle.lwc_base.specs.Overlay as base
use Rattle.lwc_base.specs.Overlay.{ranges_after_overlay}
use Rattle.lwc_base.specs.Refusals.{first_refusal}
use Rattle.lwc_base.specs.Rights.{right_at}
use Rattle.lwc_base.specs.Sharing.{needs_group}
use Rattle.lwc_base.specs.World.{World, context, groups_of, is_live}
use Rattle.lwc_types.specs.declared.key.Key.{Key}
use Rattle.lwc_types.specs.declared.key.Key.TheVariants.{Page}
use Rattle.lwc_types.specs.declared.limits.TheConstants.{MOST_GROUPS_OF_JOB}
use Rattle.lwc_types.specs.declared.name.Name.{Name}
use Rattle.lwc_types.specs.declared.refusal.Refusal.{Refusal}
use Rattle.lwc_types.specs.declared.refusal.Refusal.TheVariants.{NotCovered, TooManyGroups, TooManyRanges}
use Rattle.lwc_types.specs.declared.regs.Regs.{Regs}
use Rattle.lwc_overlay.specs.Named.{items_of, link, refusals_before}
use Rattle.res_spec.specs.declared.items.SpecCall.TheVariants as call
use Rattle.world_face.specs.Calls.{AreFew}

-- why items may not be taken over from a context through a capability: the first of these that holds
unfoldable pub giver_refusals : World → Name → ℕ → Name × Cap → List Item → List (Bool × Refusal)
giver_refusals w c job l items =
    (not (covers w.size.pages l.1 items), NotCovered)
    ∷ (needs_group w l.0 items && nat_le MOST_GROUPS_OF_JOB (groups_of w job), TooManyGroups)
    ∷ (are_too_many (ranges_after_overlay w c l.0 job items), TooManyRanges)
    ∷ []

-- why the call is refused: the first of these that holds
unfoldable pub refusals : World → Name → ℕ → Regs → List (Bool × Refusal)
refusals w c job regs =
    refusals_before w c call.Overlay regs
    (giver_refusals w c job (link w c regs) (items_of w c call.Overlay regs))

-- the end of the call: a refusal changes nothing; else the items are taken over, and the answer is 0
abbrev pub ended : World → Name → ℕ → Regs → Option Refusal → Answer × World
ended w c job regs (Some refusal) = (Refused refusal, w)
ended w c job regs None =
    (Done (with_answer regs 0), base.overlay w c (link w c regs).0 job (items_of w c call.Overlay regs))

-- the call that takes over from a context what items name, for a job: the answer, and the world afterwards
unfoldable pub overlay : World → Name → ℕ → Regs → Answer × World
overlay w c job regs = ended w c job regs (first_refusal (refusals w c job regs))

-- the items may be taken over from a context through a capability
pub record MayTake (w : World) (c : Name) (job : ℕ) (l : Name × Cap) (items : List Item) : Type 0 where
  pub covered : covers w.size.pages l.1 items ≡ true
  pub group : needs_group w l.0 items ≡ true → groups_of w job < MOST_GROUPS_OF_JOB
  pub few : AreFew (ranges_after_overlay w c l.0 job items)

-- an accepted overlay: what items name is taken over from a live context, through a capability that covers it
pub record IsTaken (w v : World) (c : Name) (job : ℕ) (regs : Regs) : Type 0 where
  pub giver : Name
  pub cap : Cap
  pub had : slot_at w c (slice_index regs.r 1) ≡ Ctx giver cap
  pub live : is_live w giver ≡ true
  pub covered : covers w.size.pages cap (items_of w c call.Overlay regs) ≡ true
  pub spec : IsSpec w.size.pages (items_of w c call.Overlay regs)
  pub group : needs_group w giver (items_of w c call.Overlay regs) ≡ true →
      groups_of w job < MOST_GROUPS_OF_JOB
  pub made : v ≡ base.overlay w c giver job (items_of w c call.Overlay regs)

-- nothing has changed but what items name in one context, and which cells of another one are common
pub record LeavesRest (w v : World) (c d : Name) (items : List Item) : Type 0 where
  pub live : (e : Name) → is_live v e ≡ is_live w e
  pub size : v.size ≡ w.size
  pub unnamed : (k : Key) → mode items k ≡ None → value_at v c k ≡ value_at w c k
  pub others : (e : Name) (k : Key) → is_live w e ≡ true → e ≢ c → value_at v e k ≡ value_at w e k
  pub cells : (e : Name) (k : Key) → (e ≡ c → mode items k ≡ None) → (e ≡ d → mode items k ≢ Some Share) →
      (context v e).cell k ≡ (context w e).cell k
  pub rights : (e : Name) (p : ℕ) → (e ≡ c → mode items (Page p) ≡ None) → right_at v e p ≡ right_at w e p
  pub entries : (e : Name) → (context v e).entry ≡ (context w e).entry
  pub saved : (e : Name) (t : ℕ) → (context v e).saved t ≡ (context w e).saved t
