-- Calls that are not refused.
use Rattle.std.proofs.Common.{◌≡◌, ◌<◌, ◌++◌, ℕ, Bool, true, List, [], Option, Some, None, arith, refl, subst}
use Rattle.std.specs.Prelude.{slice_index}
use Rattle.guest_call.proofs.NotRefused.{rest_clear, spec_asked}
use Rattle.guest_call.specs.Asked.{item_refusals}
use Rattle.guest_call.specs.Guest.{descriptor_for, link_of, slot_refusals}
use Rattle.lwc_base.specs.declared.answer.Answer.{Answer}
use Rattle.lwc_base.specs.declared.answer.Answer.TheVariants.{Done, Refused}
use Rattle.lwc_base.specs.Capabilities.{covers}
use Rattle.lwc_base.specs.Life.{HasItsContexts}
use Rattle.lwc_base.specs.Refusals.{first_refusal}
use Rattle.lwc_base.specs.Sharing.{needs_group}
use Rattle.lwc_base.specs.World.{World, groups_of, is_live}
use Rattle.lwc_types.specs.declared.limits.TheConstants.{MOST_GROUPS_OF_JOB}
use Rattle.lwc_types.specs.declared.name.Name.{Name}
use Rattle.lwc_types.specs.declared.refusal.Refusal.{Refusal}
use Rattle.lwc_types.specs.declared.regs.Regs.{Regs}
use Rattle.lwc_overlay.specs.Named.{items_of, link}
use Rattle.lwc_overlay.specs.OverlayCall as overlaying
use Rattle.lwc_overlay.specs.OverlayCall.{IsTaken, overlay, giver_refusals}
use Rattle.lwc_overlay.specs.RestrictCall as restricting
use Rattle.lwc_overlay.specs.RestrictCall.{IsRestriction, restrict}
use Rattle.res_spec.specs.declared.items.SpecCall.TheVariants as call
use Rattle.guest_call.proofs.Targets.{in_slot, target_links}

-- where no row holds, the slot has a descriptor of a context, and no row of the items holds
named_link : (w : World) (c : Name) (regs : Regs) (rows : List (Bool × Refusal)) → first_refusal (slot_refusals w c (slice_index regs.r 1) ++ rows) ≡ None →
    (link_of (descriptor_for w c (slice_index regs.r 1)) ≡ Some (link w c regs)) × (first_refusal rows ≡ None)
unfolding slot_refusals link
named_link w c regs rows none = grind arith

-- where no row of the giver holds, its capability covers the items, and the job may have a group that they need
may_take : (w : World) (c : Name) (job : ℕ) (regs : Regs) → first_refusal (giver_refusals w c job (link w c regs) (items_of w c call.Overlay regs)) ≡ None →
    (covers w.size.pages (link w c regs).1 (items_of w c call.Overlay regs) ≡ true)
    × (needs_group w (link w c regs).0 (items_of w c call.Overlay regs) ≡ true → groups_of w job < MOST_GROUPS_OF_JOB)
unfolding giver_refusals
may_take w c job regs none = (grind arith, λ needs. grind arith)

module _ (w : World) (c : Name) (regs : Regs) where
  -- an answer is what a restriction is
  abbrev Restricts : Answer → World → Type 0
  Restricts (Done after) v = IsRestriction w v c regs
  Restricts (Refused refusal) v = Unit {0}

  -- the answer is so, by the first row that holds
  answered_restrict : (first : Option Refusal) → first_refusal (restricting.refusals w c regs) ≡ first → Restricts (restrict w c regs).0 (restrict w c regs).1
  unfolding restrict restricting.refusals
  answered_restrict (Some refusal) some = rw some tt
  answered_restrict None none =
      let named = named_link w c regs (item_refusals w c call.Restrict (slice_index regs.r 2) (slice_index regs.r 3) ++ []) none in
      let slot = in_slot w c (slice_index regs.r 1) (link w c regs) named.0 in
      rw none (record {
        giver = (link w c regs).0;
        cap = (link w c regs).1;
        within = slot.0;
        had = slot.1;
        spec = spec_asked w c call.Restrict (slice_index regs.r 2) (slice_index regs.r 3) [] named.1;
        made = refl;
      })

  -- an accepted restriction
  pub restriction : (v : World) (after : Regs) → restrict w c regs ≡ (Done after, v) → IsRestriction w v c regs
  restriction v after is = subst (λ (a : Answer × World). Restricts a.0 a.1) is (answered_restrict _ refl)

  module _ (job : ℕ) (whole : HasItsContexts w) (live : is_live w c ≡ true) where
    -- an answer is what an overlay is
    abbrev Takes : Answer → World → Type 0
    Takes (Done after) v = IsTaken w v c job regs
    Takes (Refused refusal) v = Unit {0}

    -- the answer is so, by the first row that holds
    answered_overlay : (first : Option Refusal) → first_refusal (overlaying.refusals w c job regs) ≡ first → Takes (overlay w c job regs).0 (overlay w c job regs).1
    unfolding overlay overlaying.refusals
    answered_overlay (Some refusal) some = rw some tt
    answered_overlay None none =
        let rows = giver_refusals w c job (link w c regs) (items_of w c call.Overlay regs) in
        let named = named_link w c regs (item_refusals w c call.Overlay (slice_index regs.r 2) (slice_index regs.r 3) ++ rows) none in
        let slot = in_slot w c (slice_index regs.r 1) (link w c regs) named.0 in
        let may = may_take w c job regs (rest_clear w c call.Overlay (slice_index regs.r 2) (slice_index regs.r 3) rows named.1) in
        rw none (record {
          giver = (link w c regs).0;
          cap = (link w c regs).1;
          had = slot.1;
          live = whole.live c (link w c regs).0 live (target_links w c (slice_index regs.r 1) (link w c regs) named.0);
          covered = may.0;
          spec = spec_asked w c call.Overlay (slice_index regs.r 2) (slice_index regs.r 3) rows named.1;
          group = may.1;
          made = refl;
        })

    -- an accepted overlay
    pub taken : (v : World) (after : Regs) → overlay w c job regs ≡ (Done after, v) → IsTaken w v c job regs
    taken v after is = subst (λ (a : Answer × World). Takes a.0 a.1) is (answered_overlay _ refl)
