-- What a call over the contexts that a mask chooses does and keeps.
use Rattle.std.proofs.Common.{◌≡◌, ℕ, Bool, true, false, None, Some, ap, refl, subst, sym, arith}
use Rattle.std.proofs.lemmas.Bool.Decides.{nat_tests}
use Rattle.std.specs.Prelude.{if◌then◌else◌, slice_index}
use Rattle.access_cap.specs.Kinds.{is_chosen}
use Rattle.guest_call.specs.Guest.{descriptor_for, link_of, slot_refusals}
use Rattle.lwc_base.specs.Channels.{Channels, HasItsFiles}
use Rattle.lwc_base.specs.Jobs.{NamesKeepToJobs}
use Rattle.lwc_base.specs.Life.{HasItsContexts}
use Rattle.lwc_base.specs.Refusals.{first_refusal}
use Rattle.lwc_base.specs.Sound.{IsSound}
use Rattle.lwc_base.specs.World.{World, is_live}
use Rattle.lwc_types.specs.declared.key.Kind.{Kind}
use Rattle.lwc_types.specs.declared.key.Kind.TheVariants.{Page, Slot}
use Rattle.lwc_types.specs.declared.name.Name.{Name}
use Rattle.lwc_types.specs.declared.regs.Regs.{Regs}
use Rattle.lwc_syscall.specs.Changes.{IsPlainChange, IsWell, KeepsNumbers, Nothing}
use Rattle.lwc_syscall.specs.Plain.{Outcome, plain}
use Rattle.lwc_syscall.specs.Syscall.{IsAllowed, inner_args, inner_call, link, lw_syscall, mask_in, refusals, taken_from, targets_of}
use Rattle.lwc_syscall.proofs.Does.{does-one_thing, ended-cases}
use Rattle.guest_call.proofs.Targets.{target_links}
use Rattle.lwc_syscall.proofs.Kept.{inputs-change, numbers-change, well-change}

-- what is taken from two live contexts is taken from a live one
taken-live : (w : World) (c : Name) (regs : Regs) (kind : Kind) → is_live w c ≡ true → is_live w (link w c regs).0 ≡ true → is_live w (taken_from w c regs kind) ≡ true
taken-live w c regs kind live there =
    elim (is_chosen (mask_in regs) kind) as (λ (t : Bool). is_live w (if t then (link w c regs).0 else c) ≡ true) [
      | true ↦ there
      | false ↦ live
    ]

found-link : (w : World) (c : Name) (regs : Regs) → first_refusal (refusals w c regs) ≡ None → link_of (descriptor_for w c (slice_index regs.r 1)) ≡ Some (link w c regs)
unfolding refusals slot_refusals
found-link w c regs passed = grind arith

pub allowed : (w : World) (c : Name) (regs : Regs) →
    HasItsContexts w → is_live w c ≡ true → first_refusal (refusals w c regs) ≡ None → IsAllowed w c regs
unfolding refusals slot_refusals
allowed w c regs has live passed =
    let found = found-link w c regs passed in
    record {
      found = found;
      live = λ kind. taken-live w c regs kind live (has.live c (link w c regs).0 live (target_links w c (slice_index regs.r 1) (link w c regs) found));
      covered = grind arith;
      inner = grind (arith, nat_tests);
    }

module _ (w : World) (io : Channels) (c : Name) (job : ℕ) (regs : Regs) (named : HasItsContexts w) (files : HasItsFiles io w) (live : is_live w c ≡ true) where
  inner-does : IsAllowed w c regs → IsPlainChange w io (targets_of w c regs) job (plain w io (targets_of w c regs) job (inner_call regs) (inner_args regs)).world
      (plain w io (targets_of w c regs) job (inner_call regs) (inner_args regs)).io
  inner-does is = does-one_thing w io (targets_of w c regs) job (inner_call regs) (inner_args regs) named files (is.live Slot)

  -- what is so where nothing changes, and where the inner call does one thing, is so after the call
  over-cases : (P : Outcome → Type 0) → ((o : Outcome) → o.world ≡ w → o.io ≡ io → P o) →
      (IsAllowed w c regs → P (plain w io (targets_of w c regs) job (inner_call regs) (inner_args regs))) → P (lw_syscall w io c job regs)
  unfolding lw_syscall
  over-cases P same done =
      ended-cases P w io (refusals w c regs) (plain w io (targets_of w c regs) job (inner_call regs) (inner_args regs)) (λ refusal. same _ refl refl)
      (λ passed. done (allowed w c regs named live passed))

  pub numbers-over : KeepsNumbers w (lw_syscall w io c job regs).world
  numbers-over =
      over-cases (λ o. KeepsNumbers w o.world) (λ o same _. numbers-change w io (targets_of w c regs) job o.world io (subst (λ (v : World). IsPlainChange w io (targets_of w c regs) job v io) (sym same) Nothing))
      (λ is. numbers-change w io (targets_of w c regs) job _ _ (inner-does is))

  pub inputs-over : ((lw_syscall w io c job regs).io.files ≡ io.files) × ((lw_syscall w io c job regs).io.requests ≡ io.requests)
  inputs-over =
      over-cases (λ o. (o.io.files ≡ io.files) × (o.io.requests ≡ io.requests)) (λ o _ same. (ap (λ (x : Channels). x.files) same, ap (λ (x : Channels). x.requests) same))
      (λ is. inputs-change w io (targets_of w c regs) job _ _ (inner-does is))

  pub jobs-over : ((v : World) (after : Channels) → IsPlainChange w io (targets_of w c regs) job v after → NamesKeepToJobs w → NamesKeepToJobs v) → NamesKeepToJobs w →
      NamesKeepToJobs (lw_syscall w io c job regs).world
  jobs-over change keeps = over-cases (λ o. NamesKeepToJobs o.world) (λ o same _. subst NamesKeepToJobs (sym same) keeps) (λ is. change _ _ (inner-does is) keeps)

  pub well-over : IsSound w → IsWell (lw_syscall w io c job regs).world (lw_syscall w io c job regs).io
  well-over sound =
      let well : IsWell w io = record { sound = sound; named = named; files = files } in
      over-cases (λ o. IsWell o.world o.io) (λ o same one. rw (same, one) well)
      (λ is. well-change w io (targets_of w c regs) job _ _ (inner-does is) (is.live Page) well)
