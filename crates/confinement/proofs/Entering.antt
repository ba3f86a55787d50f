-- A thread that enters a context that was left alone goes on as it was made.
use Rattle.std.proofs.Common.{◌≡◌, ◌≢◌, inl, inr, ℕ, Some, ap, sym, subst, ◌∙◌}
use Rattle.std.specs.Prelude.{slice_index, unwrap_or}
use Rattle.kernel_core.specs.Machine.{Machine}
use Rattle.kernel_core.specs.Ready.{IsReady}
use Rattle.kernel_core.specs.Refused.{advanced_thread}
use Rattle.kernel_core.specs.Start.{Inputs}
use Rattle.kernel_core.specs.Step.{Outcome, guest_calls, switched}
use Rattle.kernel_core.specs.declared.calling.TheConstants.{LW_SWITCH}
use Rattle.kernel_core.specs.declared.thread.Thread.{Thread}
use Rattle.lwc_base.specs.declared.descriptor.Cap.{Cap}
use Rattle.lwc_base.specs.declared.descriptor.Descriptor.TheVariants.{Ctx, Empty}
use Rattle.lwc_base.specs.Capabilities.{empty_cap}
use Rattle.lwc_base.specs.Cells.{put_slot, slot_at}
use Rattle.lwc_base.specs.Saved.{entered, save}
use Rattle.lwc_base.specs.Rights.{right_at}
use Rattle.lwc_base.specs.Slots.{lowest_empty}
use Rattle.lwc_base.specs.World.{World, Context, context}
use Rattle.lwc_types.specs.declared.key.Key.{Key}
use Rattle.lwc_types.specs.declared.key.Key.TheVariants.{Slot}
use Rattle.lwc_types.specs.declared.name.Name.{Name}
use Rattle.lwc_types.specs.declared.regs.Regs.{Regs}
use Rattle.lwc_types.specs.declared.right.Right.{Right}
use Rattle.lwc_switch.specs.Switch.{arriving, going_on}
use Rattle.guest_call.specs.Changes.{ChangesKey}
use Rattle.guest_call.specs.Guest.{with_answer}
use Rattle.confinement.proofs.Confining.{empty_slot, enter_cell, put_there, shared_stays, target_is, went}
use Rattle.confinement.proofs.Steps.{Went}
use Rattle.confinement.specs.May.{IsGiven, MakesCall, regs_at, world_of}
use Rattle.confinement.specs.Snapshots.{IsAsMade, IsResumed}
use Rattle.guest_call.proofs.Changes.{putting}
use Rattle.lwc_base.proofs.Facts.{changes}

module _ (inputs : Inputs) (steps : ℕ) (m : Machine) (t : ℕ) (ready : IsReady inputs steps m) (made : World) (c : Name) (size : made.size ≡ (world_of m).size)
    (is : IsAsMade made (world_of m) c) (x : Thread) (cap : Cap) (calls : MakesCall m t x LW_SWITCH) (given : IsGiven m x c cap) (other : x.context ≢ c) where
  abbrev w : World
  w = world_of m

  abbrev regs : Regs
  regs = regs_at m x

  abbrev y : Thread
  y = advanced_thread m x

  abbrev outcome : Outcome
  outcome = guest_calls LW_SWITCH t m.environment y

  abbrev slot : ℕ
  slot = (went inputs steps m t ready x c cap calls given).3.slot

  abbrev to : Went m t x
  to = went inputs steps m t ready x c cap calls given

  there : to.0 ≡ c
  there = target_is inputs steps m t ready x c cap calls given

  saved : World
  saved = save w x.context t (with_answer regs 0)

  v : World
  v = put_slot saved c slot (Ctx x.context empty_cap)

  thread_is : outcome.thread ≡ record y { context = to.0; regs = to.1 }
  unfolding guest_calls
  thread_is = ap (switched y) to.2

  world_is : outcome.environment.world ≡ v
  unfolding v saved
  world_is = to.3.made ∙ ap (λ (n : Name). put_slot (save w x.context t (with_answer regs 0)) n slot (Ctx x.context empty_cap)) there

  -- the context that is entered is the one that was left alone
  kept : context saved c ≡ context w c
  unfolding saved
  kept = (changes.saved w x.context t (with_answer regs 0)).others c (λ same. other (sym same))

  enters_with : entered (context saved c) t ≡ (context made c).entry
  enters_with =
      ap (λ (z : Context). entered z t) kept
      ∙ (ap (λ o. unwrap_or o (context w c).entry) (is.saved t) ∙ is.entry)

  arrives : to.1 ≡ arriving (context made c).entry slot (slice_index regs.r 2)
  unfolding saved
  arrives =
      to.3.goes_on
      ∙ (ap (λ (n : Name). going_on w x.context t regs n slot) there
      ∙ ap (λ (z : Regs). arriving z slot (slice_index regs.r 2)) enters_with)

  cell_at : (k : Key) → k ≢ Slot slot → (context v c).cell k ≡ (context w c).cell k
  unfolding v saved
  cell_at k differ = elim (enter_cell inputs steps m t ready x c cap calls given c k) [
    | inl same ↦ same
    | inr at ↦ absurd (differ at.1)
  ]

  puts : ChangesKey saved v c (Slot slot)
  unfolding v
  puts = putting saved c (Slot slot) (Ctx x.context empty_cap)

  pub resumed : IsResumed made c m x outcome
  unfolding v saved
  resumed = record {
    slot = slot;
    within = to.3.within;
    shared = λ g common. ap (λ (u : World). (context u c).cell (Slot slot)) world_is
        ∙ shared_stays inputs steps m t ready x c cap calls given g (is.cells (Slot slot) to.3.within ∙ common);
    lowest = subst (λ (n : Name). lowest_empty w n ≡ Some slot) there to.3.lowest;
    empty = subst (λ (n : Name). slot_at w n slot ≡ Empty) there (empty_slot inputs steps m t ready (slot_at w to.0 slot) to.3.empty);
    there = ap (λ (z : Thread). z.context) thread_is ∙ there;
    regs = ap (λ (z : Thread). z.regs) thread_is ∙ arrives;
    cells = λ k key differ. ap (λ (u : World). (context u c).cell k) world_is ∙ (cell_at k differ ∙ is.cells k key);
    rights = λ p key. ap (λ (u : World). right_at u c p) world_is ∙ (ap (λ (f : ℕ → Right). f p) (puts.rights c) ∙ (ap (λ (z : Context). z.right p) kept ∙ is.rights p key));
    descriptor = ap (λ (u : World). slot_at u c slot) world_is ∙ put_there inputs steps m t ready x c cap calls given;
    entry = ap (λ (u : World). (context u c).entry) world_is ∙ (puts.entries c ∙ (ap (λ (z : Context). z.entry) kept ∙ is.entry));
    saved = λ s. ap (λ (u : World). (context u c).saved s) world_is ∙ (puts.saved c s ∙ (ap (λ (z : Context). z.saved s) kept ∙ is.saved s));
  }
