-- What calls ask of two worlds that look alike to their job is answered alike, and what they name is of the job.
use Rattle.std.proofs.Common.{◌≡◌, ℕ, ◌*◌, refl, ap, Bool, true, false, cond, [], ◌∷◌}
use Rattle.std.specs.Prelude.{is_none, nat_lt, not, slice_index, unwrap_or}
use Rattle.guest_call.specs.Asked.{item_bytes, item_refusals, items_of}
use Rattle.guest_call.specs.Guest.{descriptor_for, link_of, slot_refusals}
use Rattle.lwc_base.specs.Capabilities.{empty_cap}
use Rattle.lwc_base.specs.Cells.{slot_at}
use Rattle.lwc_base.specs.Holders.{Keeps}
use Rattle.lwc_base.specs.Summaries.{is_empty}
use Rattle.lwc_base.specs.World.{World}
use Rattle.lwc_base.specs.declared.descriptor.Cap.{Cap}
use Rattle.lwc_base.specs.declared.descriptor.Descriptor.{Descriptor}
use Rattle.lwc_base.specs.declared.descriptor.Descriptor.TheVariants.{Empty, Console, File, Request, Reply, Ctx}
use Rattle.lwc_types.specs.declared.key.TheConstants.{SLOTS}
use Rattle.lwc_types.specs.declared.key.Key.TheVariants.{Slot}
use Rattle.lwc_types.specs.declared.limits.TheConstants.{MOST_ITEMS}
use Rattle.lwc_types.specs.declared.name.Name.{Name}
use Rattle.lwc_types.specs.declared.refusal.Refusal.TheVariants.{BadAddress, BadFd, BadMode, BadRange, Overlap, TooManyItems, WrongKind}
use Rattle.lwc_types.specs.declared.regs.Regs.{Regs}
use Rattle.lwc_syscall.specs.Plain.{read_on}
use Rattle.lwc_syscall.specs.Syscall.{link, targets_of}
use Rattle.res_spec.specs.Items.{all_taken, all_within, has_overlap, items_in}
use Rattle.res_spec.specs.declared.items.SpecCall.{SpecCall}
use Rattle.res_spec.specs.declared.items.TheConstants.{ITEM_BYTES}
use Rattle.world_views.proofs.Keeping.{value_at-in}
use Rattle.world_views.proofs.Together.{answers-alike}
use Rattle.world_views.specs.ByJob.{Home, IsSlotOf, LooksAlike, by_job}
use Rattle.world_views.specs.Ends.{AreOf}

-- the context that a descriptor names, with its capability, and else another one without a key
abbrev pub link_or : Name → Descriptor → Name × Cap
link_or c d = unwrap_or (link_of d) (c, empty_cap)

pub link_job : (job : ℕ) (c : Name) (d : Descriptor) → c.job ≡ job → IsSlotOf job d → (link_or c d).0.job ≡ job
link_job job c Empty own is = own
link_job job c Console own is = own
link_job job c (File file at) own is = own
link_job job c (Request r at) own is = own
link_job job c (Reply r) own is = own
link_job job c (Ctx name cap) own is = is

slot_or_empty : (job : ℕ) (b : Bool) (d : Descriptor) → IsSlotOf job d → IsSlotOf job (cond b d Empty)
slot_or_empty job true d is = is
slot_or_empty job false d is = tt

-- what a slot of a context has, is of its job
pub descriptor_fits : (home : Home) (c : Name) (w : World) → Keeps (by_job home) w → (n : ℕ) → IsSlotOf c.job (descriptor_for w c n)
unfolding descriptor_for
descriptor_fits home c w keeps n = slot_or_empty c.job (nat_lt n SLOTS) (slot_at w c n) (value_at-in home w keeps c (Slot n))

-- a descriptor through which more has been read is of the job still
pub read_fits : (job count : ℕ) (value : Descriptor) → IsSlotOf job value → IsSlotOf job (read_on count value)
read_fits job count Empty fits = fits
read_fits job count Console fits = fits
read_fits job count (File file at) fits = fits
read_fits job count (Request r at) fits = fits
read_fits job count (Reply r) fits = fits
read_fits job count (Ctx name cap) fits = fits

-- the contexts that a mask chooses are of the job
chosen_job : (job : ℕ) (b : Bool) (c d : Name) → c.job ≡ job → d.job ≡ job → (cond b d c).job ≡ job
chosen_job job true c d own is = is
chosen_job job false c d own is = own

pub three_own : (home : Home) (c : Name) (w : World) (regs : Regs) → Keeps (by_job home) w → AreOf c.job (targets_of w c regs)
three_own home c w regs keeps =
    let own : (link w c regs).0.job ≡ c.job = link_job c.job c (descriptor_for w c (slice_index regs.r 1)) refl (descriptor_fits home c w keeps (slice_index regs.r 1)) in
    record { memory = chosen_job _ _ _ _ refl own; slots = chosen_job _ _ _ _ refl own; cred = chosen_job _ _ _ _ refl own }

module _ (home : Home) (t s : ℕ) (c : Name) (w v : World) (alike : LooksAlike home c.job t s w v) where
  pub descriptor-alike : (n : ℕ) → descriptor_for w c n ≡ descriptor_for v c n
  unfolding descriptor_for
  descriptor-alike n = ap (λ d. cond (nat_lt n SLOTS) d Empty) ((answers-alike home t s c w v alike).value (Slot n))

  pub slot_refusals-alike : (n : ℕ) → slot_refusals w c n ≡ slot_refusals v c n
  unfolding slot_refusals
  slot_refusals-alike n = λ i. (is_empty (descriptor-alike n i), BadFd) ∷ (is_none (link_of (descriptor-alike n i)), WrongKind) ∷ []

  pub items-alike : (call : SpecCall) (at count : ℕ) → items_of w c call at count ≡ items_of v c call at count
  unfolding items_of item_bytes
  items-alike call at count = ap (λ o. items_in call (unwrap_or o [])) ((answers-alike home t s c w v alike).bytes at (count * ITEM_BYTES))

  pub item_refusals-alike : (call : SpecCall) (at count : ℕ) → item_refusals w c call at count ≡ item_refusals v c call at count
  unfolding item_refusals items_of item_bytes
  item_refusals-alike call at count =
      let bytes = (answers-alike home t s c w v alike).bytes at (count * ITEM_BYTES) in
      let pages = (answers-alike home t s c w v alike).pages in
      λ i.
      (nat_lt MOST_ITEMS count, TooManyItems)
      ∷ (is_none (bytes i), BadAddress)
      ∷ (not (all_taken call (unwrap_or (bytes i) [])), BadMode)
      ∷ (not (all_within (pages i) (items_in call (unwrap_or (bytes i) []))), BadRange)
      ∷ (has_overlap (items_in call (unwrap_or (bytes i) [])), Overlap)
      ∷ []
