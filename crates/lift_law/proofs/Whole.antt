-- Worlds in which each capability is full or empty: what keeps them so.
use Rattle.std.proofs.Common.{◌≡◌, ◌∙◌, ◌⊎◌, refl, ℕ, Bool, true, false, List}
use Rattle.lwc_base.specs.Capabilities.{empty_cap, full_cap}
use Rattle.lwc_base.specs.Cells.{put_slot, put_uid, slot_at}
use Rattle.lwc_base.specs.Holders.{Keeps, Rules, everywhere}
use Rattle.lwc_base.specs.Keys.{ValueOf, nothing}
use Rattle.lwc_base.specs.Life.{reap}
use Rattle.lwc_base.specs.Mapping.{map_pages, mapped_or_not, unmap_pages}
use Rattle.lwc_base.specs.Overlay.{overlay}
use Rattle.lwc_base.specs.Saved.{save, with_saved}
use Rattle.lwc_base.specs.Sharing.{clone_context, share}
use Rattle.lwc_base.specs.Store.{Piece, after_store}
use Rattle.lwc_base.specs.World.{World, is_live}
use Rattle.lwc_base.specs.declared.descriptor.Descriptor.{Descriptor}
use Rattle.lwc_base.specs.declared.descriptor.Descriptor.TheVariants.{Ctx}
use Rattle.lwc_base.specs.declared.item.Item.{Item}
use Rattle.lwc_base.proofs.Holders.{in_clone, keeps-add_context, keeps-after_store, keeps-change_context, keeps-on_pages, keeps-put_at, keeps-share, keeps-with_overlay, lets-everywhere, may_have-free, value_at-keeps}
use Rattle.lwc_base.proofs.Reaps.{keeps-reap}
use Rattle.lwc_base.proofs.Sharing.{shares-share}
use Rattle.lwc_types.specs.declared.key.Key.{Key}
use Rattle.lwc_types.specs.declared.key.Key.TheVariants.{Page, Slot, Cred}
use Rattle.lwc_types.specs.declared.limits.TheConstants.{MOST_PAGES}
use Rattle.lwc_types.specs.declared.name.Name.{Name}
use Rattle.lwc_types.specs.declared.regs.Regs.{Regs}
use Rattle.lift_law.proofs.Wide.{wide_cap}

-- a descriptor's capability is full, with this number of pages, or empty
abbrev pub IsWhole : ℕ → Descriptor → Type 0
IsWhole pages (Ctx name cap) = (cap ≡ full_cap pages) ⊎ (cap ≡ empty_cap)
IsWhole pages _ = Unit {0}

abbrev pub IsWholeAt : ℕ → (k : Key) → ValueOf k → Type 0
IsWholeAt pages (Page p) value = Unit {0}
IsWholeAt pages (Slot n) value = IsWhole pages value
IsWholeAt pages Cred value = Unit {0}

abbrev pub whole : ℕ → Rules
whole pages = everywhere (λ k g. Unit {0}) (IsWholeAt pages)

module _ (pages : ℕ) where
  nothing_whole : (i : ℕ) (k : Key) → (whole pages).value i k (nothing k)
  nothing_whole i (Page p) = tt
  nothing_whole i (Slot n) = tt
  nothing_whole i Cred = tt

  module _ (w : World) (keeps : Keeps (whole pages) w) where
    pub whole-slot : (c : Name) (n : ℕ) (value : Descriptor) → IsWhole pages value → Keeps (whole pages) (put_slot w c n value)
    whole-slot c n value is = keeps-put_at (whole pages) w c (Slot n) value is (λ g _. is) keeps

    pub whole-uid : (c : Name) (uid : ℕ) → Keeps (whole pages) (put_uid w c uid)
    whole-uid c uid = keeps-put_at (whole pages) w c Cred uid tt (λ g _. tt) keeps

    pub whole-map : (c : Name) (from to : ℕ) (present : Bool) → Keeps (whole pages) (mapped_or_not w c from to present)
    unfolding map_pages unmap_pages
    whole-map c from to true = keeps-on_pages (whole pages) w c from to _ (λ p _. tt) keeps
    whole-map c from to false = keeps-on_pages (whole pages) w c from to _ (λ p _. tt) keeps

    pub whole-store : (c : Name) (job : ℕ) (piece : Piece) → Keeps (whole pages) (after_store w c job piece)
    whole-store c job piece = keeps-after_store (whole pages) w c job piece (may_have-free (whole pages) c.job (λ i p value. tt) _) keeps

    whole-share : (c : Name) (job : ℕ) (items : List Item) → is_live w c ≡ true → Keeps (whole pages) (share w c job items)
    whole-share c job items live = keeps-share (whole pages) w c job items live nothing_whole (lets-everywhere (λ k g. Unit {0}) (IsWholeAt pages) c.job job) keeps (λ k _. tt)

    pub whole-clone : (c : Name) (job : ℕ) (items : List Item) (entry : Regs) → is_live w c ≡ true → Keeps (whole pages) (clone_context w c job items entry)
    unfolding clone_context
    whole-clone c job items entry live =
        let s : World = share w c job items in
        let shared : Keeps (whole pages) s = whole-share c job items live in
        keeps-add_context (whole pages) s job _
        (in_clone (whole pages) s c job items ((shares-share w c job items).live c ∙ live) nothing_whole (lets-everywhere (λ k g. Unit {0}) (IsWholeAt pages) c.job job) shared entry (λ k g value e is. is)) shared

    pub whole-save : (c : Name) (t : ℕ) (regs : Regs) → Keeps (whole pages) (save w c t regs)
    unfolding save
    whole-save c t regs = keeps-change_context (whole pages) w c (with_saved t regs) (λ live. keeps.contexts c live) keeps

    pub whole-overlay : (c d : Name) (job : ℕ) (items : List Item) → is_live w d ≡ true → Keeps (whole pages) (overlay w c d job items)
    unfolding overlay
    whole-overlay c d job items live =
        keeps-with_overlay (whole pages) (share w d job items) c d items ((shares-share w d job items).live d ∙ live) nothing_whole
        (lets-everywhere (λ k g. Unit {0}) (IsWholeAt pages) d.job c.job) (λ k g value same is. is) (whole-share d job items live)

    pub whole-reap : (roots : List Name) → Keeps (whole pages) (reap w roots)
    whole-reap roots = keeps-reap w roots (whole pages) keeps

    pub whole-at : (c : Name) (n : ℕ) → is_live w c ≡ true → IsWhole pages (slot_at w c n)
    whole-at c n live = value_at-keeps (whole pages) w c live nothing_whole (λ k g value e is. is) keeps (Slot n)

-- a full capability becomes one of all pages, and an empty one stays
pub full-wide : (pages : ℕ) → wide_cap (full_cap pages) ≡ full_cap MOST_PAGES
unfolding full_cap
full-wide pages = refl

pub empty-wide_cap : wide_cap empty_cap ≡ empty_cap
unfolding empty_cap
empty-wide_cap = refl
