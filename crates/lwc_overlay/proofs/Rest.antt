-- What an overlay leaves as it was.
use Rattle.std.proofs.Common.{◌≡◌, ◌≢◌, ◌∙◌, inl, inr, ℕ, true, false, List, None, Some, ap, arith, refl, subst, sym}
use Rattle.lwc_base.specs.declared.item.Item.{Item}
use Rattle.lwc_base.specs.declared.item.Mode.TheVariants.{Share}
use Rattle.lwc_base.specs.Capabilities.{has_key}
use Rattle.lwc_base.specs.Cells.{value_at}
use Rattle.lwc_base.specs.Fresh.{IsFresh}
use Rattle.lwc_base.specs.Modes.{IsKey, mode}
use Rattle.lwc_base.specs.Sound.{HasItsGroups}
use Rattle.lwc_base.specs.Overlay.{IsOverlay, overlay, with_overlay}
use Rattle.lwc_base.specs.Sharing.{share}
use Rattle.lwc_base.specs.World.{World, Context, context, is_live}
use Rattle.lwc_types.specs.declared.key.Key.{Key}
use Rattle.lwc_types.specs.declared.name.Name.{Name}
use Rattle.lwc_types.specs.declared.regs.Regs.{Regs}
use Rattle.lwc_overlay.specs.Named.{items_of}
use Rattle.lwc_overlay.specs.OverlayCall.{IsTaken, LeavesRest}
use Rattle.res_spec.specs.declared.items.SpecCall.TheVariants.{Overlay}
use Rattle.lwc_base.proofs.Caps.{covers-all}
use Rattle.lwc_base.proofs.Facts.{changes}
use Rattle.lwc_base.proofs.ItemModes.{mode-shared}
use Rattle.lwc_base.proofs.Overlays.{overlay-others, overlay-unnamed}
use Rattle.lwc_base.proofs.Rights.{rights-share}
use Rattle.lwc_base.proofs.Sharing.{share-cell, share-entry, share-saved}
use Rattle.lwc_types.proofs.Orders.{cases_name}

module _ (w : World) (c d : Name) (job : ℕ) (items : List Item) (taker : is_live w c ≡ true) (giver : is_live w d ≡ true) where
  abbrev shared : World
  shared = share w d job items

  abbrev v : World
  v = overlay w c d job items

  -- what taking over leaves of a context
  left_by_overlay : {X : Type 0} (part : Context → X) (e : Name) → (e ≡ c → (x : Context) → part (with_overlay shared d items x) ≡ part x) →
      part (context v e) ≡ part (context shared e)
  left_by_overlay part e left =
      let overlaid = changes.overlaid w c d job items in
      let live = (changes.shared w d job items).live c ∙ taker in
      cases_name e c
      (λ same. let h = overlaid.changed live in let l = left same in grind (arith, l))
      (λ other. ap part (overlaid.others e other))

  -- what does not move is not shared
  unmoved : (e : Name) (k : Key) → (e ≡ d → mode items k ≢ Some Share) → (context shared e).cell k ≡ (context w e).cell k
  unmoved e k other = elim (share-cell w d job items e k) [
    | inl same ↦ same
    | inr moves ↦ absurd (other moves.0 (mode-shared items k moves.1))
  ]

  -- all that an overlay leaves
  pub leaves_rest : IsOverlay w (overlay w c d job items) c d items → LeavesRest w (overlay w c d job items) c d items
  leaves_rest made = record {
    live = λ e. (changes.overlaid w c d job items).names.live e ∙ (changes.shared w d job items).live e;
    size = (changes.overlaid w c d job items).names.size ∙ (changes.shared w d job items).size;
    unnamed = overlay-unnamed w _ c d items made;
    others = overlay-others w _ c d items made;
    cells = λ e k taken moved.
        left_by_overlay (λ x. x.cell k) e (λ same x. let none = taken same in grind arith)
        ∙ unmoved e k moved;
    rights = λ e p taken.
        left_by_overlay (λ x. x.right p) e (λ same x. let none = taken same in grind arith)
        ∙ ap (λ f. f p) (rights-share w d job items e);
    entries = λ e. left_by_overlay (λ x. x.entry) e (λ same x. refl) ∙ share-entry w d job items e;
    saved = λ e t. left_by_overlay (λ x. x.saved t) e (λ same x. refl) ∙ share-saved w d job items e t;
  }

-- so does an accepted one
pub taken_leaves : (w v : World) (c : Name) (job : ℕ) (regs : Regs) → IsFresh w → HasItsGroups w → is_live w c ≡ true → (taken : IsTaken w v c job regs) →
    LeavesRest w v c taken.giver (items_of w c Overlay regs)
taken_leaves w v c job regs fresh groups live taken =
    let items = items_of w c Overlay regs in
    let made : IsOverlay w (overlay w c taken.giver job items) c taken.giver items =
    record { job = job; fresh = fresh; groups = groups; taker = live; giver = taken.live; made = refl } in
    subst (λ v. LeavesRest w v c taken.giver items) (sym taken.made)
    (leaves_rest w c taken.giver job items live taken.live made)

-- which leaves the value under each key that the capability does not have
pub uncovered_leaves : (w v : World) (c : Name) (job : ℕ) (regs : Regs) → IsFresh w → HasItsGroups w → is_live w c ≡ true → (taken : IsTaken w v c job regs) →
    (k : Key) → IsKey w.size.pages k → has_key taken.cap k ≡ false → value_at v c k ≡ value_at w c k
uncovered_leaves w v c job regs fresh groups live taken k within lacks =
    let items = items_of w c Overlay regs in
    let had = (covers-all w.size.pages taken.cap items).0 taken.covered k within in
    let unnamed : mode items k ≡ None = elim (mode items k) as (λ m. mode items k ≡ m → m ≡ None) [
      | None ↦ λ none. refl
      | Some m ↦ λ some. let h = had (grind arith) in grind arith
    ] refl in
    (taken_leaves w v c job regs fresh groups live taken).unnamed k unnamed
