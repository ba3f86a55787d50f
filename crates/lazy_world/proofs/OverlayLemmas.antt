-- A context that takes over from another one, or from itself.
use Rattle.std.proofs.Common.{◌≡◌, ℕ, refl, sym, ap, ◌∙◌, true, List, Option, Some, None}
use Rattle.std.specs.Prelude.{unwrap_or}
use Rattle.lwc_base.specs.declared.cell.Cell.{Cell}
use Rattle.lwc_base.specs.declared.item.Item.{Item}
use Rattle.lwc_base.specs.declared.item.Mode.{Mode}
use Rattle.lwc_base.specs.declared.item.Mode.TheVariants.{Copy}
use Rattle.lwc_base.specs.Keys.{ValueOf}
use Rattle.lwc_base.specs.Modes.{IsSpec, mode}
use Rattle.lwc_base.specs.Overlay.{overlaid_cell, overlaid_right, overlay, with_overlay}
use Rattle.lwc_base.specs.Sharing.{is_moved, share}
use Rattle.lwc_base.specs.World.{World, context, is_live}
use Rattle.lwc_types.specs.declared.key.Key.{Key}
use Rattle.lwc_types.specs.declared.key.Key.TheVariants.{Page}
use Rattle.lwc_types.specs.declared.name.Name.{Name}
use Rattle.lwc_types.specs.declared.right.Right.{Right}
use Rattle.lazy_world.specs.Followed.{followed, with_transferred}
use Rattle.lazy_world.specs.Transfers.{transferred_cell, transferred_right}
use Rattle.lazy_world.specs.declared.transfer.Transfer.TheVariants.{Overlay}
use Rattle.lazy_world.proofs.CloneLemmas.{right_taken, settled, taken-cloned}
use Rattle.lazy_world.proofs.FollowLemmas.{change-agree}

module _ (w : World) (d c : Name) (job : ℕ) (items : List Item) (spec : IsSpec w.size.pages items) (live : is_live w d ≡ true) where
  abbrev s : World
  s = share w d job items

  module _ (g : Name) where
    as_overlaid : (k : Key) (old : Cell (ValueOf k)) (o : Option Mode) → mode items k ≡ o → transferred_cell s (Overlay g) o k ((context s d).cell k) old ≡ overlaid_cell s d k o old
    as_overlaid k old None is = refl
    as_overlaid k old (Some n) is =
        taken-cloned w d job items spec live s g refl k n
        (ap (λ o. is_moved (unwrap_or o Copy) k ((context s d).cell k)) (sym is) ∙ settled w d job items spec live k)

    right_overlaid : (p : ℕ) (old : Right) (o : Option Mode) → transferred_right (Overlay g) o p ((context s d).cell (Page p)) ((context s d).right p) old ≡ overlaid_right s d p o old
    right_overlaid p old None = refl
    right_overlaid p old (Some n) = right_taken s d p n

    -- what a context takes over from one whose values have moved
    overlaid-world : followed s (Overlay g) items d c ≡ overlay w c d job items
    unfolding overlay
    overlaid-world =
        change-agree s c (with_transferred s (Overlay g) items (context s d)) (with_overlay s d items)
        (λ e. record (context s c) {
          cell = λ k. as_overlaid k ((context s c).cell k) (mode items k) refl e;
          right = λ p. right_overlaid p ((context s c).right p) (mode items (Page p)) e;
        })

    pub overlaid-is : (v : World) → v ≡ s → followed v (Overlay g) items d c ≡ overlay w c d job items
    overlaid-is v is = ap (λ u. followed u (Overlay g) items d c) is ∙ overlaid-world
