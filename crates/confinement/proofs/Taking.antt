-- What an overlay leaves in the context that it takes from.
use Rattle.std.proofs.Common.{◌≡◌, ◌≢◌, inl, inr, Option, None, Some, refl, ap, sym, subst, ◌∙◌}
use Rattle.std.specs.Prelude.{slice_index}
use Rattle.guest_call.proofs.Taken.{mode-taken}
use Rattle.lwc_base.proofs.Overlays.{overlay-copied_value, overlay-others, overlay-shared_value, overlay-unnamed}
use Rattle.lwc_base.specs.declared.item.Mode.{Mode}
use Rattle.lwc_base.specs.declared.item.Mode.TheVariants.{Copy, Share, Unmap, CopyRead}
use Rattle.lwc_base.specs.Cells.{value_at}
use Rattle.lwc_base.specs.Modes.{mode}
use Rattle.lwc_base.specs.Overlay.{IsOverlay}
use Rattle.lwc_base.specs.World.{World}
use Rattle.lwc_types.specs.declared.key.Key.{Key}
use Rattle.lwc_types.specs.declared.name.Name.{Name}
use Rattle.lwc_types.specs.declared.regs.Regs.{Regs}
use Rattle.lwc_overlay.specs.Named.{items_of}
use Rattle.res_spec.specs.declared.items.SpecCall.TheVariants.{Overlay}
use Rattle.confinement.proofs.Decide.{name_or_not}

-- an overlay has no item that leaves out
not_left_out : (w : World) (c : Name) (regs : Regs) (k : Key) → mode (items_of w c Overlay regs) k ≢ Some Unmap
not_left_out w c regs k is = let taken = mode-taken w c Overlay (slice_index regs.r 2) (slice_index regs.r 3) k Unmap is in cc

module _ (w v : World) (c d : Name) (regs : Regs) (is : IsOverlay w v c d (items_of w c Overlay regs)) where
  -- where a context takes over from itself, it reads the same too
  itself : (k : Key) → c ≡ d → (o : Option Mode) → mode (items_of w c Overlay regs) k ≡ o → value_at v c k ≡ value_at w c k
  itself k same None named = overlay-unnamed w v c d _ is k named
  itself k same (Some Copy) named = overlay-copied_value w v c d _ is k Copy named refl ∙ ap (λ (n : Name). value_at w n k) (sym same)
  itself k same (Some Share) named = overlay-shared_value w v c d _ is k named ∙ ap (λ (n : Name). value_at w n k) (sym same)
  itself k same (Some CopyRead) named = overlay-copied_value w v c d _ is k CopyRead named refl ∙ ap (λ (n : Name). value_at w n k) (sym same)
  itself k same (Some Unmap) named = absurd (not_left_out w c regs k named)

  pub giver_stays : (k : Key) → value_at v d k ≡ value_at w d k
  giver_stays k = elim (name_or_not c d) [
    | inl same ↦ subst (λ (n : Name). value_at v n k ≡ value_at w n k) same (itself k same (mode (items_of w c Overlay regs) k) refl)
    | inr differ ↦ overlay-others w v c d _ is d k is.giver (λ back. differ (sym back))
  ]
