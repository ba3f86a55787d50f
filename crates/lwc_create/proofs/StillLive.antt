-- A context that lives still does once another has been made.
use Rattle.std.proofs.Common.{◌≡◌, ◌∙◌, ℕ, true, List, ap}
use Rattle.lwc_base.specs.declared.item.Item.{Item}
use Rattle.lwc_base.specs.Sharing.{clone_context, share}
use Rattle.lwc_base.specs.World.{World, is_live, next_context}
use Rattle.lwc_base.proofs.Facts.{changes}
use Rattle.lwc_types.specs.declared.name.Name.{Name}
use Rattle.lwc_types.specs.declared.regs.Regs.{Regs}
use Rattle.lwc_types.proofs.Orders.{cases_name}

module _ (w : World) (c : Name) (job : ℕ) (items : List Item) (entry : Regs) (q : Name) where
  -- a context still lives once another is made of one
  pub live_after_clone : is_live w q ≡ true → is_live (clone_context w c job items entry) q ≡ true
  live_after_clone live =
      let adds = changes.cloned w c job items entry in
      cases_name q (next_context (share w c job items) job)
      (λ same. ap (is_live (clone_context w c job items entry)) same ∙ adds.live)
      (λ other. adds.still_live q other ∙ (changes.shared w c job items).live q ∙ live)
