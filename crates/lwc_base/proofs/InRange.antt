-- Each descriptor in a world stays in range, after each change that puts none there that is not.
use Rattle.std.proofs.Common.{◌≡◌, ◌∙◌, ℕ, true, List, rules}
use Rattle.lwc_base.specs.declared.descriptor.Descriptor.{Descriptor}
use Rattle.lwc_base.specs.declared.item.Item.{Item}
use Rattle.lwc_base.specs.Cells.{put_slot, put_uid, slot_at}
use Rattle.lwc_base.specs.Channels.{Channels, HasItsFiles, IsInRange, IsInRangeAt, in_range}
use Rattle.lwc_base.specs.Holders.{Rules}
use Rattle.lwc_base.specs.Keys.{nothing}
use Rattle.lwc_base.specs.Life.{reap}
use Rattle.lwc_base.specs.Mapping.{map_pages, unmap_pages}
use Rattle.lwc_base.specs.Overlay.{overlay}
use Rattle.lwc_base.specs.Saved.{save, with_saved}
use Rattle.lwc_base.specs.Sharing.{clone_context, share}
use Rattle.lwc_base.specs.Store.{Piece, after_store}
use Rattle.lwc_base.specs.World.{World, add_context, empty_world, is_live, new_context, new_value}
use Rattle.lwc_base.proofs.Holders.{in_clone, keeps-add_context, keeps-after_store, keeps-change_context, keeps-empty_world, keeps-on_pages, keeps-put_at, keeps-share, keeps-with_overlay, lets-everywhere, may_have-free, value_at-keeps}
use Rattle.lwc_base.proofs.Reaps.{keeps-reap}
use Rattle.lwc_base.proofs.Sharing.{shares-share}
use Rattle.lwc_types.specs.declared.key.Key.{Key}
use Rattle.lwc_types.specs.declared.key.Key.TheVariants.{Slot, Cred}
use Rattle.lwc_types.specs.declared.name.Name.{Name}
use Rattle.lwc_types.specs.declared.regs.Regs.{Regs}
use Rattle.lwc_types.specs.declared.size.WorldSize.{WorldSize}

module _ (io : Channels) where
  abbrev rule : Rules
  rule = in_range io

  nothing_in_range : (k : Key) → IsInRangeAt io k (nothing k)
  nothing_in_range k = search rules

  new_in_range : (uid : ℕ) (k : Key) → IsInRangeAt io k (new_value uid k)
  new_in_range uid k = search rules

  pub files-empty_world : (size : WorldSize) → HasItsFiles io (empty_world size)
  files-empty_world size = keeps-empty_world rule size

  pub files-add_context : (w : World) (job uid : ℕ) (entry : Regs) → HasItsFiles io w → HasItsFiles io (add_context w job (new_context uid entry))
  files-add_context w job uid entry has = keeps-add_context rule w job (new_context uid entry) (new_in_range uid) has

  pub files-put_slot : (w : World) (c : Name) (n : ℕ) (value : Descriptor) → IsInRange io value → HasItsFiles io w →
      HasItsFiles io (put_slot w c n value)
  files-put_slot w c n value is has = keeps-put_at rule w c (Slot n) value is (λ g _. is) has

  pub files-put_uid : (w : World) (c : Name) (uid : ℕ) → HasItsFiles io w → HasItsFiles io (put_uid w c uid)
  files-put_uid w c uid has = keeps-put_at rule w c Cred uid tt (λ g _. tt) has

  pub files-map_pages : (w : World) (c : Name) (from to : ℕ) → HasItsFiles io w → HasItsFiles io (map_pages w c from to)
  unfolding map_pages
  files-map_pages w c from to has = keeps-on_pages rule w c from to _ (λ p _. tt) has

  pub files-unmap_pages : (w : World) (c : Name) (from to : ℕ) → HasItsFiles io w → HasItsFiles io (unmap_pages w c from to)
  unfolding unmap_pages
  files-unmap_pages w c from to has = keeps-on_pages rule w c from to _ (λ p _. tt) has

  pub files-after_store : (w : World) (c : Name) (job : ℕ) (piece : Piece) → HasItsFiles io w → HasItsFiles io (after_store w c job piece)
  files-after_store w c job piece has = keeps-after_store rule w c job piece (may_have-free rule c.job (λ i p value. tt) _) has

  pub files-share : (w : World) (c : Name) (job : ℕ) (items : List Item) → is_live w c ≡ true → HasItsFiles io w → HasItsFiles io (share w c job items)
  files-share w c job items live has = keeps-share rule w c job items live (λ i. nothing_in_range) (lets-everywhere _ _ c.job job) has (λ k _. tt)

  pub files-clone : (w : World) (c : Name) (job : ℕ) (items : List Item) (entry : Regs) → is_live w c ≡ true → HasItsFiles io w →
      HasItsFiles io (clone_context w c job items entry)
  unfolding clone_context
  files-clone w c job items entry live has =
      let s : World = share w c job items in
      let shared : HasItsFiles io s = files-share w c job items live has in
      keeps-add_context rule s job _
      (in_clone rule s c job items ((shares-share w c job items).live c ∙ live) (λ i. nothing_in_range) (lets-everywhere _ _ c.job job) shared entry (λ k g value _ is. is)) shared

  pub files-save : (w : World) (c : Name) (t : ℕ) (regs : Regs) → HasItsFiles io w → HasItsFiles io (save w c t regs)
  unfolding save
  files-save w c t regs has = keeps-change_context rule w c (with_saved t regs) (λ live. has.contexts c live) has

  pub files-overlay : (w : World) (c d : Name) (job : ℕ) (items : List Item) → is_live w d ≡ true → HasItsFiles io w →
      HasItsFiles io (overlay w c d job items)
  unfolding overlay
  files-overlay w c d job items live has =
      keeps-with_overlay rule (share w d job items) c d items ((shares-share w d job items).live d ∙ live) (λ i. nothing_in_range) (lets-everywhere _ _ d.job c.job) (λ k g value _ is. is)
      (files-share w d job items live has)

  pub files-reap : (w : World) (roots : List Name) → HasItsFiles io w → HasItsFiles io (reap w roots)
  files-reap w roots has = keeps-reap w roots rule has

  -- what a slot of a live context reads is in range
  pub files-slot_at : (w : World) (c : Name) (n : ℕ) → is_live w c ≡ true → HasItsFiles io w → IsInRange io (slot_at w c n)
  files-slot_at w c n live has = value_at-keeps rule w c live (λ i. nothing_in_range) (λ k g value _ is. is) has (Slot n)
