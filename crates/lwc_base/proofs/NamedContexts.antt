-- Each context that a slot of a live context has a descriptor of is live, after each change.
use Rattle.std.proofs.Common.{rules, ◌≡◌, ◌⊎◌, ℕ, ◌<◌, ap, sym, ◌∙◌, true, List, Option, None, Some, arith}
use Rattle.lwc_base.specs.declared.descriptor.Descriptor.{Descriptor}
use Rattle.lwc_base.specs.declared.descriptor.Descriptor.TheVariants.{Empty}
use Rattle.lwc_base.specs.declared.item.Item.{Item}
use Rattle.lwc_base.specs.Cells.{put_slot, put_uid, slot_at}
use Rattle.lwc_base.specs.Facts.{KeepsNames}
use Rattle.lwc_base.specs.Fresh.{IsFresh}
use Rattle.lwc_base.specs.Life.{HasItsContexts, Link, is_of, reap}
use Rattle.lwc_base.specs.Mapping.{map_pages, unmap_pages, with_pages}
use Rattle.lwc_base.specs.Overlay.{overlay}
use Rattle.lwc_base.specs.Saved.{save}
use Rattle.lwc_base.specs.Sharing.{clone_context, share}
use Rattle.lwc_base.specs.Store.{Piece, after_store}
use Rattle.lwc_base.specs.World.{World, Group, change_context, is_live, next_context}
use Rattle.lwc_base.proofs.Common.{put-other_key, value_at-same}
use Rattle.lwc_base.proofs.Lookups.{changes-change_context}
use Rattle.lwc_base.proofs.Puts.{names-put_at, takes-after_store}
use Rattle.lwc_base.proofs.Reaped.{kept-by_way, links-were, live-was_live, way-of_kept}
use Rattle.lwc_base.proofs.Saving.{save-value, saves}
use Rattle.lwc_base.proofs.Sharing.{shares-share}
use Rattle.lwc_base.proofs.Slots.{adds-clone, linked_slot, put_slot-reads, slot_at-after_store, slot_at-clone, slot_at-new, slot_at-overlay, slot_links}
use Rattle.lwc_types.specs.declared.key.TheConstants.{SLOTS}
use Rattle.lwc_types.specs.declared.key.Key.TheVariants.{Slot, Cred}
use Rattle.lwc_types.specs.declared.name.Name.{Name}
use Rattle.lwc_types.specs.declared.page.PageValue.{PageValue}
use Rattle.lwc_types.specs.declared.page.PageValue.TheVariants.{Zero}
use Rattle.lwc_types.specs.declared.regs.Regs.{Regs}
use Rattle.lwc_types.proofs.Orders.{cases_name}

-- each context that a descriptor is of is live
abbrev pub IsOfLive : World → Descriptor → Type 0
IsOfLive w value = (d : Name) → is_of d value ≡ true → is_live w d ≡ true

pub named-live : (w : World) (c d : Name) (n : ℕ) → HasItsContexts w → is_live w c ≡ true → n < SLOTS → is_of d (slot_at w c n) ≡ true → is_live w d ≡ true
named-live w c d n has live within is = has.live c d live (slot_links w c d n within is)

names-overlay : (w : World) (c d : Name) (job : ℕ) (items : List Item) → KeepsNames (share w d job items) (overlay w c d job items)
unfolding overlay
names-overlay w c d job items = (changes-change_context (share w d job items) c _).names

one_of : (w : World) (value x y : Descriptor) → (value ≡ x) ⊎ ((value ≡ Empty) ⊎ (value ≡ y)) → IsOfLive w x → IsOfLive w y → IsOfLive w value
one_of w value x y reads of_x of_y d is = grind (arith, of_x d, of_y d)

-- the contexts stay where what was live is so still, and each slot's descriptor is of contexts that were live
contexts-by : (w v : World) → ((d : Name) → is_live w d ≡ true → is_live v d ≡ true) →
    ((c : Name) (n : ℕ) → is_live v c ≡ true → n < SLOTS → IsOfLive w (slot_at v c n)) → HasItsContexts v
contexts-by w v more slots = search (rules, linked_slot)

-- and where the same contexts are live, whose slots read as before
contexts-same : (w v : World) → ((d : Name) → is_live v d ≡ is_live w d) → ((c : Name) (n : ℕ) → slot_at v c n ≡ slot_at w c n) → HasItsContexts w → HasItsContexts v
contexts-same w v live same has = search (rules, linked_slot, slot_links)

pub contexts-after_store : (w : World) (c : Name) (job : ℕ) (piece : Piece) → HasItsContexts w → HasItsContexts (after_store w c job piece)
contexts-after_store w c job piece = contexts-same w _ (takes-after_store w c job piece).live (slot_at-after_store w c job piece)

pub contexts-save : (w : World) (c : Name) (t : ℕ) (regs : Regs) → HasItsContexts w → HasItsContexts (save w c t regs)
contexts-save w c t regs = contexts-same w _ (saves w c t regs).names.live (λ d n. save-value w c t regs d (Slot n))

-- pages of a context become zeros or absent, and its slots read as before
contexts-on_pages : (w : World) (c : Name) (from to : ℕ) (value : Option PageValue) → HasItsContexts w →
    HasItsContexts (change_context w c (with_pages from to value))
contexts-on_pages w c from to value =
    let changes = changes-change_context w c (with_pages from to value) in
    contexts-same w _ changes.names.live (λ d n. value_at-same _ w d (Slot n) (grind (arith, cases_name, changes.others d)) (λ g _. ap (λ (x : Group). x.value (Slot n)) (changes.groups g)))

pub contexts-map_pages : (w : World) (c : Name) (from to : ℕ) → HasItsContexts w → HasItsContexts (map_pages w c from to)
unfolding map_pages
contexts-map_pages w c from to = contexts-on_pages w c from to (Some Zero)

pub contexts-unmap_pages : (w : World) (c : Name) (from to : ℕ) → HasItsContexts w → HasItsContexts (unmap_pages w c from to)
unfolding unmap_pages
contexts-unmap_pages w c from to = contexts-on_pages w c from to None

pub contexts-put_uid : (w : World) (c : Name) (uid : ℕ) → HasItsContexts w → HasItsContexts (put_uid w c uid)
contexts-put_uid w c uid = contexts-same w _ (names-put_at w c Cred uid).live (λ d n. put-other_key w c Cred uid d (Slot n) (λ e. cc))

pub contexts-put_slot : (w : World) (c : Name) (n : ℕ) (value : Descriptor) → IsOfLive w value → HasItsContexts w → HasItsContexts (put_slot w c n value)
contexts-put_slot w c n value of_live has = search (rules, contexts-by, names-put_at, put_slot-reads, named-live)

pub contexts-clone : (w : World) (c : Name) (job : ℕ) (items : List Item) (entry : Regs) → IsFresh w → is_live w c ≡ true → HasItsContexts w →
    HasItsContexts (clone_context w c job items entry)
contexts-clone w c job items entry fresh live has =
    let shares = shares-share w c job items in
    let adds = adds-clone w c job items fresh entry in
    contexts-by w _ (λ d was. grind (arith, cases_name, adds, shares.live d))
    (λ a n lives within d is.
    let new = slot_at-new w c job items fresh entry n in
    let other = slot_at-clone w c job items fresh entry a n in
    let named = λ (b : Name). named-live w b d n has in
    cases_name a (next_context (share w c job items) job) (λ same. grind (arith, named c)) (λ old. grind (arith, named a, adds.still_live a, shares.live a)))

pub contexts-overlay : (w : World) (c d : Name) (job : ℕ) (items : List Item) → IsFresh w → is_live w c ≡ true → is_live w d ≡ true → HasItsContexts w →
    HasItsContexts (overlay w c d job items)
contexts-overlay w c d job items fresh live live_d has =
    let shares = shares-share w d job items in
    let names = names-overlay w c d job items in
    contexts-by w _ (λ e was. names.live e ∙ shares.live e ∙ was)
    (λ a n lives within. one_of w _ (slot_at w a n) (slot_at w d n) (slot_at-overlay w c d job items fresh live a n)
    (λ e. named-live w a e n has (sym (names.live a ∙ shares.live a) ∙ lives) within) (λ e. named-live w d e n has live_d within))

-- and what is reaped leaves nothing that a slot of a context that is left has a descriptor of
pub contexts-reap : (w : World) (roots : List Name) → HasItsContexts w → HasItsContexts (reap w roots)
contexts-reap w roots has = record {
  live = λ c d live link.
      let was = live-was_live w roots c live in
      let linked = links-were w roots c d live link in
      kept-by_way w roots d (has.live c d was linked) (Link c d (way-of_kept w roots c live) was linked);
}

-- what keeps the contexts that slots name
pub ruleset keep_contexts = (contexts-after_store, contexts-put_slot, contexts-clone, contexts-save, contexts-map_pages, contexts-unmap_pages, contexts-put_uid, contexts-overlay, contexts-reap, named-live)
