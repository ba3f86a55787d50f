-- What is changed in a world is the same change where there are more pages.
use Rattle.std.proofs.Common.{◌≡◌, ◌∙◌, ◌+◌, ◌≤◌, refl, ap, ℕ, Bool, true, false, cond, eqb, leb, ltb, not, ◌&&◌, Option, Some, None, List, [], ◌∷◌, length}
use Rattle.std.specs.Prelude.{count_by, unwrap_or}
use Rattle.std.specs.FinMap as fm
use Rattle.std.specs.Option.{option_map}
use Rattle.lwc_base.specs.Cells.{put_at, put_in, put_page, put_slot, put_uid, with_cell, with_value}
use Rattle.lwc_base.specs.Frames.{is_parting, used}
use Rattle.lwc_base.specs.Keys.{ValueOf, is_there, nothing, with_key}
use Rattle.lwc_base.specs.Mapping.{map_pages, mapped_or_not, on_pages, unmap_pages, with_zeros, without_pages}
use Rattle.lwc_base.specs.Memory.{is_present, touched}
use Rattle.lwc_base.specs.Modes.{mode, mode_or_copy}
use Rattle.lwc_base.specs.Overlay.{overlaid_cell, overlaid_right, overlay, ranges_after_overlay, with_overlay}
use Rattle.lwc_base.specs.Ranges.{ranges, ranges_of}
use Rattle.lwc_base.specs.Rights.{is_writable, read_right}
use Rattle.lwc_base.specs.Saved.{save, with_saved}
use Rattle.lwc_base.specs.Sharing.{clone_context, cloned_cell, cloned_context, cloned_right, is_moved, moved_value, moved_values, needs_group, ranges_after_clone, share, shared_cell, with_shared}
use Rattle.lwc_base.specs.Store.{Absent, Done, Full, Piece, ReadOnly, Stored, after_store, bytes_after, page_value_at, parting_count, put_pages, store, stored_pages, stored_value}
use Rattle.lwc_base.specs.World.{World, Context, Group, add_context, add_group, change_context, change_counters, change_group, changed_context, changed_group, context, next_context, next_group}
use Rattle.lwc_base.specs.declared.cell.Cell.{Cell}
use Rattle.lwc_base.specs.declared.cell.Cell.TheVariants.{Own, Common}
use Rattle.lwc_base.specs.declared.descriptor.Descriptor.{Descriptor}
use Rattle.lwc_base.specs.declared.item.Item.{Item}
use Rattle.lwc_base.specs.declared.item.Mode.{Mode}
use Rattle.lwc_base.specs.declared.item.Mode.TheVariants.{Copy, Share, Unmap, CopyRead}
use Rattle.lwc_types.specs.Names.{name_cmp}
use Rattle.lwc_types.specs.Pages.{bytes_of}
use Rattle.lwc_types.specs.declared.counters.Counters.{Counters}
use Rattle.lwc_types.specs.declared.key.Key.{Key}
use Rattle.lwc_types.specs.declared.key.Key.TheVariants.{Page, Slot, Cred}
use Rattle.lwc_types.specs.declared.limits.TheConstants.{MOST_PAGES}
use Rattle.lwc_types.specs.declared.name.Name.{Name}
use Rattle.lwc_types.specs.declared.page.PageValue.{PageValue}
use Rattle.lwc_types.specs.declared.page.PageValue.TheVariants.{Zero}
use Rattle.lwc_types.specs.declared.regs.Regs.{Regs}
use Rattle.lwc_types.specs.declared.right.Right.{Right}
use Rattle.lift_law.proofs.Counts.{needs-wide, parting-wide, ranges-context, ranges-wide, used-wide}
use Rattle.lift_law.proofs.Pages.{HasNoMore}
use Rattle.lift_law.proofs.Tables.{get-with, insert-with, with_values}
use Rattle.lift_law.proofs.Wide.{cell-wide, context-wide, has_page-wide, is_moved-wide, is_there-wide, page-wide, present-wide, right-wide, value-wide, wide, wide_cell, wide_context, wide_descriptor, wide_group, wide_value, writable-wide}

-- a change of a context that there is, or of none
module _ (w : World) (c : Name) (change wider : Context → Context) (same : (x : Context) → wider (wide_context x) ≡ wide_context (change x)) where
  found_context : (o : Option Context) → changed_context (wide w) c wider (option_map wide_context o) ≡ wide (changed_context w c change o)
  found_context None = refl
  found_context (Some x) =
      ap (λ m. record (wide w) { contexts = m }) (ap (fm.insert (with_values wide_context w.contexts) c) (same x) ∙ insert-with wide_context w.contexts c (change x))

  pub change_context-wide : change_context (wide w) c wider ≡ wide (change_context w c change)
  unfolding change_context
  change_context-wide = ap (changed_context (wide w) c wider) (get-with wide_context w.contexts c) ∙ found_context (fm.get w.contexts c)

module _ (w : World) (g : Name) (change wider : Group → Group) (same : (x : Group) → wider (wide_group x) ≡ wide_group (change x)) where
  found_group : (o : Option Group) → changed_group (wide w) g wider (option_map wide_group o) ≡ wide (changed_group w g change o)
  found_group None = refl
  found_group (Some x) =
      ap (λ m. record (wide w) { groups = m }) (ap (fm.insert (with_values wide_group w.groups) g) (same x) ∙ insert-with wide_group w.groups g (change x))

  pub change_group-wide : change_group (wide w) g wider ≡ wide (change_group w g change)
  unfolding change_group
  change_group-wide = ap (changed_group (wide w) g wider) (get-with wide_group w.groups g) ∙ found_group (fm.get w.groups g)

pub change_counters-wide : (w : World) (job : ℕ) (f : Counters → Counters) → change_counters (wide w) job f ≡ wide (change_counters w job f)
unfolding change_counters
change_counters-wide w job f = refl

pub add_context-wide : (w : World) (job : ℕ) (x y : Context) → y ≡ wide_context x → add_context (wide w) job y ≡ wide (add_context w job x)
unfolding add_context change_counters
add_context-wide w job x y same =
    ap (λ (m : fm.FinMap name_cmp Context). change_counters (record (wide w) { contexts = m }) job (λ n. record n { contexts = n.contexts + 1 }))
    (ap (fm.insert (with_values wide_context w.contexts) (next_context w job)) same ∙ insert-with wide_context w.contexts (next_context w job) x)

add_group-wide : (w : World) (job : ℕ) (x y : Group) → y ≡ wide_group x → add_group (wide w) job y ≡ wide (add_group w job x)
unfolding add_group change_counters
add_group-wide w job x y same =
    ap (λ (m : fm.FinMap name_cmp Group). change_counters (record (wide w) { groups = m }) job (λ n. record n { groups = n.groups + 1 }))
    (ap (fm.insert (with_values wide_group w.groups) (next_group w job)) same ∙ insert-with wide_group w.groups (next_group w job) x)

-- another cell under a key, and another value of a group
chosen_cell : (b : Bool) (k : Key) (new old : Cell (ValueOf k)) → cond b (wide_cell k new) (wide_cell k old) ≡ wide_cell k (cond b new old)
chosen_cell true k new old = refl
chosen_cell false k new old = refl

chosen_value : (b : Bool) (k : Key) (new old : ValueOf k) → cond b (wide_value k new) (wide_value k old) ≡ wide_value k (cond b new old)
chosen_value true k new old = refl
chosen_value false k new old = refl

with_key-cell : (k : Key) (new : Cell (ValueOf k)) (old : (q : Key) → Cell (ValueOf q)) (q : Key) →
    with_key Cell k (wide_cell k new) (λ r. wide_cell r (old r)) q ≡ wide_cell q (with_key Cell k new old q)
with_key-cell (Page p) new old (Page q) = chosen_cell (eqb q p) (Page q) new (old (Page q))
with_key-cell (Page p) new old (Slot m) = refl
with_key-cell (Page p) new old Cred = refl
with_key-cell (Slot n) new old (Page q) = refl
with_key-cell (Slot n) new old (Slot m) = chosen_cell (eqb m n) (Slot m) new (old (Slot m))
with_key-cell (Slot n) new old Cred = refl
with_key-cell Cred new old (Page q) = refl
with_key-cell Cred new old (Slot m) = refl
with_key-cell Cred new old Cred = refl

with_key-value : (k : Key) (new : ValueOf k) (old : (q : Key) → ValueOf q) (q : Key) →
    with_key (λ T. T) k (wide_value k new) (λ r. wide_value r (old r)) q ≡ wide_value q (with_key (λ T. T) k new old q)
with_key-value (Page p) new old (Page q) = chosen_value (eqb q p) (Page q) new (old (Page q))
with_key-value (Page p) new old (Slot m) = refl
with_key-value (Page p) new old Cred = refl
with_key-value (Slot n) new old (Page q) = refl
with_key-value (Slot n) new old (Slot m) = chosen_value (eqb m n) (Slot m) new (old (Slot m))
with_key-value (Slot n) new old Cred = refl
with_key-value Cred new old (Page q) = refl
with_key-value Cred new old (Slot m) = refl
with_key-value Cred new old Cred = refl

module _ (w : World) (c : Name) (k : Key) (value : ValueOf k) where
  put_in-wide : (cell : Cell (ValueOf k)) → put_in (wide w) c k (wide_value k value) (wide_cell k cell) ≡ wide (put_in w c k value cell)
  put_in-wide (Own old) =
      ap (λ b. cond b (change_context (wide w) c (with_cell k (Own (wide_value k value)))) (wide w)) (is_there-wide k old)
      ∙ by (is_there k old)
    where
      by : (b : Bool) → cond b (change_context (wide w) c (with_cell k (Own (wide_value k value)))) (wide w) ≡ wide (cond b (change_context w c (with_cell k (Own value))) w)
      by true = change_context-wide w c (with_cell k (Own value)) (with_cell k (Own (wide_value k value)))
          (λ x i. record x { cell = λ q. with_key-cell k (Own value) x.cell q i })
      by false = refl
  put_in-wide (Common g) = change_group-wide w g (with_value k value) (with_value k (wide_value k value)) (λ x i. record x { value = λ q. with_key-value k value x.value q i })

  pub put-wide : put_at (wide w) c k (wide_value k value) ≡ wide (put_at w c k value)
  unfolding put_at
  put-wide = ap (put_in (wide w) c k (wide_value k value)) (cell-wide w c k) ∙ put_in-wide ((context w c).cell k)

pub put_slot-wide : (w : World) (c : Name) (n : ℕ) (value : Descriptor) → put_slot (wide w) c n (wide_descriptor value) ≡ wide (put_slot w c n value)
put_slot-wide w c n value = put-wide w c (Slot n) value

pub put_uid-wide : (w : World) (c : Name) (uid : ℕ) → put_uid (wide w) c uid ≡ wide (put_uid w c uid)
put_uid-wide w c uid = put-wide w c Cred uid

-- pages that are mapped or unmapped
on_pages-wide : (from to : ℕ) (value : Option PageValue) (old : (k : Key) → Cell (ValueOf k)) (k : Key) →
    on_pages from to (Own value) (λ q. wide_cell q (old q)) k ≡ wide_cell k (on_pages from to (Own value) old k)
on_pages-wide from to value old (Page p) = chosen_cell (leb from p && ltb p to) (Page p) (Own value) (old (Page p))
on_pages-wide from to value old (Slot n) = refl
on_pages-wide from to value old Cred = refl

pub map-wide : (w : World) (c : Name) (from to : ℕ) (present : Bool) → mapped_or_not (wide w) c from to present ≡ wide (mapped_or_not w c from to present)
unfolding map_pages unmap_pages
map-wide w c from to true = change_context-wide w c (with_zeros from to) (with_zeros from to) (λ x i. record (with_zeros from to x) { cell = λ k. on_pages-wide from to (Some Zero) x.cell k i })
map-wide w c from to false = change_context-wide w c (without_pages from to) (without_pages from to) (λ x i. record (without_pages from to x) { cell = λ k. on_pages-wide from to None x.cell k i })

pub save-wide : (w : World) (c : Name) (t : ℕ) (regs : Regs) → save (wide w) c t regs ≡ wide (save w c t regs)
unfolding save
save-wide w c t regs = change_context-wide w c (with_saved t regs) (with_saved t regs) (λ x. refl)

-- bytes that are stored
put_pages-wide : (w : World) (c : Name) (values : List (ℕ × PageValue)) → put_pages (wide w) c values ≡ wide (put_pages w c values)
put_pages-wide w c [] = refl
put_pages-wide w c (v ∷ vs) = ap (λ u. put_pages u c vs) (put-wide w c (Page v.0) (Some v.1)) ∙ put_pages-wide (put_page w c v.0 v.1) c vs

-- the end of a store in a world with more pages
abbrev pub wide_stored : Stored → Stored
wide_stored Absent = Absent
wide_stored ReadOnly = ReadOnly
wide_stored Full = Full
wide_stored (Done v) = Done (wide v)

module _ (w : World) (ends : HasNoMore w) (c : Name) where
  page_value-wide : (p : ℕ) → page_value_at (wide w) c p ≡ page_value_at w c p
  page_value-wide p = ap (λ o. unwrap_or o Zero) (page-wide w c p)

  parts-wide : (p : ℕ) → is_parting (wide w) (page_value_at (wide w) c p) ≡ is_parting w (page_value_at w c p)
  parts-wide p = parting-wide w ends (page_value_at (wide w) c p) ∙ ap (is_parting w) (page_value-wide p)

  parting_count-wide : (piece : Piece) → parting_count (wide w) c piece ≡ parting_count w c piece
  unfolding parting_count
  parting_count-wide piece = λ i. count_by (λ p. parts-wide p i) (touched piece.at (length piece.bytes))

  stored_pages-wide : (job : ℕ) (piece : Piece) (k : ℕ) (ps : List ℕ) → stored_pages (wide w) c job piece k ps ≡ stored_pages w c job piece k ps
  stored_pages-wide job piece k [] = refl
  stored_pages-wide job piece k (p ∷ ps) =
      (λ i. (p, stored_value (parts-wide p i) (record { job = job; k = k }) (page_value-wide p i) (bytes_after piece p (bytes_of (page_value-wide p i))))
      ∷ stored_pages (wide w) c job piece (cond (parts-wide p i) (k + 1) k) ps)
      ∙ ap (λ vs. (p, stored_value (is_parting w (page_value_at w c p)) (record { job = job; k = k }) (page_value_at w c p) (bytes_after piece p (bytes_of (page_value_at w c p)))) ∷ vs)
      (stored_pages-wide job piece (cond (is_parting w (page_value_at w c p)) (k + 1) k) ps)

  after_store-wide : (job : ℕ) (piece : Piece) → after_store (wide w) c job piece ≡ wide (after_store w c job piece)
  unfolding after_store
  after_store-wide job piece =
      let ps : List ℕ = touched piece.at (length piece.bytes) in
      (λ i. change_counters (put_pages (wide w) c (stored_pages-wide job piece (w.next job).tags ps i)) job (λ n. record n { tags = n.tags + parting_count-wide piece i }))
      ∙ ap (λ u. change_counters u job (λ n. record n { tags = n.tags + parting_count w c piece })) (put_pages-wide w c (stored_pages w c job piece (w.next job).tags ps))
      ∙ change_counters-wide (put_pages w c (stored_pages w c job piece (w.next job).tags ps)) job (λ n. record n { tags = n.tags + parting_count w c piece })

  pub store-wide : (job : ℕ) (piece : Piece) → store (wide w) c job piece ≡ wide_stored (store w c job piece)
  unfolding store
  store-wide job piece =
      (λ i. cond (not (present-wide w c piece.at (length piece.bytes) i)) Absent
      (cond (not (writable-wide w c piece.at (length piece.bytes) i)) ReadOnly
      (cond (ltb w.size.frames (used-wide w ends i + parting_count-wide piece i)) Full (Done (after_store-wide job piece i)))))
      ∙ by (not (is_present w c piece.at (length piece.bytes))) (not (is_writable w c piece.at (length piece.bytes))) (ltb w.size.frames (used w + parting_count w c piece))
    where
      by : (a b d : Bool) → cond a Absent (cond b ReadOnly (cond d Full (Done (wide (after_store w c job piece)))))
          ≡ wide_stored (cond a Absent (cond b ReadOnly (cond d Full (Done (after_store w c job piece)))))
      by true b d = refl
      by false true d = refl
      by false false true = refl
      by false false false = refl

-- values that move into a group
moved_value-wide : (m : Mode) (k : Key) (cell : Cell (ValueOf k)) → moved_value m k (wide_cell k cell) ≡ wide_value k (moved_value m k cell)
moved_value-wide Copy (Page p) cell = refl
moved_value-wide Copy (Slot n) cell = refl
moved_value-wide Copy Cred cell = refl
moved_value-wide Share k (Own value) = refl
moved_value-wide Share (Page p) (Common g) = refl
moved_value-wide Share (Slot n) (Common g) = refl
moved_value-wide Share Cred (Common g) = refl
moved_value-wide Unmap (Page p) cell = refl
moved_value-wide Unmap (Slot n) cell = refl
moved_value-wide Unmap Cred cell = refl
moved_value-wide CopyRead (Page p) cell = refl
moved_value-wide CopyRead (Slot n) cell = refl
moved_value-wide CopyRead Cred cell = refl

moved_values-wide : (items : List Item) (x : Context) → moved_values items (wide_context x) ≡ wide_group (moved_values items x)
unfolding moved_values
moved_values-wide items x = λ i. record { value = λ k. moved_value-wide (mode_or_copy items k) k (x.cell k) i }

module _ (w : World) (ends : HasNoMore w) (c : Name) (job : ℕ) (items : List Item) where
  shared_cell-wide : (k : Key) (m : Mode) (cell : Cell (ValueOf k)) → shared_cell (next_group w job) m k (wide_cell k cell) ≡ wide_cell k (shared_cell (next_group w job) m k cell)
  shared_cell-wide k m cell =
      ap (λ b. cond b (Common (next_group w job)) (wide_cell k cell)) (is_moved-wide m k cell) ∙ chosen_cell (is_moved m k cell) k (Common (next_group w job)) cell

  shared_context-wide : (x : Context) → with_shared (next_group w job) items (wide_context x) ≡ wide_context (with_shared (next_group w job) items x)
  unfolding with_shared
  shared_context-wide x = λ i. record x { cell = λ k. shared_cell-wide k (mode_or_copy items k) (x.cell k) i }

  pub share-wide : share (wide w) c job items ≡ wide (share w c job items)
  unfolding share
  share-wide =
      (λ i. cond (needs-wide w ends c items i)
      (add_group (change_context-wide w c (with_shared (next_group w job) items) (with_shared (next_group w job) items) shared_context-wide i) job (moved_values items (context-wide w c i))) (wide w))
      ∙ by (needs_group w c items)
    where
      by : (b : Bool) → cond b (add_group (wide (change_context w c (with_shared (next_group w job) items))) job (moved_values items (wide_context (context w c)))) (wide w)
          ≡ wide (cond b (add_group (change_context w c (with_shared (next_group w job) items)) job (moved_values items (context w c))) w)
      by true = add_group-wide (change_context w c (with_shared (next_group w job) items)) job (moved_values items (context w c)) (moved_values items (wide_context (context w c)))
          (moved_values-wide items (context w c))
      by false = refl

-- what a clone gets of a context
module _ (w : World) (c : Name) where
  nothing-wide : (k : Key) → nothing k ≡ wide_value k (nothing k)
  nothing-wide (Page p) = refl
  nothing-wide (Slot n) = refl
  nothing-wide Cred = refl

  cloned_cell-wide : (k : Key) (m : Mode) → cloned_cell (wide w) c k m ≡ wide_cell k (cloned_cell w c k m)
  cloned_cell-wide k Copy = ap Own (value-wide w c k)
  cloned_cell-wide k Share = cell-wide w c k
  cloned_cell-wide k Unmap = ap Own (nothing-wide k)
  cloned_cell-wide k CopyRead = ap Own (value-wide w c k)

  cloned_right-wide : (p : ℕ) (m : Mode) → cloned_right (wide w) c p m ≡ cloned_right w c p m
  cloned_right-wide p Copy = right-wide w c p
  cloned_right-wide p Share = right-wide w c p
  cloned_right-wide p Unmap = refl
  cloned_right-wide p CopyRead = ap read_right (has_page-wide w c p)

  overlaid_cell-wide : (k : Key) (m : Option Mode) (cell : Cell (ValueOf k)) → overlaid_cell (wide w) c k m (wide_cell k cell) ≡ wide_cell k (overlaid_cell w c k m cell)
  overlaid_cell-wide k None cell = refl
  overlaid_cell-wide k (Some m) cell = cloned_cell-wide k m

  overlaid_right-wide : (p : ℕ) (m : Option Mode) (right : Right) → overlaid_right (wide w) c p m right ≡ overlaid_right w c p m right
  overlaid_right-wide p None right = refl
  overlaid_right-wide p (Some m) right = cloned_right-wide p m

  pub cloned-wide : (items : List Item) (entry : Regs) → cloned_context (wide w) c items entry ≡ wide_context (cloned_context w c items entry)
  unfolding cloned_context
  cloned-wide items entry = λ i. record {
    cell = λ k. cloned_cell-wide k (mode_or_copy items k) i;
    right = λ p. cloned_right-wide p (mode_or_copy items (Page p)) i;
    entry = entry;
    saved = λ t. None;
  }

  with_overlay-wide : (items : List Item) (x : Context) → with_overlay (wide w) c items (wide_context x) ≡ wide_context (with_overlay w c items x)
  with_overlay-wide items x = λ i. record x {
    cell = λ k. overlaid_cell-wide k (mode items k) (x.cell k) i;
    right = λ p. overlaid_right-wide p (mode items (Page p)) (x.right p) i;
  }

-- a clone and an overlay, and the ranges that they leave
module _ (w : World) (ends : HasNoMore w) (c : Name) (job : ℕ) (items : List Item) where
  pub clone-wide : (entry : Regs) → clone_context (wide w) c job items entry ≡ wide (clone_context w c job items entry)
  unfolding clone_context
  clone-wide entry =
      let s : World = share w c job items in
      ap (λ u. add_context u job (cloned_context u c items entry)) (share-wide w ends c job items)
      ∙ add_context-wide s job (cloned_context s c items entry) (cloned_context (wide s) c items entry) (cloned-wide s c items entry)

  pub overlay-wide : (d : Name) → overlay (wide w) d c job items ≡ wide (overlay w d c job items)
  unfolding overlay
  overlay-wide d =
      let s : World = share w c job items in
      ap (λ u. change_context u d (with_overlay u c items)) (share-wide w ends c job items)
      ∙ change_context-wide s d (with_overlay s c items) (with_overlay (wide s) c items) (with_overlay-wide s c items)

  module _ (shared_ends : HasNoMore (share w c job items)) where
    pub ranges_cloned-wide : ((entry : Regs) (p : ℕ) → (share w c job items).size.pages ≤ p → (cloned_context (share w c job items) c items entry).cell (Page p) ≡ Own None) →
        ranges_after_clone (wide w) c job items ≡ ranges_after_clone w c job items
    unfolding ranges_after_clone
    ranges_cloned-wide cloned_ends =
        let s : World = share w c job items in
        let entry : Regs = (context s c).entry in
        ap (λ u. (ranges_of u c, ranges u.size.pages (cloned_context u c items (context u c).entry))) (share-wide w ends c job items)
        ∙ (λ i. (ranges-wide s shared_ends c i, ranges MOST_PAGES (cloned_context (wide s) c items (context-wide s c i).entry)))
        ∙ (λ i. (ranges_of s c, ranges MOST_PAGES (cloned-wide s c items entry i)))
        ∙ (λ i. (ranges_of s c, ranges-context s.size.pages shared_ends.few (cloned_context s c items entry) (cloned_ends entry) i))

  pub ranges_overlaid-wide : (d : Name) → HasNoMore (overlay w d c job items) → ranges_after_overlay (wide w) d c job items ≡ ranges_after_overlay w d c job items
  unfolding ranges_after_overlay
  ranges_overlaid-wide d after_ends =
      let v : World = overlay w d c job items in
      ap (λ u. (ranges_of u c, ranges_of u d)) (overlay-wide d)
      ∙ (λ i. (ranges-wide v after_ends c i, ranges-wide v after_ends d i))
