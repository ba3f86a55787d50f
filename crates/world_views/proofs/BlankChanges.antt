-- A change of another context is the same change where one context is blank.
use Rattle.std.proofs.Common.{◌≡◌, ◌≢◌, inl, inr, ℕ, ◌+◌, refl, sym, ap, subst, ◌∙◌, Bool, true, false, cond, eqb, ltb, ◌||◌, ◌&&◌, Option, Some, None, List, [], ◌∷◌, length}
use Rattle.std.specs.Prelude.{count_by, nat_le, nat_lt, not, unwrap_or}
use Rattle.std.specs.Option.{option_map}
use Rattle.std.specs.Ordering.{eq_by_cmp}
use Rattle.std.specs.FinMap as fm
use Rattle.lwc_base.specs.declared.descriptor.Descriptor.{Descriptor}
use Rattle.lwc_base.specs.Cells.{put_at, put_in, put_page, put_slot, put_uid, with_cell, with_value}
use Rattle.lwc_base.specs.Frames.{is_parting, used}
use Rattle.lwc_base.specs.Keys.{ValueOf, is_there, with_key}
use Rattle.lwc_base.specs.Mapping.{map_pages, mapped_or_not, on_pages, unmap_pages, with_pages, with_zeros, without_pages, writable_in}
use Rattle.lwc_base.specs.Memory.{is_present, touched}
use Rattle.lwc_base.specs.Modes.{mode, mode_or_copy}
use Rattle.std.specs.List.{list_any, range_with_len}
use Rattle.lwc_base.specs.Overlay.{overlaid_cell, overlaid_right, overlay, ranges_after_overlay, with_overlay}
use Rattle.lwc_base.specs.Ranges.{has_page, ranges, ranges_of}
use Rattle.lwc_base.specs.Rights.{is_writable, read_right, right_at}
use Rattle.lwc_base.specs.Saved.{save, with_saved}
use Rattle.lwc_base.specs.Sharing.{clone_context, cloned_cell, cloned_context, cloned_right, moved_values, any_key, needs_group, ranges_after_clone, share, with_shared}
use Rattle.lwc_base.specs.Store.{Absent, Done, Full, Piece, ReadOnly, after_store, bytes_after, page_value_at, parting_count, put_pages, store, stored_pages, stored_value}
use Rattle.lwc_base.specs.World.{World, Context, Group, add_context, add_group, change_context, change_counters, change_group, changed_context, changed_group, context, next_context, next_group}
use Rattle.lwc_base.specs.declared.cell.Cell.{Cell}
use Rattle.lwc_base.specs.declared.cell.Cell.TheVariants.{Own, Common}
use Rattle.lwc_base.specs.declared.item.Item.{Item}
use Rattle.lwc_base.specs.declared.item.Mode.{Mode}
use Rattle.lwc_base.specs.declared.item.Mode.TheVariants.{Copy, Share, Unmap, CopyRead}
use Rattle.lwc_base.proofs.Clones.{next_context-share}
use Rattle.lwc_types.specs.Names.{name_cmp}
use Rattle.lwc_types.specs.Pages.{bytes_of}
use Rattle.lwc_types.specs.declared.counters.Counters.{Counters}
use Rattle.lwc_types.specs.declared.key.Key.{Key}
use Rattle.lwc_types.specs.declared.key.Key.TheVariants.{Cred, Page, Slot}
use Rattle.lwc_types.specs.declared.name.Name.{Name}
use Rattle.lwc_types.specs.declared.page.PageValue.{PageValue}
use Rattle.lwc_types.specs.declared.page.PageValue.TheVariants.{Zero}
use Rattle.lwc_types.specs.declared.regs.Regs.{Regs}
use Rattle.lwc_types.specs.declared.right.Right.{Right}
use Rattle.lwc_types.proofs.Orders.{name_cmp-IsAntisymmetric, name_cmp-total, same_name}
use Rattle.world_views.proofs.JobTables.{changed_entry, get-changed_entry}
use Rattle.world_views.proofs.BlankCounts.{keys-blank, groups_of-blank, live_of-blank, parting-blank, reap-blank, used-blank}
use Rattle.world_views.proofs.BlankAsked.{enters-blank, slot_cell-blank, uid-blank, uid_cell-blank, bytes-blank, cell-blank, context-blank, get-blank, live-blank, lowest-blank, needs-blank, present-blank, ranges-blank, slot-blank, summary-blank, value-blank, writable-blank}
use Rattle.world_views.specs.Blank.{blank, blank_cell, blank_context, blank_contexts, blank_page, blank_stored}
use Rattle.world_views.specs.BlankFacts.{AsksAlike, BlanksAlike, ChangesAlike, TakesNothingOf}

-- two changes of one entry, in either order, where they commute if they are of the same name
either_order : {X : Type 0} (f g : X → X) (s t : Bool) (o : Option X) → (s ≡ true → t ≡ true → (x : X) → g (f x) ≡ f (g x)) →
    cond t (option_map g (cond s (option_map f o) o)) (cond s (option_map f o) o) ≡ cond s (option_map f (cond t (option_map g o) o)) (cond t (option_map g o) o)
either_order f g true true None same = refl
either_order f g true true (Some x) same = ap Some (same refl refl x)
either_order f g true false o same = refl
either_order f g false true o same = refl
either_order f g false false o same = refl

put_or_change : {X : Type 0} (f : X → X) (s t : Bool) (x : X) (o : Option X) → (s ≡ true → t ≡ true → ⊥) →
    cond t (Some x) (cond s (option_map f o) o) ≡ cond s (option_map f (cond t (Some x) o)) (cond t (Some x) o)
put_or_change f true true x o apart = absurd (apart refl refl)
put_or_change f true false x o apart = refl
put_or_change f false true x o apart = refl
put_or_change f false false x o apart = refl

none_any : {X : Type 0} (xs : List X) → list_any (λ x. false) xs ≡ false
none_any [] = refl
none_any (x ∷ xs) = none_any xs

-- no item moves a value
needs-none : (u : World) (d : Name) → needs_group u d [] ≡ false
unfolding needs_group any_key mode_or_copy mode
needs-none u d = ap (λ b. (b || false) || false) (none_any (range_with_len 0 u.size.pages))

share-none : (u : World) (d : Name) (job : ℕ) → share u d job [] ≡ u
unfolding share
share-none u d job = ap (λ b. cond b (add_group (change_context u d (with_shared (next_group u job) [])) job (moved_values [] (context u d))) u) (needs-none u d)

module _ (keep : Bool) (v : Name) where
  -- a name that is not the blank one's does not tie with what ties with it
  apart : (c : Name) → c ≢ v → (q : Name) → eq_by_cmp name_cmp q v ≡ true → eq_by_cmp name_cmp q c ≡ true → ⊥
  apart c outside q one two = outside (sym (same_name q c two) ∙ same_name q v one)

  changed_as : (w : World) (c : Name) (f : Context → Context) (o : Option Context) →
      changed_context w c f o ≡ record w { contexts = changed_entry w.contexts c f o }
  changed_as w c f None = refl
  changed_as w c f (Some x) = refl

  abbrev once : Name → (Context → Context) → fm.FinMap name_cmp Context → fm.FinMap name_cmp Context
  once c f m = changed_entry m c f (fm.get m c)

  change_any-blank : (w : World) (c : Name) (f : Context → Context) → (c ≡ v → (x : Context) → f (blank_context keep x) ≡ blank_context keep (f x)) →
      change_context (blank keep v w) c f ≡ blank keep v (change_context w c f)
  unfolding change_context
  change_any-blank w c f commutes =
      changed_as (blank keep v w) c f (fm.get (blank_contexts keep v w.contexts) c)
      ∙ (λ i. record w { contexts = tables i })
      ∙ ap (blank keep v) (sym (changed_as w c f (fm.get w.contexts c)))
    where
      tables : once c f (blank_contexts keep v w.contexts) ≡ blank_contexts keep v (once c f w.contexts)
      tables = fm.same_map name_cmp-total name_cmp-IsAntisymmetric _ _ (λ q.
          get-changed_entry (blank_contexts keep v w.contexts) c f q
          ∙ ap (λ o. cond (eq_by_cmp name_cmp q c) (option_map f o) o) (get-blank keep v w.contexts q)
          ∙ either_order (blank_context keep) f (eq_by_cmp name_cmp q v) (eq_by_cmp name_cmp q c) (fm.get w.contexts q) (λ one two. commutes (sym (same_name q c two) ∙ same_name q v one))
          ∙ ap (λ o. cond (eq_by_cmp name_cmp q v) (option_map (blank_context keep) o) o) (sym (get-changed_entry w.contexts c f q))
          ∙ sym (get-blank keep v (once c f w.contexts) q))

  pub change_context-blank : (w : World) (c : Name) (f : Context → Context) → c ≢ v → change_context (blank keep v w) c f ≡ blank keep v (change_context w c f)
  change_context-blank w c f outside = change_any-blank w c f (λ is. absurd (outside is))

  change_group-blank : (w : World) (g : Name) (f : Group → Group) → change_group (blank keep v w) g f ≡ blank keep v (change_group w g f)
  unfolding change_group
  change_group-blank w g f = by (fm.get w.groups g)
    where
      by : (o : Option Group) → changed_group (blank keep v w) g f o ≡ blank keep v (changed_group w g f o)
      by None = refl
      by (Some x) = refl

  change_counters-blank : (w : World) (job : ℕ) (f : Counters → Counters) → change_counters (blank keep v w) job f ≡ blank keep v (change_counters w job f)
  unfolding change_counters
  change_counters-blank w job f = refl

  add_group-blank : (w : World) (job : ℕ) (x : Group) → add_group (blank keep v w) job x ≡ blank keep v (add_group w job x)
  unfolding add_group change_counters
  add_group-blank w job x = refl

  pub add_context-blank : (w : World) (job : ℕ) (x : Context) → next_context w job ≢ v → add_context (blank keep v w) job x ≡ blank keep v (add_context w job x)
  unfolding add_context change_counters
  add_context-blank w job x some =
      let new : Name = next_context w job in
      let tables : fm.insert (blank_contexts keep v w.contexts) new x ≡ blank_contexts keep v (fm.insert w.contexts new x) =
      fm.same_map name_cmp-total name_cmp-IsAntisymmetric _ _ (λ q.
      fm.get-insert name_cmp-total (blank_contexts keep v w.contexts) new x q
      ∙ ap (cond (eq_by_cmp name_cmp q new) (Some x)) (get-blank keep v w.contexts q)
      ∙ put_or_change (blank_context keep) (eq_by_cmp name_cmp q v) (eq_by_cmp name_cmp q new) x (fm.get w.contexts q) (apart new some q)
      ∙ ap (λ o. cond (eq_by_cmp name_cmp q v) (option_map (blank_context keep) o) o) (sym (fm.get-insert name_cmp-total w.contexts new x q))
      ∙ sym (get-blank keep v (fm.insert w.contexts new x) q)) in
      ap (λ (m : fm.FinMap name_cmp Context). change_counters (record w { contexts = m }) job (λ n. record n { contexts = n.contexts + 1 })) tables

  -- a put under a slot, of the blank context too
  slot_commutes : (n : ℕ) (value : Descriptor) (x : Context) → with_cell (Slot n) (Own value) (blank_context keep x) ≡ blank_context keep (with_cell (Slot n) (Own value) x)
  unfolding blank_context
  slot_commutes n value x = λ i. record x { cell = λ k. at k i; saved = λ t. cond keep (x.saved t) None }
    where
      either : (b : Bool) (cell : Cell Descriptor) (m : ℕ) → cond b (Own value) (blank_cell (Slot m) cell) ≡ blank_cell (Slot m) (cond b (Own value) cell)
      either true cell m = refl
      either false cell m = refl

      at : (k : Key) → with_key Cell (Slot n) (Own value) (λ q. blank_cell q (x.cell q)) k ≡ blank_cell k (with_key Cell (Slot n) (Own value) x.cell k)
      at (Page p) = refl
      at (Slot m) = either (eqb m n) (x.cell (Slot m)) m
      at Cred = refl

  pub put_slot-blank : (w : World) (c : Name) (n : ℕ) (value : Descriptor) → put_slot (blank keep v w) c n value ≡ blank keep v (put_slot w c n value)
  unfolding put_at
  put_slot-blank w c n value = ap (put_in (blank keep v w) c (Slot n) value) (slot_cell-blank keep v w c n) ∙ by ((context w c).cell (Slot n))
    where
      by : (cell : Cell Descriptor) → put_in (blank keep v w) c (Slot n) value cell ≡ blank keep v (put_in w c (Slot n) value cell)
      by (Own old) = change_any-blank w c (with_cell (Slot n) (Own value)) (λ is x. slot_commutes n value x)
      by (Common g) = change_group-blank w g (with_value (Slot n) value)

  -- so is another uid
  uid_commutes : (uid : ℕ) (x : Context) → with_cell Cred (Own uid) (blank_context keep x) ≡ blank_context keep (with_cell Cred (Own uid) x)
  unfolding blank_context
  uid_commutes uid x = λ i. record x { cell = λ k. at k i; saved = λ t. cond keep (x.saved t) None }
    where
      at : (k : Key) → with_key Cell Cred (Own uid) (λ q. blank_cell q (x.cell q)) k ≡ blank_cell k (with_key Cell Cred (Own uid) x.cell k)
      at (Page p) = refl
      at (Slot m) = refl
      at Cred = refl

  pub put_uid-blank : (w : World) (c : Name) (uid : ℕ) → put_uid (blank keep v w) c uid ≡ blank keep v (put_uid w c uid)
  unfolding put_at
  put_uid-blank w c uid = ap (put_in (blank keep v w) c Cred uid) (uid_cell-blank keep v w c) ∙ by ((context w c).cell Cred)
    where
      by : (cell : Cell ℕ) → put_in (blank keep v w) c Cred uid cell ≡ blank keep v (put_in w c Cred uid cell)
      by (Own old) = change_any-blank w c (with_cell Cred (Own uid)) (λ is x. uid_commutes uid x)
      by (Common g) = change_group-blank w g (with_value Cred uid)

  -- and so is a range of pages that become zeros, or absent
  pages_commute : (from to : ℕ) (value : Option PageValue) → blank_page value ≡ value → (x : Context) → with_pages from to value (blank_context keep x) ≡ blank_context keep (with_pages from to value x)
  unfolding blank_context
  pages_commute from to value bare x = λ i. record x {
    cell = λ k. at k i;
    right = writable_in from to x.right;
    saved = λ t. cond keep (x.saved t) None;
  }
    where
      either : (b : Bool) (p : ℕ) (cell : Cell (Option PageValue)) → cond b (Own value) (blank_cell (Page p) cell) ≡ blank_cell (Page p) (cond b (Own value) cell)
      either true p cell = ap Own (sym bare)
      either false p cell = refl

      at : (k : Key) → on_pages from to (Own value) (λ q. blank_cell q (x.cell q)) k ≡ blank_cell k (on_pages from to (Own value) x.cell k)
      at (Page p) = either (nat_le from p && nat_lt p to) p (x.cell (Page p))
      at (Slot m) = refl
      at Cred = refl

  pub map-blank : (w : World) (c : Name) (from to : ℕ) (present : Bool) → mapped_or_not (blank keep v w) c from to present ≡ blank keep v (mapped_or_not w c from to present)
  unfolding map_pages unmap_pages
  map-blank w c from to true = change_any-blank w c (with_zeros from to) (λ is x. pages_commute from to (Some Zero) refl x)
  map-blank w c from to false = change_any-blank w c (without_pages from to) (λ is x. pages_commute from to None refl x)

  -- registers that a context keeps for a thread make no difference where it is blank and keeps none
  pub forgets-blank : (w : World) (t : ℕ) (regs : Regs) → keep ≡ false → blank keep v (save w v t regs) ≡ blank keep v w
  unfolding save change_context blank_context
  forgets-blank w t regs none =
      ap (blank keep v) (changed_as w v (with_saved t regs) (fm.get w.contexts v))
      ∙ ap (λ (m : fm.FinMap name_cmp Context). record w { contexts = m }) (fm.same_map name_cmp-total name_cmp-IsAntisymmetric _ _ (λ q.
      get-blank keep v (once v (with_saved t regs) w.contexts) q
      ∙ ap (λ o. cond (eq_by_cmp name_cmp q v) (option_map (blank_context keep) o) o) (get-changed_entry w.contexts v (with_saved t regs) q)
      ∙ by (eq_by_cmp name_cmp q v) (fm.get w.contexts q)
      ∙ sym (get-blank keep v w.contexts q)))
    where
      same : (b : Bool) (x : Context) → b ≡ false → blank_context b (with_saved t regs x) ≡ blank_context b x
      same true x is = absurd cc
      same false x is = refl

      by : (b : Bool) (o : Option Context) → cond b (option_map (blank_context keep) (cond b (option_map (with_saved t regs) o) o)) (cond b (option_map (with_saved t regs) o) o)
          ≡ cond b (option_map (blank_context keep) o) o
      by true None = refl
      by true (Some x) = ap Some (same keep x none)
      by false o = refl

  -- another context in its place
  pub insert-blank : (w : World) (x : Context) → blank keep v (record w { contexts = fm.insert w.contexts v x }) ≡ record w { contexts = fm.insert w.contexts v (blank_context keep x) }
  insert-blank w x = ap (λ (m : fm.FinMap name_cmp Context). record w { contexts = m }) (fm.same_map name_cmp-total name_cmp-IsAntisymmetric _ _ (λ q.
      get-blank keep v (fm.insert w.contexts v x) q
      ∙ ap (λ o. cond (eq_by_cmp name_cmp q v) (option_map (blank_context keep) o) o) (fm.get-insert name_cmp-total w.contexts v x q)
      ∙ by (eq_by_cmp name_cmp q v) (fm.get w.contexts q)
      ∙ sym (fm.get-insert name_cmp-total w.contexts v (blank_context keep x) q)))
    where
      by : (b : Bool) (o : Option Context) → cond b (option_map (blank_context keep) (cond b (Some x) o)) (cond b (Some x) o) ≡ cond b (Some (blank_context keep x)) o
      by true o = refl
      by false o = refl

  module _ (c : Name) (outside : c ≢ v) where
    -- a put under a key
    put_in-blank : (w : World) (k : Key) (value : ValueOf k) (cell : Cell (ValueOf k)) → put_in (blank keep v w) c k value cell ≡ blank keep v (put_in w c k value cell)
    put_in-blank w k value (Own old) = by (is_there k old)
      where
        by : (b : Bool) → cond b (change_context (blank keep v w) c (with_cell k (Own value))) (blank keep v w) ≡ blank keep v (cond b (change_context w c (with_cell k (Own value))) w)
        by true = change_context-blank w c (with_cell k (Own value)) outside
        by false = refl
    put_in-blank w k value (Common g) = change_group-blank w g (with_value k value)

    pub put-blank : (w : World) (k : Key) (value : ValueOf k) → put_at (blank keep v w) c k value ≡ blank keep v (put_at w c k value)
    unfolding put_at
    put-blank w k value = ap (put_in (blank keep v w) c k value) (cell-blank keep v w c outside k) ∙ put_in-blank w k value ((context w c).cell k)

    -- a store
    put_pages-blank : (w : World) (values : List (ℕ × PageValue)) → put_pages (blank keep v w) c values ≡ blank keep v (put_pages w c values)
    put_pages-blank w [] = refl
    put_pages-blank w (v ∷ vs) = ap (λ u. put_pages u c vs) (put-blank w (Page v.0) (Some v.1)) ∙ put_pages-blank (put_page w c v.0 v.1) vs

    module _ (w : World) where
      page_value-blank : (p : ℕ) → page_value_at (blank keep v w) c p ≡ page_value_at w c p
      page_value-blank p = ap (λ o. unwrap_or o Zero) (value-blank keep v w c outside (Page p))

      parts-blank : (p : ℕ) → is_parting (blank keep v w) (page_value_at (blank keep v w) c p) ≡ is_parting w (page_value_at w c p)
      parts-blank p = parting-blank keep v w (page_value_at (blank keep v w) c p) ∙ ap (is_parting w) (page_value-blank p)

      pub parting_count-blank : (piece : Piece) → parting_count (blank keep v w) c piece ≡ parting_count w c piece
      unfolding parting_count
      parting_count-blank piece = λ i. count_by (λ p. parts-blank p i) (touched piece.at (length piece.bytes))

      stored_pages-blank : (job : ℕ) (piece : Piece) (k : ℕ) (ps : List ℕ) → stored_pages (blank keep v w) c job piece k ps ≡ stored_pages w c job piece k ps
      stored_pages-blank job piece k [] = refl
      stored_pages-blank job piece k (p ∷ ps) =
          (λ i. (p, stored_value (parts-blank p i) (record { job = job; k = k }) (page_value-blank p i) (bytes_after piece p (bytes_of (page_value-blank p i))))
          ∷ stored_pages (blank keep v w) c job piece (cond (parts-blank p i) (k + 1) k) ps)
          ∙ ap (λ vs. (p, stored_value (is_parting w (page_value_at w c p)) (record { job = job; k = k }) (page_value_at w c p) (bytes_after piece p (bytes_of (page_value_at w c p)))) ∷ vs)
          (stored_pages-blank job piece (cond (is_parting w (page_value_at w c p)) (k + 1) k) ps)

      after_store-blank : (job : ℕ) (piece : Piece) → after_store (blank keep v w) c job piece ≡ blank keep v (after_store w c job piece)
      unfolding after_store
      after_store-blank job piece =
          let values : List ℕ = touched piece.at (length piece.bytes) in
          (λ i. change_counters (put_pages (blank keep v w) c (stored_pages-blank job piece (w.next job).tags values i)) job (λ n. record n { tags = n.tags + parting_count-blank piece i }))
          ∙ ap (λ u. change_counters u job (λ n. record n { tags = n.tags + parting_count w c piece })) (put_pages-blank w (stored_pages w c job piece (w.next job).tags values))
          ∙ change_counters-blank (put_pages w c (stored_pages w c job piece (w.next job).tags values)) job (λ n. record n { tags = n.tags + parting_count w c piece })

      pub store-blank : (job : ℕ) (piece : Piece) → store (blank keep v w) c job piece ≡ blank_stored keep v (store w c job piece)
      unfolding store
      store-blank job piece =
          (λ i. cond (not (present-blank keep v w c outside piece.at (length piece.bytes) i)) Absent
          (cond (not (writable-blank keep v w c outside piece.at (length piece.bytes) i)) ReadOnly
          (cond (ltb w.size.frames (used-blank keep v w i + parting_count-blank piece i)) Full (Done (after_store-blank job piece i)))))
          ∙ by (not (is_present w c piece.at (length piece.bytes))) (not (is_writable w c piece.at (length piece.bytes))) (ltb w.size.frames (used w + parting_count w c piece))
        where
          by : (a b d : Bool) → cond a Absent (cond b ReadOnly (cond d Full (Done (blank keep v (after_store w c job piece)))))
              ≡ blank_stored keep v (cond a Absent (cond b ReadOnly (cond d Full (Done (after_store w c job piece)))))
          by true b d = refl
          by false true d = refl
          by false false true = refl
          by false false false = refl

      pub save-blank : (t : ℕ) (regs : Regs) → save (blank keep v w) c t regs ≡ blank keep v (save w c t regs)
      unfolding save
      save-blank t regs = change_context-blank w c (with_saved t regs) outside

      -- values that move into a group
      abbrev moved : ℕ → List Item → World
      moved job items = change_context w c (with_shared (next_group w job) items)

      pub share-blank : (job : ℕ) (items : List Item) → share (blank keep v w) c job items ≡ blank keep v (share w c job items)
      unfolding share
      share-blank job items =
          (λ i. cond (needs-blank keep v w c items i)
          (add_group (change_context-blank w c (with_shared (next_group w job) items) outside i) job (moved_values items (context-blank keep v w c outside i))) (blank keep v w))
          ∙ by (needs_group w c items)
        where
          by : (b : Bool) → cond b (add_group (blank keep v (moved job items)) job (moved_values items (context w c))) (blank keep v w) ≡ blank keep v (cond b (add_group (moved job items) job (moved_values items (context w c))) w)
          by true = add_group-blank (moved job items) job (moved_values items (context w c))
          by false = refl

  -- what a clone gets of another context
  module _ (w : World) (c : Name) (outside : c ≢ v) where
    pub cloned_cell-blank : (k : Key) (m : Mode) → cloned_cell (blank keep v w) c k m ≡ cloned_cell w c k m
    cloned_cell-blank k Copy = ap Own (value-blank keep v w c outside k)
    cloned_cell-blank k Share = cell-blank keep v w c outside k
    cloned_cell-blank k Unmap = refl
    cloned_cell-blank k CopyRead = ap Own (value-blank keep v w c outside k)

    right-blank : (p : ℕ) → right_at (blank keep v w) c p ≡ right_at w c p
    right-blank p = ap (λ (x : Context). x.right p) (context-blank keep v w c outside)

    cloned_right-blank : (p : ℕ) (m : Mode) → cloned_right (blank keep v w) c p m ≡ cloned_right w c p m
    cloned_right-blank p Copy = right-blank p
    cloned_right-blank p Share = right-blank p
    cloned_right-blank p Unmap = refl
    cloned_right-blank p CopyRead = ap (λ (x : Context). read_right (has_page x p)) (context-blank keep v w c outside)

    overlaid_cell-blank : (k : Key) (m : Option Mode) (cell : Cell (ValueOf k)) → overlaid_cell (blank keep v w) c k m cell ≡ overlaid_cell w c k m cell
    overlaid_cell-blank k None cell = refl
    overlaid_cell-blank k (Some m) cell = cloned_cell-blank k m

    overlaid_right-blank : (p : ℕ) (m : Option Mode) (right : Right) → overlaid_right (blank keep v w) c p m right ≡ overlaid_right w c p m right
    overlaid_right-blank p None right = refl
    overlaid_right-blank p (Some m) right = cloned_right-blank p m

    pub cloned-blank : (items : List Item) (entry : Regs) → cloned_context (blank keep v w) c items entry ≡ cloned_context w c items entry
    unfolding cloned_context
    cloned-blank items entry = λ i. record {
      cell = λ k. cloned_cell-blank k (mode_or_copy items k) i;
      right = λ p. cloned_right-blank p (mode_or_copy items (Page p)) i;
      entry = entry;
      saved = λ t. None;
    }

    pub with_overlay-blank : (items : List Item) (x : Context) → with_overlay (blank keep v w) c items x ≡ with_overlay w c items x
    with_overlay-blank items x = λ i. record x {
      cell = λ k. overlaid_cell-blank k (mode items k) (x.cell k) i;
      right = λ p. overlaid_right-blank p (mode items (Page p)) (x.right p) i;
    }

  module _ (w : World) (c : Name) (outside : c ≢ v) where
    -- a clone and an overlay
    pub clone-blank : (job : ℕ) (items : List Item) (entry : Regs) → next_context w job ≢ v → clone_context (blank keep v w) c job items entry ≡ blank keep v (clone_context w c job items entry)
    unfolding clone_context
    clone-blank job items entry some =
        let s : World = share w c job items in
        ap (λ u. add_context u job (cloned_context u c items entry)) (share-blank c outside w job items)
        ∙ ap (add_context (blank keep v s) job) (cloned-blank s c outside items entry) ∙ add_context-blank s job (cloned_context s c items entry) (λ is. some (sym (next_context-share w c job items job) ∙ is))

    overlay_from-blank : (d : Name) (job : ℕ) (items : List Item) → d ≢ v → overlay (blank keep v w) c d job items ≡ blank keep v (overlay w c d job items)
    unfolding overlay
    overlay_from-blank d job items source =
        let s : World = share w d job items in
        ap (λ u. change_context u c (with_overlay u d items)) (share-blank d source w job items)
        ∙ (λ i. change_context (blank keep v s) c (λ x. with_overlay-blank s d source items x i)) ∙ change_context-blank s c (with_overlay s d items) outside

    -- an overlay of nothing leaves the context as it is
    overlay_none : (u : World) (d : Name) (job : ℕ) → overlay u c d job [] ≡ change_context u c (λ x. x)
    unfolding overlay mode
    overlay_none u d job = ap (λ s. change_context s c (with_overlay s d [])) (share-none u d job)

    pub overlay-blank : (d : Name) (job : ℕ) (items : List Item) → TakesNothingOf v d items → overlay (blank keep v w) c d job items ≡ blank keep v (overlay w c d job items)
    overlay-blank d job items (inl source) = overlay_from-blank d job items source
    overlay-blank d job items (inr none) =
        subst (λ list. overlay (blank keep v w) c d job list ≡ blank keep v (overlay w c d job list)) (sym none)
        (overlay_none (blank keep v w) d job ∙ change_context-blank w c (λ x. x) outside ∙ ap (blank keep v) (sym (overlay_none w d job)))

    pub ranges_cloned-blank : (job : ℕ) (items : List Item) → ranges_after_clone (blank keep v w) c job items ≡ ranges_after_clone w c job items
    unfolding ranges_after_clone
    ranges_cloned-blank job items =
        let s : World = share w c job items in
        ap (λ u. (ranges_of u c, ranges u.size.pages (cloned_context u c items (context u c).entry))) (share-blank c outside w job items)
        ∙ (λ i. (
          ranges-blank keep v s c i,
          ranges s.size.pages ((ap (λ (x : Context). cloned_context (blank keep v s) c items x.entry) (context-blank keep v s c outside)
              ∙ cloned-blank s c outside items (context s c).entry) i),
        ))

    pub ranges_overlaid-blank : (d : Name) (job : ℕ) (items : List Item) → TakesNothingOf v d items → ranges_after_overlay (blank keep v w) c d job items ≡ ranges_after_overlay w c d job items
    unfolding ranges_after_overlay
    ranges_overlaid-blank d job items source =
        let after : World = overlay w c d job items in
        ap (λ u. (ranges_of u d, ranges_of u c)) (overlay-blank d job items source)
        ∙ (λ i. (ranges-blank keep v after d i, ranges-blank keep v after c i))

    pub asks-alike : AsksAlike keep v c w
    asks-alike = record {
      value = value-blank keep v w c outside;
      bytes = bytes-blank keep v w c outside;
      cloned = ranges_cloned-blank;
      overlaid = ranges_overlaid-blank;
    }

    pub changes-alike : ChangesAlike keep v c w
    changes-alike = record {
      put = put-blank c outside w;
      store = store-blank c outside w;
      save = save-blank c outside w;
      clone = clone-blank;
      overlay = overlay-blank;
    }

  pub blanks-alike : (w : World) → BlanksAlike keep v w
  blanks-alike w = record {
    live = live-blank keep v w;
    slot = slot-blank keep v w;
    uid = uid-blank keep v w;
    lowest = lowest-blank keep v w;
    contexts = live_of-blank keep v w;
    groups = groups_of-blank keep v w;
    used = used-blank keep v w;
    summary = summary-blank keep v w;
    needs = needs-blank keep v w;
    ranges = ranges-blank keep v w;
    keys = keys-blank keep v w.contexts;
    enters = enters-blank keep v w;
    put_slot = put_slot-blank w;
    put_uid = put_uid-blank w;
    map = map-blank w;
    forgets = forgets-blank w;
    insert = insert-blank w;
    reap = reap-blank keep v w;
  }
