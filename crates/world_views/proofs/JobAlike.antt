-- What a job in two worlds that look alike to it leaves them alike.
use Rattle.std.proofs.Common.{◌≡◌, ℕ, ◌+◌, refl, sym, ap, subst, ◌∙◌, Bool, true, false, cond, eqb, Option, Some, None, List, [], ◌∷◌, length}
use Rattle.std.proofs.lemmas.Bool.{eq-eqb}
use Rattle.std.specs.List.{AllByRecursion}
use Rattle.std.specs.Prelude.{count_by, unwrap_or}
use Rattle.lwc_base.specs.Cells.{put_at, put_in, put_page, with_cell, with_value}
use Rattle.lwc_base.specs.Frames.{is_parting}
use Rattle.lwc_base.specs.Holders.{InCell, Keeps}
use Rattle.lwc_base.specs.Keys.{ValueOf, is_there}
use Rattle.lwc_base.specs.Mapping.{map_pages, mapped_or_not, unmap_pages, with_zeros, without_pages}
use Rattle.lwc_base.specs.Memory.{touched}
use Rattle.lwc_base.specs.Modes.{mode, mode_or_copy}
use Rattle.lwc_base.specs.Overlay.{overlaid_cell, overlaid_right, overlay, with_overlay}
use Rattle.lwc_base.specs.Saved.{save, with_saved}
use Rattle.lwc_base.specs.Sharing.{clone_context, cloned_cell, cloned_context, cloned_right, moved_value, moved_values, needs_group, share, with_shared}
use Rattle.lwc_base.specs.Store.{Piece, after_store, bytes_after, page_value_at, parting_count, stored_pages, put_pages, stored_value}
use Rattle.lwc_base.specs.World.{World, Context, add_group, change_context, change_counters, context, next_group}
use Rattle.lwc_base.specs.declared.cell.Cell.{Cell}
use Rattle.lwc_base.specs.declared.cell.Cell.TheVariants.{Own, Common}
use Rattle.lwc_base.specs.declared.item.Item.{Item}
use Rattle.lwc_base.specs.declared.item.Mode.{Mode}
use Rattle.lwc_base.specs.declared.item.Mode.TheVariants.{Copy, Share, Unmap, CopyRead}
use Rattle.lwc_base.specs.Ranges.{is_page}
use Rattle.lwc_base.specs.Rights.{read_right}
use Rattle.lwc_types.specs.Pages.{bytes_of}
use Rattle.lwc_types.specs.declared.counters.Counters.{Counters}
use Rattle.lwc_types.specs.declared.key.Key.{Key}
use Rattle.lwc_types.specs.declared.key.Key.TheVariants.{Page}
use Rattle.lwc_types.specs.declared.name.Name.{Name}
use Rattle.lwc_types.specs.declared.page.PageValue.{PageValue}
use Rattle.lwc_types.specs.declared.page.PageValue.TheVariants.{Zero}
use Rattle.lwc_types.specs.declared.regs.Regs.{Regs}
use Rattle.lwc_types.specs.declared.right.Right.{Right}
use Rattle.world_views.proofs.JobTables.{at}
use Rattle.world_views.proofs.Keeping.{context-in, keeps-put_pages, keeps-share, stored_pages_fit}
use Rattle.world_views.proofs.Reading.{cell-alike, needs-alike, rights-alike, value-alike}
use Rattle.world_views.proofs.Views.{KeepsAlike, alike-add_context, alike-add_group, alike-change_context, alike-change_counters, alike-change_group, next-alike}
use Rattle.world_views.specs.ByJob.{Home, IsPageOf, by_job}
use Rattle.world_views.specs.Views.{seen_by, view}

module _ (home : Home) (t s : ℕ) where
  -- a put under a key
  module _ (c : Name) (w v : World) (keeps : Keeps (by_job home) w) (alike : view c.job t w ≡ view c.job s v) where
    put_alike : (k : Key) (value : ValueOf k) (cell : Cell (ValueOf k)) → InCell (by_job home) c.job k cell →
        view c.job t (put_in w c k value cell) ≡ view c.job s (put_in v c k value cell)
    put_alike k value (Own old) is = by_there (is_there k old)
      where
        by_there : (b : Bool) → view c.job t (cond b (change_context w c (with_cell k (Own value))) w) ≡ view c.job s (cond b (change_context v c (with_cell k (Own value))) v)
        by_there true = alike-change_context t s c w v _ _ (λ x y e. ap (with_cell k (Own value)) e) alike
        by_there false = alike
    put_alike k value (Common g) is =
        subst (λ j. view j t w ≡ view j s v → view j t (put_in w c k value (Common g)) ≡ view j s (put_in v c k value (Common g))) is
        (alike-change_group t s g w v (with_value k value)) alike

    pub alike-put_at : (k : Key) (value : ValueOf k) → view c.job t (put_at w c k value) ≡ view c.job s (put_at v c k value)
    unfolding put_at
    alike-put_at k value =
        put_alike k value ((context w c).cell k) (context-in home w keeps c k)
        ∙ ap (λ cell. view c.job s (put_in v c k value cell)) (cell-alike t s c w v alike k)

  alike-put_pages : (c : Name) (w v : World) (values : List (ℕ × PageValue)) → AllByRecursion (λ x. IsPageOf home c.job x.0 (Some x.1)) values → Keeps (by_job home) w →
      view c.job t w ≡ view c.job s v → view c.job t (put_pages w c values) ≡ view c.job s (put_pages v c values)
  alike-put_pages c w v [] fits keeps alike = alike
  alike-put_pages c w v (x ∷ xs) fits keeps alike =
      alike-put_pages c (put_page w c x.0 x.1) (put_page v c x.0 x.1) xs fits.1 (keeps-put_pages home c w (x ∷ []) (fits.0, tt) keeps)
      (alike-put_at c w v keeps alike (Page x.0) (Some x.1))

  module _ (c : Name) (w v : World) (keeps : Keeps (by_job home) w) (alike : view c.job t w ≡ view c.job s v) where
    -- the same pages part in two worlds
    abbrev pub PartsAlike : Type 0
    PartsAlike = (p : ℕ) → is_parting w (page_value_at w c p) ≡ is_parting v (page_value_at v c p)

    stored_pages-alike : PartsAlike → (piece : Piece) (ps : List ℕ) (n : ℕ) → stored_pages w c c.job piece n ps ≡ stored_pages v c c.job piece n ps
    stored_pages-alike parts piece [] n = refl
    stored_pages-alike parts piece (p ∷ ps) n =
        let value : page_value_at w c p ≡ page_value_at v c p = ap (λ o. unwrap_or o Zero) (value-alike t s c w v alike home keeps (Page p)) in
        λ i. (p, stored_value (parts p i) (record { job = c.job; k = n }) (value i) (bytes_after piece p (bytes_of (value i)))) ∷ stored_pages-alike parts piece ps (cond (parts p i) (n + 1) n) i

    pub count-alike : PartsAlike → (piece : Piece) → parting_count w c piece ≡ parting_count v c piece
    unfolding parting_count
    count-alike parts piece = λ i. count_by (λ p. parts p i) (touched piece.at (length piece.bytes))

    -- a store
    pub alike-after_store : PartsAlike → (piece : Piece) → view c.job t (after_store w c c.job piece) ≡ view c.job s (after_store v c c.job piece)
    unfolding after_store
    alike-after_store parts piece =
        let ps = touched piece.at (length piece.bytes) in
        let plans : stored_pages w c c.job piece (w.next c.job).tags ps ≡ stored_pages v c c.job piece (v.next c.job).tags ps =
        stored_pages-alike parts piece ps (w.next c.job).tags ∙ ap (λ (n : Counters). stored_pages v c c.job piece n.tags ps) (next-alike c.job t s w v alike) in
        alike-change_counters c.job t s _ _ (λ n. record n { tags = n.tags + parting_count w c piece })
        (alike-put_pages c w v _ (stored_pages_fit home w keeps c piece ps _) keeps alike ∙ ap (λ values. view c.job s (put_pages v c values)) plans)
        ∙ ap (λ m. view c.job s (change_counters (put_pages v c (stored_pages v c c.job piece (v.next c.job).tags ps)) c.job (λ n. record n { tags = n.tags + m }))) (count-alike parts piece)

    pub alike-mapped : (from to : ℕ) (present : Bool) → view c.job t (mapped_or_not w c from to present) ≡ view c.job s (mapped_or_not v c from to present)
    unfolding map_pages unmap_pages
    alike-mapped from to true = alike-change_context t s c w v _ _ (λ x y e. ap (with_zeros from to) e) alike
    alike-mapped from to false = alike-change_context t s c w v _ _ (λ x y e. ap (without_pages from to) e) alike

    saved_alike : (regs : Regs) → KeepsAlike t s (with_saved t regs) (with_saved s regs)
    saved_alike regs x y e =
        let one : eqb t t ≡ eqb s s = eq-eqb t t refl ∙ sym (eq-eqb s s refl) in
        λ i. record { cell = (e i).cell; right = (e i).right; entry = (e i).entry; saved = λ u. cond (one i) (Some regs) ((e i).saved 0) }

    pub alike-save : (regs : Regs) → view c.job t (save w c t regs) ≡ view c.job s (save v c s regs)
    unfolding save
    alike-save regs = alike-change_context t s c w v _ _ (saved_alike regs) alike

    shared_alike : (items : List Item) (g h : Name) → g ≡ h → KeepsAlike t s (with_shared g items) (with_shared h items)
    unfolding with_shared
    shared_alike items g h same x y e = λ i. with_shared (same i) items (e i)

    moved_alike : (items : List Item) → moved_values items (context w c) ≡ moved_values items (context v c)
    unfolding moved_values
    moved_alike items = λ i. record { value = λ k. moved_value (mode_or_copy items k) k (cell-alike t s c w v alike k i) }

    pub alike-share : (items : List Item) → view c.job t (share w c c.job items) ≡ view c.job s (share v c c.job items)
    unfolding share
    alike-share items =
        by_need (needs_group w c items) ∙ ap (λ b. view c.job s (cond b (moved v) v)) (needs-alike t s c w v alike items)
      where
        moved : World → World
        moved u = add_group (change_context u c (with_shared (next_group u c.job) items)) c.job (moved_values items (context u c))

        names : next_group w c.job ≡ next_group v c.job
        names = ap (λ (n : Counters). at c.job n.groups) (next-alike c.job t s w v alike)

        by_need : (b : Bool) → view c.job t (cond b (moved w) w) ≡ view c.job s (cond b (moved v) v)
        by_need true =
            alike-add_group c.job t s _ _ (moved_values items (context w c))
            (alike-change_context t s c w v _ _ (shared_alike items _ _ names) alike)
            ∙ ap (λ x. view c.job s (add_group (change_context v c (with_shared (next_group v c.job) items)) c.job x)) (moved_alike items)
        by_need false = alike

    cloned_cell-alike : (k : Key) (mode : Mode) → cloned_cell w c k mode ≡ cloned_cell v c k mode
    cloned_cell-alike k Copy = ap Own (value-alike t s c w v alike home keeps k)
    cloned_cell-alike k Share = cell-alike t s c w v alike k
    cloned_cell-alike k Unmap = refl
    cloned_cell-alike k CopyRead = ap Own (value-alike t s c w v alike home keeps k)

    cloned_right-alike : (p : ℕ) (mode : Mode) → cloned_right w c p mode ≡ cloned_right v c p mode
    cloned_right-alike p Copy = λ i. rights-alike t s c w v alike i p
    cloned_right-alike p Share = λ i. rights-alike t s c w v alike i p
    cloned_right-alike p Unmap = refl
    cloned_right-alike p CopyRead = λ i. read_right (is_page (cell-alike t s c w v alike (Page p) i))

    pub cloned-alike : (items : List Item) (entry : Regs) → cloned_context w c items entry ≡ cloned_context v c items entry
    unfolding cloned_context
    cloned-alike items entry = λ i. record { cell = λ k. cloned_cell-alike k (mode_or_copy items k) i; right = λ p. cloned_right-alike p (mode_or_copy items (Page p)) i; entry = entry; saved = λ u. None }

    none_saved : (items : List Item) (entry : Regs) → seen_by t (cloned_context w c items entry) ≡ seen_by s (cloned_context w c items entry)
    unfolding cloned_context
    none_saved items entry = refl

    overlaid-alike : (k : Key) (mode : Option Mode) (x y : Cell (ValueOf k)) → x ≡ y → overlaid_cell w c k mode x ≡ overlaid_cell v c k mode y
    overlaid-alike k None x y same = same
    overlaid-alike k (Some m) x y same = cloned_cell-alike k m

    overlaid_right-alike : (p : ℕ) (mode : Option Mode) (x y : Right) → x ≡ y → overlaid_right w c p mode x ≡ overlaid_right v c p mode y
    overlaid_right-alike p None x y same = same
    overlaid_right-alike p (Some m) x y same = cloned_right-alike p m

    pub with_overlay-alike : (items : List Item) → KeepsAlike t s (with_overlay w c items) (with_overlay v c items)
    with_overlay-alike items x y e = λ i. record {
      cell = λ k. overlaid-alike k (mode items k) _ _ (ap (λ (z : Context). z.cell k) e) i;
      right = λ p. overlaid_right-alike p (mode items (Page p)) _ _ (ap (λ (z : Context). z.right p) e) i;
      entry = (e i).entry;
      saved = (e i).saved;
    }

  module _ (c : Name) (w v : World) (keeps : Keeps (by_job home) w) (alike : view c.job t w ≡ view c.job s v) where
    -- a clone
    pub alike-clone : (items : List Item) (entry : Regs) → view c.job t (clone_context w c c.job items entry) ≡ view c.job s (clone_context v c c.job items entry)
    unfolding clone_context
    alike-clone items entry =
        let shared = alike-share c w v keeps alike items in
        let kept = keeps-share home c w keeps c.job refl items in
        alike-add_context c.job t s _ _ _ _
        (none_saved c _ _ kept shared items entry ∙ ap (seen_by s) (cloned-alike c _ _ kept shared items entry)) shared

    -- an overlay from a context of the same job
    pub alike-overlay : (d : Name) (items : List Item) → d.job ≡ c.job → view c.job t (overlay w c d c.job items) ≡ view c.job s (overlay v c d c.job items)
    unfolding overlay
    alike-overlay d items own =
        let here : view d.job t w ≡ view d.job s v = subst (λ j. view j t w ≡ view j s v) (sym own) alike in
        let shared : view d.job t (share w d c.job items) ≡ view d.job s (share v d c.job items) =
        subst (λ j. view d.job t (share w d j items) ≡ view d.job s (share v d j items)) own (alike-share d w v keeps here items) in
        let kept = keeps-share home d w keeps c.job own items in
        alike-change_context t s c _ _ _ _ (with_overlay-alike d _ _ kept shared items)
        (subst (λ j. view j t (share w d c.job items) ≡ view j s (share v d c.job items)) own shared)
