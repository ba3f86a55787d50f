-- A context that takes over from another one, and the ranges that both have then.
use Rattle.std.proofs.Common.{◌≡◌, ◌≢◌, ℕ, refl, sym, ap, subst, ◌∙◌, arith, Bool, true, false, cond, eqb, ◌&&◌, List, Option, None, Some}
use Rattle.std.specs.Prelude.{is_some, unwrap_or}
use Rattle.std.specs.Cmp.{eq_by_cmp_equiv}
use Rattle.std.specs.Ordering.{is_eq}
use Rattle.std.proofs.lemmas.Bool.{false≢true}
use Rattle.std.proofs.lemmas.Bool.Decides.{nat_tests}
use Rattle.lwc_base.specs.declared.cell.Cell.{Cell}
use Rattle.lwc_base.specs.declared.item.Item.{Item}
use Rattle.lwc_base.specs.declared.item.Mode.{Mode}
use Rattle.lwc_base.specs.declared.item.Mode.TheVariants.{Copy, Unmap}
use Rattle.lwc_base.specs.Capabilities.{is_named}
use Rattle.lwc_base.specs.Cells.{page_at}
use Rattle.lwc_base.specs.Fresh.{IsFresh, named_groups}
use Rattle.lwc_base.specs.Holders.{Rules, InCell, InContext}
use Rattle.lwc_base.specs.Keys.{ValueOf}
use Rattle.lwc_base.specs.Modes.{IsSpec, mode, mode_or_copy}
use Rattle.lwc_base.specs.Overlay.{overlaid_cell, overlaid_right, overlay, ranges_after_overlay, with_overlay}
use Rattle.lwc_base.specs.Ranges.{ranges, ranges_of}
use Rattle.lwc_base.specs.Rights.{right_at}
use Rattle.lwc_base.specs.Sharing.{cloned_cell, cloned_context, cloned_right, share}
use Rattle.lwc_base.specs.World.{World, Context, change_context, context, is_live, new_context, next_group}
use Rattle.lwc_types.specs.declared.key.Key.{Key}
use Rattle.lwc_types.specs.declared.counters.Counters.{Counters}
use Rattle.lwc_types.specs.declared.key.Key.TheVariants.{Page}
use Rattle.lwc_types.specs.declared.name.Name.{Name}
use Rattle.lwc_types.specs.declared.regs.Regs.{Regs}
use Rattle.lwc_types.specs.declared.right.Right.{Right}
use Rattle.lwc_types.specs.declared.key.TheConstants.{NOBODY}
use Rattle.lwc_types.specs.Names.{name_cmp}
use Rattle.whole_world.specs.Holders.{count_of_ranges, holder_after_overlay, holder_of, moved_holder, overlaid_holder, page_holder, side_after_clone, side_after_overlay}
use Rattle.whole_world.specs.Sharing.{clone_cells, clone_rights, with_taken}
use Rattle.whole_world.proofs.Runs.{not_new, page-cloned, page-shared, ranges-holders, ranges-shared, seen_from, seen_from-shared}
use Rattle.whole_world.proofs.SharedCells.{cloned_right-shared, right-shared}
use Rattle.lwc_base.proofs.Facts.{changes, orders, stays_fresh}
use Rattle.lwc_types.proofs.Orders.{same_name}

cell_over : (s : World) (d : Name) (k : Key) (m : Option Mode) (mine : Cell (ValueOf k)) →
    cond (is_some m) (cloned_cell s d k (unwrap_or m Unmap)) mine ≡ overlaid_cell s d k m mine
cell_over s d k None mine = refl
cell_over s d k (Some m) mine = refl

right_over : (s : World) (d : Name) (p : ℕ) (m : Option Mode) (mine : Right) →
    cond (is_some m) (cloned_right s d p (unwrap_or m Unmap)) mine ≡ overlaid_right s d p m mine
right_over s d p None mine = refl
right_over s d p (Some m) mine = refl

-- names that do not compare as equal are different
pub names_differ : (c d : Name) → (eqb c.job d.job && eqb c.k d.k) ≡ false → c ≢ d
names_differ c d differ same = false≢true (sym differ ∙ ap (λ (e : Name). eqb e.job d.job && eqb e.k d.k) same ∙ itself d.job d.k)
  where
    itself : (m n : ℕ) → (eqb m m && eqb n n) ≡ true
    itself m n = grind (arith, nat_tests)

-- a context keeps rules if it takes cells that keep them
pub in_taken : (rules : Rules) (job : ℕ) (test : Key → Bool) (y x : Context) → InContext rules job y → InContext rules job x → InContext rules job (with_taken test y x)
in_taken rules job test y x theirs mine k =
    elim (test k) as (λ b. InCell rules job k (cond b (y.cell k) (x.cell k))) [ true ↦ theirs k | false ↦ mine k ]

module _ (w s : World) (c d : Name) (job : ℕ) (items : List Item) (is_shared : s ≡ share w d job items) where
  pub live-shared : is_live w c ≡ true → is_live s c ≡ true
  live-shared live = ap (λ v. is_live v c) is_shared ∙ (changes.shared w d job items).live c ∙ live

  module _ (row : Context) (entry : Regs) (is_row : row ≡ record (new_context NOBODY entry) { cell = clone_cells w d job items Unmap; right = clone_rights w d job items Unmap }) where
    old_cell : (next : ℕ → Counters) → InContext (named_groups next) c.job (cloned_context (share w d job items) d items entry) →
        (k : Key) (m : Option Mode) → mode items k ≡ m → InCell (named_groups next) c.job k (cloned_cell (share w d job items) d k (unwrap_or m Unmap))
    unfolding cloned_context mode_or_copy
    old_cell next old k None is = tt
    old_cell next old k (Some m) is =
        subst (λ (o : Option Mode). InCell (named_groups next) c.job k (cloned_cell (share w d job items) d k (unwrap_or o Copy))) is (old k)

    -- the groups that its cells name are old
    pub old_groups-over : IsFresh w → is_live w d ≡ true → InContext (named_groups s.next) c.job row
    old_groups-over fresh live =
        subst (InContext (named_groups s.next) c.job) (sym is_row)
        (subst (λ (v : World). (k : Key) → InCell (named_groups v.next) c.job k (clone_cells w d job items Unmap k)) (sym is_shared)
        (λ k.
        old_cell (share w d job items).next
        (stays_fresh.clone_cells (share w d job items) d c.job items entry ((changes.shared w d job items).live d ∙ live) (stays_fresh.shared w d job items live fresh))
        k (mode items k) refl))

    -- what takes the cells that items name out of it has taken them over
    context_over : (x : Context) → with_taken (is_named items) row x ≡ with_overlay (share w d job items) d items x
    context_over x =
        ap (λ (r : Context). with_taken (is_named items) r x) is_row
        ∙ (λ i. record x {
          cell = λ k. cell_over (share w d job items) d k (mode items k) (x.cell k) i;
          right = λ p. right_over (share w d job items) d p (mode items (Page p)) (x.right p) i;
        })

    -- and the world is overlaid
    pub world-over : (v : World) → v ≡ change_context s c (with_taken (is_named items) row) → v ≡ overlay w c d job items
    unfolding overlay
    world-over v is =
        is ∙ (λ i. change_context (is_shared i) c (with_taken (is_named items) row))
        ∙ ap (change_context (share w d job items) c) (λ i x. context_over x i)

module _ (w : World) (c d : Name) (fresh : IsFresh w) (job : ℕ) (items : List Item) (live_c : is_live w c ≡ true) (live_d : is_live w d ≡ true)
    (spec : IsSpec w.size.pages items) where
  abbrev s : World
  s = share w d job items

  abbrev new : Name
  new = next_group w job

  -- under a key that no item names the sharing has changed nothing
  page_unnamed : (p : ℕ) → mode items (Page p) ≡ None → (b : Bool) → is_eq (name_cmp c d) ≡ b →
      seen_from new ((context s c).cell (Page p)) ≡ holder_of (Page p) ((context w c).cell (Page p))
  unfolding mode_or_copy
  page_unnamed p unnamed true same =
      subst (λ (e : Name). seen_from new ((context s e).cell (Page p)) ≡ holder_of (Page p) ((context w e).cell (Page p))) (sym (same_name c d same))
      (page-shared w d fresh job items live_d spec p ∙ ap (λ o. moved_holder (unwrap_or o Copy) (holder_of (Page p) ((context w d).cell (Page p)))) unnamed)
  page_unnamed p unnamed false differ =
      let other : c ≢ d = λ same. false≢true (sym differ ∙ ap (λ e. is_eq (name_cmp c e)) (sym same) ∙ itself) in
      ap (λ (x : Context). seen_from new (x.cell (Page p))) ((changes.shared w d job items).others c other)
      ∙ seen_from-shared new p Copy ((context w c).cell (Page p)) (not_new w c fresh job p)
    where
      itself : is_eq (name_cmp c c) ≡ true
      itself = (eq_by_cmp_equiv orders.names).refl c

  page_over : (p : ℕ) (m : Option Mode) → mode items (Page p) ≡ m →
      seen_from new (overlaid_cell s d (Page p) m ((context s c).cell (Page p)))
      ≡ overlaid_holder m (is_some (page_at w d p)) (holder_of (Page p) ((context w d).cell (Page p))) (holder_of (Page p) ((context w c).cell (Page p)))
  unfolding mode_or_copy
  page_over p None is = page_unnamed p is _ refl
  page_over p (Some m) is = page-cloned w d fresh job items live_d spec p m (ap (λ o. unwrap_or o Copy) is)

  right_unnamed : (p : ℕ) (b : Bool) → is_eq (name_cmp c d) ≡ b → right_at s c p ≡ right_at w c p
  right_unnamed p true same =
      subst (λ (e : Name). right_at s e p ≡ right_at w e p) (sym (same_name c d same)) (right-shared w d job items live_d spec p)
  right_unnamed p false differ =
      let other : c ≢ d = λ same. false≢true (sym differ ∙ ap (λ e. is_eq (name_cmp c e)) (sym same) ∙ (eq_by_cmp_equiv orders.names).refl c) in
      ap (λ (x : Context). x.right p) ((changes.shared w d job items).others c other)

  -- its pages have the rights that they have by their modes
  rights_over : (p : ℕ) (m : Option Mode) → overlaid_right s d p m (right_at s c p) ≡ overlaid_right w d p m (right_at w c p)
  rights_over p None = right_unnamed p _ refl
  rights_over p (Some m) = cloned_right-shared w d job items live_d spec p m

  -- the ranges of the context that gets it
  pub ranges-over : ranges_of (overlay w c d job items) c ≡ count_of_ranges w.size.pages (side_after_overlay w c d items)
  unfolding overlay ranges_of side_after_overlay holder_after_overlay page_holder
  ranges-over =
      let changed = changes.context_changed s c (with_overlay s d items) in
      (λ i. ranges ((changed.names.size ∙ (changes.shared w d job items).size) i).pages (changed.changed ((changes.shared w d job items).live c ∙ live_c) i))
      ∙ ranges-holders new (with_overlay s d items (context s c)) (side_after_overlay w c d items) (λ p. page_over p _ refl) (λ p. rights_over p (mode items (Page p))) w.size.pages

  -- and of another one that it is taken from
  ranges_left : c ≢ d → ranges_of (overlay w c d job items) d ≡ count_of_ranges w.size.pages (side_after_clone w d items)
  unfolding overlay ranges_of
  ranges_left differ =
      let changed = changes.context_changed s c (with_overlay s d items) in
      (λ i. ranges ((changed.names.size i).pages) (changed.others d (λ same. differ (sym same)) i))
      ∙ ranges-shared w d fresh job items live_d spec

  -- both
  pub ranges-same : (n : ℕ) → c ≡ d → n ≡ count_of_ranges w.size.pages (side_after_overlay w c d items) →
      ◌≡◌ {A = ℕ × ℕ} (n, n) (ranges_after_overlay w c d job items)
  unfolding ranges_after_overlay
  ranges-same n same taken =
      let is : n ≡ ranges_of (overlay w c d job items) c = taken ∙ sym ranges-over in
      λ i. ((is ∙ ap (ranges_of (overlay w c d job items)) same) i, is i)

  pub ranges-differ : (a b : ℕ) → c ≢ d → a ≡ count_of_ranges w.size.pages (side_after_clone w d items) → b ≡ count_of_ranges w.size.pages (side_after_overlay w c d items) →
      ◌≡◌ {A = ℕ × ℕ} (a, b) (ranges_after_overlay w c d job items)
  unfolding ranges_after_overlay
  ranges-differ a b differ left taken = λ i. ((left ∙ sym (ranges_left differ)) i, (taken ∙ sym ranges-over) i)
