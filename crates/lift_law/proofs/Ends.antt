-- Past the last page nothing comes: after values are shared, in a clone, and after an overlay; and no bytes are read there.
use Rattle.std.proofs.Common.{◌≡◌, ◌≢◌, ◌∙◌, ◌+◌, ◌*◌, ◌/◌, ◌-◌, ◌<◌, ◌≤◌, refl, sym, ap, subst, ℕ, Bool, true, false, cond, eqb, leb, ltb, not, ◌&&◌, Option, Some, None, List, [], length, get_or, arith}
use Rattle.std.proofs.lemmas.Bool.Decides.{nat_tests}
use Rattle.std.proofs.lemmas.List.Folds.{list_all_at}
use Rattle.std.proofs.lemmas.List.FromFn.{get_or-range_with_len, length-range_with_len}
use Rattle.std.specs.Prelude.{is_some}
use Rattle.std.specs.List.{list_all, range_with_len}
use Rattle.lwc_base.specs.Cells.{page_at, value_at, value_of}
use Rattle.lwc_base.specs.Mapping.{mapped_or_not}
use Rattle.lwc_base.specs.Store.{Absent, Done, Full, Piece, ReadOnly, after_store, parting_count, store}
use Rattle.lwc_base.specs.Frames.{used}
use Rattle.lwc_base.specs.Rights.{is_writable}
use Rattle.lwc_base.specs.Memory.{bytes_for, is_present, load, touched}
use Rattle.lwc_base.specs.Modes.{mode, mode_or_copy}
use Rattle.lwc_base.specs.Overlay.{overlaid_cell, overlay}
use Rattle.lwc_base.specs.Sharing.{cloned_cell, cloned_context, moved_value, moved_values, needs_group, share, shared_cell, with_shared}
use Rattle.lwc_base.specs.World.{World, Context, Group, context, group, is_live, next_context, next_group}
use Rattle.lwc_base.specs.declared.cell.Cell.{Cell}
use Rattle.lwc_base.specs.declared.cell.Cell.TheVariants.{Own}
use Rattle.lwc_base.specs.declared.item.Item.{Item}
use Rattle.lwc_base.specs.declared.item.Mode.{Mode}
use Rattle.lwc_base.specs.declared.item.Mode.TheVariants.{Copy, Share, Unmap, CopyRead}
use Rattle.lwc_types.specs.declared.page.PageValue.TheVariants.{Zero}
use Rattle.lwc_types.specs.declared.key.Key.TheVariants.{Page}
use Rattle.lwc_types.specs.declared.limits.TheConstants.{MOST_PAGES}
use Rattle.lwc_types.specs.declared.name.Name.{Name}
use Rattle.lwc_types.specs.declared.page.PageValue.{PageValue}
use Rattle.lwc_types.specs.declared.page.TheConstants.{PAGE_BYTES}
use Rattle.lwc_types.specs.declared.regs.Regs.{Regs}
use Rattle.lwc_types.specs.declared.size.WorldSize.{WorldSize}
use Rattle.snapshot_host.specs.Begin.{begin, begun_context}
use Rattle.lwc_base.proofs.Facts.{changes}
use Rattle.lwc_base.proofs.Loads.{load-absent}
use Rattle.lwc_types.proofs.Orders.{cases_name}
use Rattle.lift_law.proofs.Pages.{HasNoMore}
use Rattle.lift_law.proofs.Wide.{load-wide, wide}

shared_none : (g : Name) (m : Mode) (p : ℕ) (cell : Cell (Option PageValue)) → cell ≡ Own None → shared_cell g m (Page p) cell ≡ Own None
shared_none g Copy p cell is = is
shared_none g Share p cell is = ap (shared_cell g Share (Page p)) is
shared_none g Unmap p cell is = is
shared_none g CopyRead p cell is = is

moved_none : (m : Mode) (p : ℕ) (cell : Cell (Option PageValue)) → cell ≡ Own None → moved_value m (Page p) cell ≡ None
moved_none Copy p cell is = refl
moved_none Share p cell is = ap (moved_value Share (Page p)) is
moved_none Unmap p cell is = refl
moved_none CopyRead p cell is = refl

not_in : {A : Type 0} (b : Bool) (x y : A) → cond (b && false) x y ≡ y
not_in true x y = refl
not_in false x y = refl

module _ (w : World) (ends : HasNoMore w) where
  -- what a map or unmap leaves
  maps : (c : Name) (from to : ℕ) (present : Bool) → ((mapped_or_not w c from to present).size ≡ w.size)
      × (((e : Name) → e ≢ c → context (mapped_or_not w c from to present) e ≡ context w e) × ((g : Name) → group (mapped_or_not w c from to present) g ≡ group w g))
  maps c from to true = let facts = changes.mapped w c from to in (facts.names.size, (facts.others, facts.groups))
  maps c from to false = let facts = changes.unmapped w c from to in (facts.names.size, (facts.others, facts.groups))

  -- a page past the last one is not present
  pub page-none : (c : Name) (p : ℕ) → w.size.pages ≤ p → page_at w c p ≡ None
  unfolding value_at
  page-none c p past = ap (value_of w (Page p)) (ends.cells c p past)

  cloned_none : (c : Name) (p : ℕ) (m : Mode) → w.size.pages ≤ p → cloned_cell w c (Page p) m ≡ Own None
  cloned_none c p Copy past = ap Own (page-none c p past)
  cloned_none c p Share past = ends.cells c p past
  cloned_none c p Unmap past = refl
  cloned_none c p CopyRead past = ap Own (page-none c p past)

  pub ends-cloned : (c : Name) (items : List Item) (entry : Regs) (p : ℕ) → w.size.pages ≤ p → (cloned_context w c items entry).cell (Page p) ≡ Own None
  unfolding cloned_context
  ends-cloned c items entry p past = cloned_none c p (mode_or_copy items (Page p)) past

  overlaid_none : (c : Name) (p : ℕ) (m : Option Mode) (cell : Cell (Option PageValue)) → w.size.pages ≤ p → cell ≡ Own None → overlaid_cell w c (Page p) m cell ≡ Own None
  overlaid_none c p None cell past is = is
  overlaid_none c p (Some m) cell past is = cloned_none c p m past

  -- no byte is read past the last page
  past_absent : (c : Name) (at count : ℕ) → 0 < count → w.size.pages * PAGE_BYTES < at + count → is_present w c at count ≡ false
  unfolding is_present touched
  past_absent c at count some past =
      let many : eqb count 0 ≡ false = grind (arith, nat_tests) in
      let first : ℕ = at / 4096 in
      let last : ℕ = (at + count - 1) / 4096 in
      let here : get_or (range_with_len first (last + 1 - first)) (last - first) 0 ≡ last = get_or-range_with_len first (last + 1 - first) (last - first) 0 (omega arith) ∙ omega arith in
      ap (λ b. list_all (λ p. is_some (page_at w c p)) (cond b [] (range_with_len first (last + 1 - first)))) many
      ∙ list_all_at (λ p. is_some (page_at w c p)) (range_with_len first (last + 1 - first)) (last - first) 0 (omega (arith, length-range_with_len first (last + 1 - first)))
      (ap (λ p. is_some (page_at w c p)) here ∙ ap is_some (page-none c last (omega (arith, past))))

  pub bytes-wide : (c : Name) (at count : ℕ) → bytes_for (wide w) c at count ≡ bytes_for w c at count
  unfolding bytes_for
  bytes-wide c at count =
      ap (λ o. cond (eqb count 0) (Some []) (cond (leb (at + count) (MOST_PAGES * PAGE_BYTES)) o None)) (load-wide w c at count)
      ∙ by (eqb count 0) refl (leb (at + count) (w.size.pages * PAGE_BYTES)) refl (leb (at + count) (MOST_PAGES * PAGE_BYTES)) refl
    where
      by : (a : Bool) → eqb count 0 ≡ a → (b : Bool) → leb (at + count) (w.size.pages * PAGE_BYTES) ≡ b → (d : Bool) → leb (at + count) (MOST_PAGES * PAGE_BYTES) ≡ d →
          cond a (Some []) (cond d (load w c at count) None) ≡ cond a (Some []) (cond b (load w c at count) None)
      by true none b inside d most = refl
      by false some true inside true most = refl
      by false some true inside false most = let few = ends.few in absurd (grind (arith, nat_tests))
      by false some false past true most = load-absent w c at count (past_absent c at count (grind (arith, nat_tests)) (grind (arith, nat_tests)))
      by false some false past false most = refl

  -- nothing is stored past the last page
  pub store-past : (c : Name) (job : ℕ) (piece : Piece) → 0 < length piece.bytes → w.size.pages * PAGE_BYTES < piece.at + length piece.bytes → store w c job piece ≡ Absent
  unfolding store
  store-past c job piece some past =
      ap (λ b. cond (not b) Absent
      (cond (not (is_writable w c piece.at (length piece.bytes))) ReadOnly (cond (ltb w.size.frames (used w + parting_count w c piece)) Full (Done (after_store w c job piece)))))
      (past_absent c piece.at (length piece.bytes) some past)

  -- pages that are mapped below the last one leave none past it
  mapped_cells : (c : Name) (from to : ℕ) (present : Bool) → to ≤ w.size.pages → (l : Bool) → is_live w c ≡ l → (p : ℕ) → w.size.pages ≤ p →
      (context (mapped_or_not w c from to present) c).cell (Page p) ≡ Own None
  mapped_cells c from to true within true live p past =
      ap (λ (x : Context). x.cell (Page p)) ((changes.mapped w c from to).changed live)
      ∙ (let none : ltb p to ≡ false = grind (arith, nat_tests) in ap (λ b. cond (leb from p && b) (Own (Some Zero)) ((context w c).cell (Page p))) none)
      ∙ not_in (leb from p) (Own (Some Zero)) ((context w c).cell (Page p)) ∙ ends.cells c p past
  mapped_cells c from to false within true live p past =
      ap (λ (x : Context). x.cell (Page p)) ((changes.unmapped w c from to).changed live)
      ∙ (let none : ltb p to ≡ false = grind (arith, nat_tests) in ap (λ b. cond (leb from p && b) (Own None) ((context w c).cell (Page p))) none)
      ∙ not_in (leb from p) (Own None) ((context w c).cell (Page p)) ∙ ends.cells c p past
  mapped_cells c from to true within false dead p past = ap (λ (v : World). (context v c).cell (Page p)) ((changes.mapped w c from to).same dead) ∙ ends.cells c p past
  mapped_cells c from to false within false dead p past = ap (λ (v : World). (context v c).cell (Page p)) ((changes.unmapped w c from to).same dead) ∙ ends.cells c p past

  pub ends-map : (c : Name) (from to : ℕ) (present : Bool) → to ≤ w.size.pages → HasNoMore (mapped_or_not w c from to present)
  ends-map c from to present within =
      let change = maps c from to present in
      let there : (p : ℕ) → (mapped_or_not w c from to present).size.pages ≤ p → w.size.pages ≤ p = λ p past. subst (λ (z : WorldSize). z.pages ≤ p) change.0 past in record {
        few = subst (λ (z : WorldSize). z.pages ≤ MOST_PAGES) (sym change.0) ends.few;
        cells = λ e p past. cases_name e c
            (λ same. ap (λ (n : Name). (context (mapped_or_not w c from to present) n).cell (Page p)) same ∙ mapped_cells c from to present within (is_live w c) refl p (there p past))
            (λ other. ap (λ (x : Context). x.cell (Page p)) (change.1.0 e other) ∙ ends.cells e p (there p past));
        values = λ g p past. ap (λ (x : Group). x.value (Page p)) (change.1.1 g) ∙ ends.values g p (there p past);
      }

-- once values are shared
module _ (w : World) (ends : HasNoMore w) (c : Name) (job : ℕ) (items : List Item) where
  shared_cells : (b : Bool) → needs_group w c items ≡ b → (l : Bool) → is_live w c ≡ l → (p : ℕ) → w.size.pages ≤ p → (context (share w c job items) c).cell (Page p) ≡ Own None
  unfolding with_shared
  shared_cells false none l live p past = ap (λ (v : World). (context v c).cell (Page p)) ((changes.shared w c job items).none none) ∙ ends.cells c p past
  shared_cells true needed true live p past =
      ap (λ (x : Context). x.cell (Page p)) ((changes.shared w c job items).named needed live)
      ∙ shared_none (next_group w job) (mode_or_copy items (Page p)) p ((context w c).cell (Page p)) (ends.cells c p past)
  shared_cells true needed false dead p past = ap (λ (x : Context). x.cell (Page p)) ((changes.shared w c job items).dead dead) ∙ ends.cells c p past

  shared_values : (b : Bool) → needs_group w c items ≡ b → (g : Name) (p : ℕ) → w.size.pages ≤ p → (group (share w c job items) g).value (Page p) ≡ None
  unfolding moved_values
  shared_values false none g p past = ap (λ (v : World). (group v g).value (Page p)) ((changes.shared w c job items).none none) ∙ ends.values g p past
  shared_values true needed g p past =
      cases_name g (next_group w job)
      (λ same. ap (λ (n : Name). (group (share w c job items) n).value (Page p)) same ∙ ap (λ (x : Group). x.value (Page p)) ((changes.shared w c job items).moved needed)
      ∙ moved_none (mode_or_copy items (Page p)) p ((context w c).cell (Page p)) (ends.cells c p past))
      (λ other. ap (λ (x : Group). x.value (Page p)) ((changes.shared w c job items).groups g other) ∙ ends.values g p past)

  pub ends-share : HasNoMore (share w c job items)
  ends-share =
      let size = (changes.shared w c job items).size in
      let there : (p : ℕ) → (share w c job items).size.pages ≤ p → w.size.pages ≤ p = λ p past. subst (λ (s : WorldSize). s.pages ≤ p) size past in record {
        few = subst (λ (s : WorldSize). s.pages ≤ MOST_PAGES) (sym size) ends.few;
        cells = λ e p past. cases_name e c
            (λ same. ap (λ (n : Name). (context (share w c job items) n).cell (Page p)) same ∙ shared_cells (needs_group w c items) refl (is_live w c) refl p (there p past))
            (λ other. ap (λ (x : Context). x.cell (Page p)) ((changes.shared w c job items).others e other) ∙ ends.cells e p (there p past));
        values = λ g p past. shared_values (needs_group w c items) refl g p (there p past);
      }

-- once something is taken over
module _ (w : World) (ends : HasNoMore w) (to from : Name) (job : ℕ) (items : List Item) where
  overlaid_cells : (l : Bool) → is_live (share w from job items) to ≡ l → (p : ℕ) → (share w from job items).size.pages ≤ p → (context (overlay w to from job items) to).cell (Page p) ≡ Own None
  overlaid_cells true live p past =
      let s : World = share w from job items in
      let s_ends : HasNoMore s = ends-share w ends from job items in
      ap (λ (x : Context). x.cell (Page p)) ((changes.overlaid w to from job items).changed live)
      ∙ overlaid_none s s_ends from p (mode items (Page p)) ((context s to).cell (Page p)) past (s_ends.cells to p past)
  overlaid_cells false dead p past =
      ap (λ (v : World). (context v to).cell (Page p)) ((changes.overlaid w to from job items).same dead) ∙ (ends-share w ends from job items).cells to p past

  pub ends-overlay : HasNoMore (overlay w to from job items)
  ends-overlay =
      let s_ends : HasNoMore (share w from job items) = ends-share w ends from job items in
      let size = (changes.overlaid w to from job items).names.size in
      let there : (p : ℕ) → (overlay w to from job items).size.pages ≤ p → (share w from job items).size.pages ≤ p = λ p past. subst (λ (z : WorldSize). z.pages ≤ p) size past in record {
        few = subst (λ (z : WorldSize). z.pages ≤ MOST_PAGES) (sym size) s_ends.few;
        cells = λ e p past. cases_name e to
            (λ same. ap (λ (n : Name). (context (overlay w to from job items) n).cell (Page p)) same ∙ overlaid_cells (is_live (share w from job items) to) refl p (there p past))
            (λ other. ap (λ (x : Context). x.cell (Page p)) ((changes.overlaid w to from job items).others e other) ∙ s_ends.cells e p (there p past));
        values = λ g p past. ap (λ (x : Group). x.value (Page p)) ((changes.overlaid w to from job items).groups g) ∙ s_ends.values g p (there p past);
      }

-- once a request has begun
module _ (w : World) (ends : HasNoMore w) (home : Name) (r : ℕ) where
  pub ends-begin : HasNoMore (begin w home r)
  unfolding begin begun_context
  ends-begin =
      let adds = changes.context_added w (r + 1) (begun_context w home r) in
      let there : (p : ℕ) → (begin w home r).size.pages ≤ p → w.size.pages ≤ p = λ p past. subst (λ (z : WorldSize). z.pages ≤ p) adds.size past in record {
        few = subst (λ (z : WorldSize). z.pages ≤ MOST_PAGES) (sym adds.size) ends.few;
        cells = λ e p past. cases_name e (next_context w (r + 1))
            (λ same. ap (λ (n : Name). (context (begin w home r) n).cell (Page p)) same ∙ ap (λ (x : Context). x.cell (Page p)) adds.added ∙ ap Own (page-none w ends home p (there p past)))
            (λ other. ap (λ (x : Context). x.cell (Page p)) (adds.others e other) ∙ ends.cells e p (there p past));
        values = λ g p past. ap (λ (x : Group). x.value (Page p)) (changes.same_groups w (begin w home r) g adds.groups) ∙ ends.values g p (there p past);
      }
