-- A world with one context more: what changes of it make, and a whole page that is stored in it.
use Rattle.std.proofs.Common.{◌≡◌, ℕ, ◌+◌, ◌*◌, ◌<◌, refl, ap, ◌∙◌, Bool, true, false, cond, eqb, ltb, ◌&&◌, Some, List, [], ◌∷◌, length, arith}
use Rattle.std.specs.FinMap as fm
use Rattle.std.specs.List.{list_all}
use Rattle.std.specs.Prelude.{count_by, is_some, not, unwrap_or}
use Rattle.std.proofs.lemmas.Bool.Decides.{nat_tests}
use Rattle.kernel_core.specs.Start.{with_context}
use Rattle.lwc_base.specs.Cells.{page_at, put_at, put_in, value_at, value_of, with_cell}
use Rattle.lwc_base.specs.Frames.{is_parting, used}
use Rattle.lwc_base.specs.Keys.{ValueOf, is_there}
use Rattle.lwc_base.specs.Mapping.{map_pages, with_zeros}
use Rattle.lwc_base.specs.Memory.{is_present}
use Rattle.lwc_base.specs.Rights.{is_writable, may_write, right_at}
use Rattle.lwc_base.specs.Store.{Done, after_store, bytes_after, page_value_at, parting_count, stored_pages, put_pages, store, stored_value}
use Rattle.lwc_base.specs.World.{World, Context, add_context, change_context, change_counters, changed_context, context, is_live, new_context, next_context}
use Rattle.lwc_base.specs.declared.cell.Cell.TheVariants.{Own}
use Rattle.lwc_base.proofs.Facts.{orders}
use Rattle.lwc_types.specs.Pages.{bytes_of, zero_page}
use Rattle.lwc_types.specs.Registers.{fresh_registers}
use Rattle.lwc_types.specs.declared.counters.Counters.{Counters}
use Rattle.lwc_types.specs.declared.right.Right.TheVariants.{Write}
use Rattle.lwc_types.specs.declared.key.Key.{Key}
use Rattle.lwc_types.specs.declared.key.Key.TheVariants.{Page}
use Rattle.lwc_types.specs.declared.name.Name.{Name}
use Rattle.lwc_types.specs.declared.page.PageValue.TheVariants.{Zero, Data}
use Rattle.lwc_types.proofs.Orders.{name-itself}
use Rattle.kernel_core.proofs.FirstWorld.{bytes_whole, is_done, length-zero_page, page_piece, touched_page}
use Rattle.snapshot_host.proofs.Copies.{insert-twice}

counted_more : (b : Bool) (n : Counters) (tags more : ℕ) → more ≡ 1 →
    cond b (record (cond b (record n { contexts = n.contexts + 1; tags = n.tags + tags }) n) { tags = (cond b (record n { contexts = n.contexts + 1; tags = n.tags + tags }) n).tags + more }) (cond b (record n { contexts = n.contexts + 1; tags = n.tags + tags }) n)
    ≡ cond b (record n { contexts = n.contexts + 1; tags = n.tags + (tags + 1) }) n
counted_more true n tags more one = ap (λ t. record n { contexts = n.contexts + 1; tags = t }) (omega (arith, one))
counted_more false n tags more one = refl

added_none : (b : Bool) (n : Counters) → cond b (record n { contexts = n.contexts + 1 }) n ≡ cond b (record n { contexts = n.contexts + 1; tags = n.tags + 0 }) n
added_none true n = ap (λ t. record n { contexts = n.contexts + 1; tags = t }) (omega arith)
added_none false n = refl

module _ (w : World) (c : Name) where
  -- its context
  get-held : (x : Context) → fm.get (fm.insert w.contexts c x) c ≡ Some x
  get-held x = fm.get-insert orders.names w.contexts c x c ∙ ap (λ b. cond b (Some x) (fm.get w.contexts c)) (name-itself c)

  pub context-held : (tags : ℕ) (x : Context) → context (with_context w c tags x) c ≡ x
  unfolding context with_context change_counters
  context-held tags x = ap (λ o. unwrap_or o (new_context 0 (fresh_registers 0))) (get-held x)

  pub live-held : (tags : ℕ) (x : Context) → is_live (with_context w c tags x) c ≡ true
  unfolding with_context change_counters
  live-held tags x = ap is_some (get-held x)

  change-held : (tags : ℕ) (x : Context) (change : Context → Context) → change_context (with_context w c tags x) c change ≡ with_context w c tags (change x)
  unfolding change_context with_context change_counters
  change-held tags x change =
      ap (changed_context (with_context w c tags x) c change) (get-held x)
      ∙ ap (λ m. record (with_context w c tags x) { contexts = m }) (insert-twice w.contexts c x (change x))

  -- another value under a key of its own
  pub put_at-held : (tags : ℕ) (x : Context) (k : Key) (old value : ValueOf k) → x.cell k ≡ Own old → is_there k old ≡ true →
      put_at (with_context w c tags x) c k value ≡ with_context w c tags (with_cell k (Own value) x)
  unfolding put_at
  put_at-held tags x k old value own there =
      ap (put_in (with_context w c tags x) c k value) (ap (λ (y : Context). y.cell k) (context-held tags x) ∙ own)
      ∙ ap (λ b. cond b (change_context (with_context w c tags x) c (with_cell k (Own value))) (with_context w c tags x)) there
      ∙ change-held tags x (with_cell k (Own value))

  -- pages that are mapped
  pub map-held : (tags : ℕ) (x : Context) (from to : ℕ) → map_pages (with_context w c tags x) c from to ≡ with_context w c tags (with_zeros from to x)
  unfolding map_pages
  map-held tags x from to = change-held tags x (with_zeros from to)

  one_more_tag : (tags : ℕ) (x : Context) (more : ℕ) → more ≡ 1 → change_counters (with_context w c tags x) 0 (λ n. record n { tags = n.tags + more }) ≡ with_context w c (tags + 1) x
  unfolding with_context change_counters
  one_more_tag tags x more one = λ i. record (with_context w c tags x) { next = λ j. counted_more (eqb j 0) (w.next j) tags more one i }

  -- a page of zeros of it, for which a frame is free, and the whole page that is stored over it
  module _ (tags p : ℕ) (x : Context) (bytes : List ℕ) (whole : length bytes ≡ 4096) (zeros : x.cell (Page p) ≡ Own (Some Zero)) (right : x.right p ≡ Write)
      (free : used (with_context w c tags x) < w.size.frames) where
    u : World
    u = with_context w c tags x

    stored : Context
    stored = with_cell (Page p) (Own (Some (Data (record { job = 0; k = (w.next 0).tags + tags }) bytes))) x

    page-zeros : page_at u c p ≡ Some Zero
    unfolding value_at u
    page-zeros = ap (value_of u (Page p)) (ap (λ (y : Context). y.cell (Page p)) (context-held tags x) ∙ zeros)

    value-zeros : page_value_at u c p ≡ Zero
    value-zeros = ap (λ o. unwrap_or o Zero) page-zeros

    parting-one : parting_count u c (page_piece p bytes) ≡ 1
    unfolding parting_count is_parting
    parting-one =
        ap (count_by (λ q. is_parting u (page_value_at u c q))) (touched_page p (length bytes) whole)
        ∙ ap (λ b. 0 + cond b 1 0) (ap (is_parting u) value-zeros)

    present-one : not (is_present u c (p * 4096) (length bytes)) ≡ false
    unfolding is_present
    present-one =
        ap (λ l. not (list_all (λ q. is_some (page_at u c q)) l)) (touched_page p (length bytes) whole)
        ∙ ap (λ o. not (is_some o && true)) page-zeros

    writable-one : not (is_writable u c (p * 4096) (length bytes)) ≡ false
    unfolding is_writable u
    writable-one =
        ap (λ l. not (list_all (λ q. may_write (right_at (with_context w c tags x) c q)) l)) (touched_page p (length bytes) whole)
        ∙ ap (λ r. not (may_write r && true)) (ap (λ (y : Context). y.right p) (context-held tags x) ∙ right)

    stored_pages-one : stored_pages u c 0 (page_piece p bytes) ((w.next 0).tags + tags) (p ∷ []) ≡ (p, Data (record { job = 0; k = (w.next 0).tags + tags }) bytes) ∷ []
    unfolding is_parting
    stored_pages-one =
        ap (λ v. (p, stored_value (is_parting u v) (record { job = 0; k = (w.next 0).tags + tags }) v (bytes_after (page_piece p bytes) p (bytes_of v))) ∷ []) value-zeros
        ∙ ap (λ l. (p, Data (record { job = 0; k = (w.next 0).tags + tags }) l) ∷ []) (bytes_whole p bytes zero_page whole length-zero_page)

    abbrev with_tags : World → World
    with_tags v = change_counters v 0 (λ n. record n { tags = n.tags + parting_count u c (page_piece p bytes) })

    after_store-one : after_store u c 0 (page_piece p bytes) ≡ with_context w c (tags + 1) stored
    unfolding after_store with_context change_counters u stored
    after_store-one =
        ap (λ l. with_tags (put_pages (with_context w c tags x) c (stored_pages (with_context w c tags x) c 0 (page_piece p bytes) ((w.next 0).tags + tags) l))) (touched_page p (length bytes) whole)
        ∙ ap (λ l. with_tags (put_pages (with_context w c tags x) c l)) stored_pages-one
        ∙ ap with_tags (put_at-held tags x (Page p) (Some Zero) (Some (Data (record { job = 0; k = (w.next 0).tags + tags }) bytes)) zeros refl)
        ∙ one_more_tag tags stored _ parting-one

    frame_free : ltb w.size.frames (used u + parting_count u c (page_piece p bytes)) ≡ false
    unfolding u with_context change_counters
    frame_free = let parts = parting-one in grind (arith, nat_tests)

    -- the store is done
    pub store-held : store (with_context w c tags x) c 0 (page_piece p bytes)
        ≡ Done (with_context w c (tags + 1) (with_cell (Page p) (Own (Some (Data (record { job = 0; k = (w.next 0).tags + tags }) bytes))) x))
    unfolding store u stored with_context change_counters
    store-held = is_done _ _ _ _ present-one writable-one frame_free ∙ ap Done after_store-one

-- a new context of job 0 has no tags
pub added-held : (w : World) (x : Context) → add_context w 0 x ≡ with_context w (next_context w 0) 0 x
unfolding add_context with_context change_counters
added-held w x = λ i. record w { contexts = fm.insert w.contexts (next_context w 0) x; next = λ j. added_none (eqb j 0) (w.next j) i }
