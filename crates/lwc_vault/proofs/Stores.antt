-- A store to a page of the vault's own, where that is hidden: nothing, or a page that takes a frame of its own.
use Rattle.std.proofs.Common.{◌≡◌, ℕ, ◌+◌, refl, sym, ap, ◌∙◌, Bool, true, false, cond, eqb, Option, Some, None, List, [], ◌∷◌, arith}
use Rattle.std.proofs.lemmas.Bool.{eqb-true}
use Rattle.std.specs.Prelude.{count_by, unwrap_or}
use Rattle.std.specs.FinMap as fm
use Rattle.std.specs.Option.{option_map}
use Rattle.std.specs.Ordering.{eq_by_cmp}
use Rattle.kernel_core.specs.Start.{vault_name}
use Rattle.lwc_base.specs.Cells.{put_at, put_in, value_at, value_of, with_cell}
use Rattle.lwc_base.specs.Frames.{is_parting}
use Rattle.lwc_base.specs.Keys.{with_key}
use Rattle.lwc_base.specs.Store.{Piece, bytes_after, page_value_at, put_pages, stored_pages, stored_value}
use Rattle.lwc_base.specs.World.{Context, World, change_context, change_counters, changed_context, context, new_context}
use Rattle.lwc_base.specs.declared.cell.Cell.{Cell}
use Rattle.lwc_base.specs.declared.cell.Cell.TheVariants.{Own}
use Rattle.lwc_types.specs.Names.{name_cmp}
use Rattle.lwc_types.specs.Pages.{bytes_of, zero_page}
use Rattle.lwc_types.specs.Registers.{fresh_registers}
use Rattle.lwc_types.specs.declared.key.Key.{Key}
use Rattle.lwc_types.specs.declared.key.Key.TheVariants.{Cred, Page, Slot}
use Rattle.lwc_types.specs.declared.name.Name.{Name}
use Rattle.lwc_types.specs.declared.name.Tag.{Tag}
use Rattle.lwc_types.specs.declared.page.PageValue.{PageValue}
use Rattle.lwc_types.specs.declared.page.PageValue.TheVariants.{Data, Zero}
use Rattle.lwc_types.proofs.Orders.{name_cmp-IsAntisymmetric, name_cmp-total, same_name}
use Rattle.world_views.proofs.BlankAsked.{get-blank}
use Rattle.world_views.proofs.JobTables.{changed_entry, get-changed_entry}
use Rattle.world_views.specs.Blank.{blank, blank_cell, blank_context, blank_contexts}

-- the world once a piece is in pages of the vault
abbrev pub stored_as : World → ℕ → Piece → List ℕ → World
stored_as w job piece ps =
    change_counters (put_pages w vault_name (stored_pages w vault_name job piece (w.next job).tags ps)) job
    (λ n. record n { tags = n.tags + count_by (λ p. is_parting w (page_value_at w vault_name p)) ps })

-- the hidden world once a page of the vault has taken a frame of its own
abbrev pub parted : World → ℕ → ℕ → World
parted u job p =
    change_counters (change_context u vault_name (with_cell (Page p) (Own (Some (Data (record { job = job; k = (u.next job).tags }) zero_page))))) job
    (λ n. record n { tags = n.tags + 1 })

changed_as : (w : World) (f : Context → Context) (o : Option Context) → changed_context w vault_name f o ≡ record w { contexts = changed_entry w.contexts vault_name f o }
changed_as w f None = refl
changed_as w f (Some x) = refl

-- a change of the vault is another one, or none, where that is hidden
change-hide : (w : World) (f g : Context → Context) → ((x : Context) → fm.get w.contexts vault_name ≡ Some x → g (blank_context false x) ≡ blank_context false (f x)) →
    blank false vault_name (change_context w vault_name f) ≡ change_context (blank false vault_name w) vault_name g
unfolding change_context
change-hide w f g same =
    ap (blank false vault_name) (changed_as w f (fm.get w.contexts vault_name))
    ∙ (λ i. record w { contexts = tables i })
    ∙ sym (changed_as (blank false vault_name w) g (fm.get (blank_contexts false vault_name w.contexts) vault_name))
  where
    by : (q : Name) (b : Bool) → eq_by_cmp name_cmp q vault_name ≡ b → (o : Option Context) → fm.get w.contexts q ≡ o →
        cond b (option_map (blank_context false) (cond b (option_map f o) o)) (cond b (option_map f o) o) ≡ cond b (option_map g (cond b (option_map (blank_context false) o) o)) (cond b (option_map (blank_context false) o) o)
    by q true is None found = refl
    by q true is (Some x) found = ap Some (sym (same x (ap (fm.get w.contexts) (sym (same_name q vault_name is)) ∙ found)))
    by q false is o found = refl

    tables : blank_contexts false vault_name (changed_entry w.contexts vault_name f (fm.get w.contexts vault_name))
        ≡ changed_entry (blank_contexts false vault_name w.contexts) vault_name g (fm.get (blank_contexts false vault_name w.contexts) vault_name)
    tables = fm.same_map name_cmp-total name_cmp-IsAntisymmetric _ _ (λ q.
        get-blank false vault_name (changed_entry w.contexts vault_name f (fm.get w.contexts vault_name)) q
        ∙ ap (λ o. cond (eq_by_cmp name_cmp q vault_name) (option_map (blank_context false) o) o) (get-changed_entry w.contexts vault_name f q)
        ∙ by q (eq_by_cmp name_cmp q vault_name) refl (fm.get w.contexts q) refl
        ∙ ap (λ o. cond (eq_by_cmp name_cmp q vault_name) (option_map g o) o) (sym (get-blank false vault_name w.contexts q))
        ∙ sym (get-changed_entry (blank_contexts false vault_name w.contexts) vault_name g q))

no_change : (u : World) → change_context u vault_name (λ x. x) ≡ u
unfolding change_context
no_change u =
    changed_as u (λ x. x) (fm.get u.contexts vault_name)
    ∙ ap (λ (m : fm.FinMap name_cmp Context). record u { contexts = m }) (fm.same_map name_cmp-total name_cmp-IsAntisymmetric _ _ (λ q.
    get-changed_entry u.contexts vault_name (λ x. x) q ∙ by (eq_by_cmp name_cmp q vault_name) (fm.get u.contexts q)))
  where
    by : (b : Bool) (o : Option Context) → cond b (option_map (λ (x : Context). x) o) o ≡ o
    by true None = refl
    by true (Some x) = refl
    by false o = refl

-- no tag more
no_count : (u : World) (job : ℕ) → change_counters u job (λ n. record n { tags = n.tags + 0 }) ≡ u
unfolding change_counters
no_count u job = λ i. record u { next = λ j. by j (eqb j job) i }
  where
    by : (j : ℕ) (b : Bool) → cond b (record (u.next j) { tags = (u.next j).tags + 0 }) (u.next j) ≡ u.next j
    by j true = let same : (u.next j).tags + 0 ≡ (u.next j).tags = omega arith in ap (λ n. record (u.next j) { tags = n }) same
    by j false = refl

-- new bytes under a new tag are zeros under it, hidden
with-hide : (p : ℕ) (tag : Tag) (bytes : List ℕ) (x : Context) →
    with_cell (Page p) (Own (Some (Data tag zero_page))) (blank_context false x) ≡ blank_context false (with_cell (Page p) (Own (Some (Data tag bytes))) x)
unfolding blank_context
with-hide p tag bytes x = λ i. record x { cell = λ k. at k i; saved = λ t. None }
  where
    either : (q : ℕ) (b : Bool) (cell : Cell (Option PageValue)) → cond b (Own (Some (Data tag zero_page))) (blank_cell (Page q) cell) ≡ blank_cell (Page q) (cond b (Own (Some (Data tag bytes))) cell)
    either q true cell = refl
    either q false cell = refl

    at : (k : Key) → with_key Cell (Page p) (Own (Some (Data tag zero_page))) (λ q. blank_cell q (x.cell q)) k ≡ blank_cell k (with_key Cell (Page p) (Own (Some (Data tag bytes))) x.cell k)
    at (Page q) = either q (eqb q p) (x.cell (Page q))
    at (Slot n) = refl
    at Cred = refl

-- new bytes under the same tag are no change, hidden
same-hide : (p : ℕ) (tag : Tag) (old bytes : List ℕ) (x : Context) → x.cell (Page p) ≡ Own (Some (Data tag old)) →
    blank_context false x ≡ blank_context false (with_cell (Page p) (Own (Some (Data tag bytes))) x)
unfolding blank_context
same-hide p tag old bytes x own = λ i. record x { cell = λ k. at k i; saved = λ t. None }
  where
    either : (q : ℕ) (b : Bool) → eqb q p ≡ b → blank_cell (Page q) (x.cell (Page q)) ≡ blank_cell (Page q) (cond b (Own (Some (Data tag bytes))) (x.cell (Page q)))
    either q true is = ap (λ r. blank_cell (Page r) (x.cell (Page r))) (eqb-true q p is) ∙ ap (blank_cell (Page p)) own
    either q false is = refl

    at : (k : Key) → blank_cell k (x.cell k) ≡ blank_cell k (with_key Cell (Page p) (Own (Some (Data tag bytes))) x.cell k)
    at (Page q) = either q (eqb q p) refl
    at (Slot n) = refl
    at Cred = refl

module _ (w : World) (job : ℕ) (piece : Piece) (p : ℕ) where
  abbrev tag : Tag
  tag = record { job = job; k = (w.next job).tags }

  -- the world after the store, by the cell of the page
  abbrev by_cell : Cell (Option PageValue) → World
  by_cell cell =
      change_counters (put_in w vault_name (Page p) (Some (stored_value (is_parting w (unwrap_or (value_of w (Page p) cell) Zero)) tag (unwrap_or (value_of w (Page p) cell) Zero)
      (bytes_after piece p (bytes_of (unwrap_or (value_of w (Page p) cell) Zero))))) cell) job
      (λ n. record n { tags = n.tags + count_by (λ (q : ℕ). is_parting w (unwrap_or (value_of w (Page p) cell) Zero)) (p ∷ []) })

  stored_by : stored_as w job piece (p ∷ []) ≡ by_cell ((context w vault_name).cell (Page p))
  unfolding put_at value_at
  stored_by = refl

  module _ (value : PageValue) (own : (context w vault_name).cell (Page p) ≡ Own (Some value)) where
    abbrev bytes : List ℕ
    bytes = bytes_after piece p (bytes_of value)

    -- by whether it parts
    abbrev by_part : Bool → World
    by_part b = change_counters (change_context w vault_name (with_cell (Page p) (Own (Some (stored_value b tag value bytes))))) job (λ n. record n { tags = n.tags + count_by (λ (q : ℕ). b) (p ∷ []) })

    stored_part : (b : Bool) → is_parting w value ≡ b → stored_as w job piece (p ∷ []) ≡ by_part b
    stored_part b is = stored_by ∙ ap by_cell own ∙ ap by_part is

    new_value : stored_value true tag value bytes ≡ Data tag bytes
    new_value = by value
      where
        by : (v : PageValue) → stored_value true tag v bytes ≡ Data tag bytes
        by Zero = refl
        by (Data other old) = refl

    -- the context of the vault has this cell
    found : (x : Context) → fm.get w.contexts vault_name ≡ Some x → x.cell (Page p) ≡ Own (Some value)
    unfolding context
    found x is = sym (ap (λ o. (unwrap_or o (new_context 0 (fresh_registers 0))).cell (Page p)) is) ∙ own

    hidden_new : blank false vault_name (by_part true) ≡ parted (blank false vault_name w) job p
    unfolding change_counters
    hidden_new = ap (λ u. change_counters u job (λ n. record n { tags = n.tags + 1 }))
        (change-hide w (with_cell (Page p) (Own (Some (stored_value true tag value bytes)))) (with_cell (Page p) (Own (Some (Data tag zero_page))))
        (λ x is. with-hide p tag bytes x ∙ ap (λ v. blank_context false (with_cell (Page p) (Own (Some v)) x)) (sym new_value)))

    keeps : is_parting w value ≡ false → (x : Context) → fm.get w.contexts vault_name ≡ Some x → blank_context false x ≡ blank_context false (with_cell (Page p) (Own (Some (stored_value false tag value bytes))) x)
    unfolding is_parting
    keeps is x at = by value is (found x at)
      where
        by : (v : PageValue) → is_parting w v ≡ false → x.cell (Page p) ≡ Own (Some v) → blank_context false x ≡ blank_context false (with_cell (Page p) (Own (Some (stored_value false tag v bytes))) x)
        by Zero not here = absurd cc
        by (Data other old) not here = same-hide p other old bytes x here

    hidden_old : is_parting w value ≡ false → blank false vault_name (by_part false) ≡ blank false vault_name w
    unfolding change_counters
    hidden_old is =
        ap (λ u. change_counters u job (λ n. record n { tags = n.tags + 0 })) (change-hide w (with_cell (Page p) (Own (Some (stored_value false tag value bytes)))) (λ x. x) (keeps is) ∙ no_change (blank false vault_name w))
        ∙ no_count (blank false vault_name w) job

    pub store-hide : (b : Bool) → is_parting w value ≡ b → blank false vault_name (stored_as w job piece (p ∷ [])) ≡ cond b (parted (blank false vault_name w) job p) (blank false vault_name w)
    store-hide true is = ap (blank false vault_name) (stored_part true is) ∙ hidden_new
    store-hide false is = ap (blank false vault_name) (stored_part false is) ∙ hidden_old is
