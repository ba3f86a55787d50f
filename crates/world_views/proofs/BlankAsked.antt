-- What is asked of a world is answered the same where one context is blank.
use Rattle.std.proofs.Common.{◌≡◌, ◌≢◌, ℕ, ◌+◌, ◌*◌, ◌/◌, ◌%◌, zero, suc, refl, ap, ◌∙◌, Bool, true, false, cond, eqb, leb, ◌&&◌, ◌||◌, Option, Some, None, List, [], map}
use Rattle.std.specs.Prelude.{count_by, is_some, not, slice_index, unwrap_or}
use Rattle.std.specs.List.{find, list_all, range_with_len}
use Rattle.std.specs.Option.{option_map, option_map_or}
use Rattle.std.specs.Ordering.{eq_by_cmp}
use Rattle.std.specs.FinMap as fm
use Rattle.lwc_base.specs.Cells.{page_at, slot_at, uid_at, value_at, value_of}
use Rattle.lwc_base.specs.Keys.{ValueOf, is_there}
use Rattle.lwc_base.specs.Memory.{byte_at, bytes_for, is_present, load, touched}
use Rattle.lwc_base.specs.Modes.{mode_or_copy}
use Rattle.lwc_base.specs.Ranges.{are_of_one_kind, begins_range, is_page, ranges, ranges_of}
use Rattle.lwc_base.specs.Rights.{is_writable, may_write, same_right}
use Rattle.lwc_base.specs.Sharing.{any_key, has_own, is_moved, needs_group}
use Rattle.lwc_base.specs.Saved.{entered}
use Rattle.lwc_base.specs.Slots.{lowest_empty}
use Rattle.lwc_base.specs.Summaries.{is_empty, summary_of}
use Rattle.lwc_base.specs.World.{World, Context, context, group, is_live, new_context}
use Rattle.lwc_base.specs.declared.cell.Cell.{Cell}
use Rattle.lwc_base.specs.declared.cell.Cell.TheVariants.{Own, Common}
use Rattle.lwc_base.specs.declared.descriptor.Descriptor.{Descriptor}
use Rattle.lwc_base.specs.declared.item.Item.{Item}
use Rattle.lwc_base.specs.declared.item.Mode.{Mode}
use Rattle.lwc_base.specs.declared.item.Mode.TheVariants.{Copy, Share, Unmap, CopyRead}
use Rattle.lwc_types.specs.Names.{name_cmp}
use Rattle.lwc_types.specs.Pages.{bytes_of}
use Rattle.lwc_types.specs.Registers.{fresh_registers}
use Rattle.lwc_types.specs.declared.key.TheConstants.{SLOTS}
use Rattle.lwc_types.specs.declared.key.Key.{Key}
use Rattle.lwc_types.specs.declared.key.Key.TheVariants.{Page, Slot, Cred}
use Rattle.lwc_types.specs.declared.name.Name.{Name}
use Rattle.lwc_types.specs.declared.page.PageValue.{PageValue}
use Rattle.lwc_types.specs.declared.page.PageValue.TheVariants.{Zero, Data}
use Rattle.lwc_types.specs.declared.page.TheConstants.{PAGE_BYTES}
use Rattle.lwc_types.proofs.Orders.{other_name}
use Rattle.world_views.proofs.JobTables.{changed_entry, get-changed_entry}
use Rattle.world_views.specs.Blank.{blank, blank_cell, blank_context, blank_contexts, blank_found, blank_page, blank_value, tells_registers}

-- a page is there or not, blank or not
pub is_some-blank : (o : Option PageValue) → is_some (blank_page o) ≡ is_some o
is_some-blank None = refl
is_some-blank (Some Zero) = refl
is_some-blank (Some (Data tag bytes)) = refl

is_there-blank : (k : Key) (value : ValueOf k) → is_there k (blank_value k value) ≡ is_there k value
is_there-blank (Page p) value = is_some-blank value
is_there-blank (Slot n) value = refl
is_there-blank Cred value = refl

has_own-blank : (k : Key) (cell : Cell (ValueOf k)) → has_own k (blank_cell k cell) ≡ has_own k cell
has_own-blank k (Own value) = is_there-blank k value
has_own-blank k (Common g) = refl

is_moved-blank : (m : Mode) (k : Key) (cell : Cell (ValueOf k)) → is_moved m k (blank_cell k cell) ≡ is_moved m k cell
is_moved-blank Copy k cell = refl
is_moved-blank Share k cell = has_own-blank k cell
is_moved-blank Unmap k cell = refl
is_moved-blank CopyRead k cell = refl

-- cells of pages are of one kind, blank or not
kinds-blank : (p q : ℕ) (a b : Cell (Option PageValue)) → are_of_one_kind (blank_cell (Page p) a) (blank_cell (Page q) b) ≡ are_of_one_kind a b
kinds-blank p q (Own None) b = refl
kinds-blank p q (Own (Some Zero)) (Own None) = refl
kinds-blank p q (Own (Some Zero)) (Own (Some Zero)) = refl
kinds-blank p q (Own (Some Zero)) (Own (Some (Data tag bytes))) = refl
kinds-blank p q (Own (Some Zero)) (Common h) = refl
kinds-blank p q (Own (Some (Data tag bytes))) (Own None) = refl
kinds-blank p q (Own (Some (Data tag bytes))) (Own (Some Zero)) = refl
kinds-blank p q (Own (Some (Data tag bytes))) (Own (Some (Data other more))) = refl
kinds-blank p q (Own (Some (Data tag bytes))) (Common h) = refl
kinds-blank p q (Common g) (Own None) = refl
kinds-blank p q (Common g) (Own (Some Zero)) = refl
kinds-blank p q (Common g) (Own (Some (Data tag bytes))) = refl
kinds-blank p q (Common g) (Common h) = refl

is_page-blank : (p : ℕ) (a : Cell (Option PageValue)) → is_page (blank_cell (Page p) a) ≡ is_page a
is_page-blank p (Own value) = is_some-blank value
is_page-blank p (Common g) = refl

begins-blank : (keep : Bool) (x : Context) (p : ℕ) → begins_range (blank_context keep x) p ≡ begins_range x p
unfolding begins_range blank_context
begins-blank keep x zero = ap (λ b. b && true) (is_page-blank 0 (x.cell (Page 0)))
begins-blank keep x (suc p) = λ i. is_page-blank (suc p) (x.cell (Page (suc p))) i && not (kinds-blank p (suc p) (x.cell (Page p)) (x.cell (Page (suc p))) i && same_right (x.right p) (x.right (suc p)))

-- a blank context has as many ranges
ranges_in-blank : (keep : Bool) (pages : ℕ) (x : Context) → ranges pages (blank_context keep x) ≡ ranges pages x
unfolding ranges
ranges_in-blank keep pages x = λ i. count_by (λ p. begins-blank keep x p i) (range_with_len 0 pages)

some_either : (keep b : Bool) (o : Option Context) → is_some (cond b (option_map (blank_context keep) o) o) ≡ is_some o
some_either keep true None = refl
some_either keep true (Some x) = refl
some_either keep false o = refl

module _ (keep : Bool) (v : Name) where
  pub blanked : (m : fm.FinMap name_cmp Context) (o : Option Context) → blank_found keep v m o ≡ changed_entry m v (blank_context keep) o
  blanked m None = refl
  blanked m (Some x) = refl

  pub get-blank : (m : fm.FinMap name_cmp Context) (q : Name) →
      fm.get (blank_contexts keep v m) q ≡ cond (eq_by_cmp name_cmp q v) (option_map (blank_context keep) (fm.get m q)) (fm.get m q)
  unfolding blank_contexts
  get-blank m q = ap (λ n. fm.get n q) (blanked m (fm.get m v)) ∙ get-changed_entry m v (blank_context keep) q

  module _ (w : World) where
    pub live-blank : (c : Name) → is_live (blank keep v w) c ≡ is_live w c
    live-blank c = ap is_some (get-blank w.contexts c) ∙ some_either keep (eq_by_cmp name_cmp c v) (fm.get w.contexts c)

    -- what is so alike of each cell, blank or not, is so of each cell of each context
    pub through : {A : Type 0} (k : Key) (P : Cell (ValueOf k) → A) → ((cell : Cell (ValueOf k)) → P (blank_cell k cell) ≡ P cell) → (c : Name) →
        P ((context (blank keep v w) c).cell k) ≡ P ((context w c).cell k)
    unfolding context blank_context
    through k P same c = ap (λ o. P ((unwrap_or o (new_context 0 (fresh_registers 0))).cell k)) (get-blank w.contexts c) ∙ by (eq_by_cmp name_cmp c v) (fm.get w.contexts c)
      where
        by : (b : Bool) (o : Option Context) → P ((unwrap_or (cond b (option_map (blank_context keep) o) o) (new_context 0 (fresh_registers 0))).cell k)
            ≡ P ((unwrap_or o (new_context 0 (fresh_registers 0))).cell k)
        by true None = refl
        by true (Some x) = same (x.cell k)
        by false o = refl

    pub value_of-blank : (k : Key) (cell : Cell (ValueOf k)) → value_of (blank keep v w) k cell ≡ value_of w k cell
    unfolding group
    value_of-blank k (Own value) = refl
    value_of-blank k (Common g) = refl

    slot_cell : (n : ℕ) (cell : Cell Descriptor) → value_of w (Slot n) (blank_cell (Slot n) cell) ≡ value_of w (Slot n) cell
    slot_cell n (Own value) = refl
    slot_cell n (Common g) = refl

    uid_cell : (cell : Cell ℕ) → value_of w Cred (blank_cell Cred cell) ≡ value_of w Cred cell
    uid_cell (Own value) = refl
    uid_cell (Common g) = refl

    page_cell : (p : ℕ) (cell : Cell (Option PageValue)) → is_some (value_of w (Page p) (blank_cell (Page p) cell)) ≡ is_some (value_of w (Page p) cell)
    page_cell p (Own value) = is_some-blank value
    page_cell p (Common g) = refl

    -- a thread enters a blank context with the registers that it would enter it with, if that keeps them
    pub enters-blank : (c : Name) (t : ℕ) → tells_registers keep v c ≡ true → entered (context (blank keep v w) c) t ≡ entered (context w c) t
    unfolding context blank_context
    enters-blank c t tells = ap (λ o. entered (unwrap_or o (new_context 0 (fresh_registers 0))) t) (get-blank w.contexts c) ∙ by (eq_by_cmp name_cmp c v) (fm.get w.contexts c) tells
      where
        kept : (b : Bool) → b || false ≡ true → b ≡ true
        kept true is = refl
        kept false is = is

        by : (b : Bool) (o : Option Context) → keep || not b ≡ true → entered (unwrap_or (cond b (option_map (blank_context keep) o) o) (new_context 0 (fresh_registers 0))) t
            ≡ entered (unwrap_or o (new_context 0 (fresh_registers 0))) t
        by true None is = refl
        by true (Some x) is = ap (λ b. unwrap_or (cond b (x.saved t) None) x.entry) (kept keep is)
        by false o is = refl

    same_slot : (n : ℕ) (cell : Cell Descriptor) → blank_cell (Slot n) cell ≡ cell
    same_slot n (Own value) = refl
    same_slot n (Common g) = refl

    pub slot_cell-blank : (c : Name) (n : ℕ) → (context (blank keep v w) c).cell (Slot n) ≡ (context w c).cell (Slot n)
    slot_cell-blank c n = through (Slot n) (λ cell. cell) (same_slot n) c

    pub slot-blank : (c : Name) (n : ℕ) → slot_at (blank keep v w) c n ≡ slot_at w c n
    unfolding value_at
    slot-blank c n = value_of-blank (Slot n) ((context (blank keep v w) c).cell (Slot n)) ∙ through (Slot n) (value_of w (Slot n)) (slot_cell n) c

    same_uid : (cell : Cell ℕ) → blank_cell Cred cell ≡ cell
    same_uid (Own value) = refl
    same_uid (Common g) = refl

    pub uid_cell-blank : (c : Name) → (context (blank keep v w) c).cell Cred ≡ (context w c).cell Cred
    uid_cell-blank = through Cred (λ cell. cell) same_uid

    pub uid-blank : (c : Name) → uid_at (blank keep v w) c ≡ uid_at w c
    unfolding value_at
    uid-blank c = value_of-blank Cred ((context (blank keep v w) c).cell Cred) ∙ through Cred (value_of w Cred) uid_cell c

    page-blank : (c : Name) (p : ℕ) → is_some (page_at (blank keep v w) c p) ≡ is_some (page_at w c p)
    unfolding value_at
    page-blank c p =
        ap is_some (value_of-blank (Page p) ((context (blank keep v w) c).cell (Page p))) ∙ through (Page p) (λ cell. is_some (value_of w (Page p) cell)) (page_cell p) c

    pub lowest-blank : (c : Name) → lowest_empty (blank keep v w) c ≡ lowest_empty w c
    unfolding lowest_empty
    lowest-blank c = λ i. find (λ n. is_empty (slot-blank c n i)) (range_with_len 0 SLOTS)

    pub summary-blank : (c : Name) → summary_of (blank keep v w) c ≡ summary_of w c
    unfolding summary_of
    summary-blank c = λ i. record {
      pages = count_by (λ p. page-blank c p i) (range_with_len 0 w.size.pages);
      slots = count_by (λ n. not (is_empty (slot-blank c n i))) (range_with_len 0 SLOTS);
      uid = uid-blank c i;
    }

    pub needs-blank : (c : Name) (items : List Item) → needs_group (blank keep v w) c items ≡ needs_group w c items
    unfolding needs_group
    needs-blank c items = λ i. any_key w.size.pages (λ k. through k (is_moved (mode_or_copy items k) k) (is_moved-blank (mode_or_copy items k) k) c i)

    pub ranges-blank : (c : Name) → ranges_of (blank keep v w) c ≡ ranges_of w c
    unfolding ranges_of context
    ranges-blank c =
        ap (λ o. ranges w.size.pages (unwrap_or o (new_context 0 (fresh_registers 0)))) (get-blank w.contexts c) ∙ by (eq_by_cmp name_cmp c v) (fm.get w.contexts c)
      where
        by : (b : Bool) (o : Option Context) → ranges w.size.pages (unwrap_or (cond b (option_map (blank_context keep) o) o) (new_context 0 (fresh_registers 0)))
            ≡ ranges w.size.pages (unwrap_or o (new_context 0 (fresh_registers 0)))
        by true None = refl
        by true (Some x) = ranges_in-blank keep w.size.pages x
        by false o = refl

    module _ (c : Name) (outside : c ≢ v) where
      pub context-blank : context (blank keep v w) c ≡ context w c
      unfolding context
      context-blank =
          ap (λ o. unwrap_or o (new_context 0 (fresh_registers 0)))
          (get-blank w.contexts c ∙ ap (λ b. cond b (option_map (blank_context keep) (fm.get w.contexts c)) (fm.get w.contexts c)) (other_name c v outside))

      pub cell-blank : (k : Key) → (context (blank keep v w) c).cell k ≡ (context w c).cell k
      cell-blank k = ap (λ (x : Context). x.cell k) context-blank

      pub value-blank : (k : Key) → value_at (blank keep v w) c k ≡ value_at w c k
      unfolding value_at
      value-blank k = value_of-blank k ((context (blank keep v w) c).cell k) ∙ ap (value_of w k) (cell-blank k)

      pub present-blank : (from count : ℕ) → is_present (blank keep v w) c from count ≡ is_present w c from count
      unfolding is_present
      present-blank from count = λ i. list_all (λ p. is_some (value-blank (Page p) i)) (touched from count)

      pub writable-blank : (from count : ℕ) → is_writable (blank keep v w) c from count ≡ is_writable w c from count
      unfolding is_writable
      writable-blank from count = λ i. list_all (λ p. may_write ((context-blank i).right p)) (touched from count)

      byte-blank : (a : ℕ) → byte_at (blank keep v w) c a ≡ byte_at w c a
      unfolding byte_at
      byte-blank a = λ i. option_map_or (λ value. slice_index (bytes_of value) (a % PAGE_BYTES)) (value-blank (Page (a / PAGE_BYTES)) i) 0

      load-blank : (a count : ℕ) → load (blank keep v w) c a count ≡ load w c a count
      unfolding load
      load-blank a count = λ i. cond (present-blank a count i) (Some (map (λ b. byte-blank b i) (range_with_len a count))) None

      pub bytes-blank : (a count : ℕ) → bytes_for (blank keep v w) c a count ≡ bytes_for w c a count
      unfolding bytes_for
      bytes-blank a count = λ i. cond (eqb count 0) (Some []) (cond (leb (a + count) (w.size.pages * PAGE_BYTES)) (load-blank a count i) None)
