-- What a change of a row makes of the context, or of the group, that it stands for.
use Rattle.std.proofs.Common.{◌≡◌, ℕ, ◌+◌, ◌<◌, ◌≤◌, ◌&&◌, leb, ltb, arith, get_or, refl, ap, ◌∙◌, eqb, cond, None, Some, Option, length, vec_len}
use Rattle.std.proofs.Math.ListN.{set}
use Rattle.std.specs.Prelude.{replicate}
use Rattle.std.specs.Vec.{with_item}
use Rattle.std.proofs.lemmas.Bool.Decides.{nat_tests}
use Rattle.std.proofs.lemmas.Grind.{common_steps}
use Rattle.lwc_base.specs.declared.cell.Cell.{Cell}
use Rattle.lwc_base.specs.declared.cell.Cell.TheVariants.{Own}
use Rattle.lwc_base.specs.declared.descriptor.Descriptor.{Descriptor}
use Rattle.lwc_base.specs.declared.descriptor.Descriptor.TheVariants.{Empty}
use Rattle.lwc_base.specs.Cells.{with_cell, with_value}
use Rattle.lwc_base.specs.Keys.{nothing, with_key}
use Rattle.lwc_base.specs.Mapping.{on_pages, writable_in}
use Rattle.lwc_base.specs.Modes.{kind_of, limit, number_of}
use Rattle.lwc_base.specs.Saved.{with_saved}
use Rattle.lwc_base.specs.World.{Context, new_context, new_group, new_value}
use Rattle.lwc_types.specs.declared.key.TheConstants.{SLOTS}
use Rattle.lwc_types.specs.declared.key.Key.{Key}
use Rattle.lwc_types.specs.declared.key.Key.TheVariants.{Page, Slot, Cred}
use Rattle.lwc_types.specs.declared.key.TheConstants.{NOBODY}
use Rattle.lwc_types.specs.declared.page.PageValue.{PageValue}
use Rattle.lwc_types.specs.declared.regs.Regs.{Regs}
use Rattle.lwc_types.specs.declared.right.Right.{Right}
use Rattle.lwc_types.specs.declared.right.Right.TheVariants.{Write}
use Rattle.whole_world.specs.declared.context_row.ContextRow.{ContextRow}
use Rattle.whole_world.specs.declared.group_row.GroupRow.{GroupRow}
use Rattle.whole_world.specs.Rows.{cell_of, context_of, group_of, value_of, with_right}
use Rattle.whole_world.specs.Sound.{IsWhole}
use Rattle.whole_world.proofs.Places.{place_after_set, place_of_replicate}

module _ (row : ContextRow) where
  -- another cell of a page
  pub context-page : (p : ℕ) (cell : Cell (Option PageValue)) → p < vec_len row.pages →
      context_of (record row { pages = with_item row.pages p cell }) ≡ with_cell (Page p) cell (context_of row)
  unfolding context_of cell_of
  context-page p cell within =
      let at : (k : Key) → cell_of (record row { pages = with_item row.pages p cell }) k ≡ with_key Cell (Page p) cell (cell_of row) k =
      λ k. elim k as (λ k. cell_of (record row { pages = with_item row.pages p cell }) k ≡ with_key Cell (Page p) cell (cell_of row) k) [
        | Page q ↦ place_after_set row.pages.items p cell q (Own None) (omega (arith, row.pages.ok.0))
        | Slot n ↦ refl
        | Cred ↦ refl
      ] in
      λ i. record (context_of row) { cell = λ k. at k i }

  -- of a slot
  pub context-slot : (n : ℕ) (cell : Cell Descriptor) → n < vec_len row.slots →
      context_of (record row { slots = with_item row.slots n cell }) ≡ with_cell (Slot n) cell (context_of row)
  unfolding context_of cell_of
  context-slot n cell within =
      let at : (k : Key) → cell_of (record row { slots = with_item row.slots n cell }) k ≡ with_key Cell (Slot n) cell (cell_of row) k =
      λ k. elim k as (λ k. cell_of (record row { slots = with_item row.slots n cell }) k ≡ with_key Cell (Slot n) cell (cell_of row) k) [
        | Page p ↦ refl
        | Slot m ↦ place_after_set row.slots.items n cell m (Own Empty) (omega (arith, row.slots.ok.0))
        | Cred ↦ refl
      ] in
      λ i. record (context_of row) { cell = λ k. at k i }

  -- of the credential
  pub context-cred : (cell : Cell ℕ) → context_of (record row { uid = cell }) ≡ with_cell Cred cell (context_of row)
  unfolding context_of cell_of
  context-cred cell =
      let at : (k : Key) → cell_of (record row { uid = cell }) k ≡ with_key Cell Cred cell (cell_of row) k =
      λ k. elim k as (λ k. cell_of (record row { uid = cell }) k ≡ with_key Cell Cred cell (cell_of row) k) [ Page p ↦ refl | Slot n ↦ refl | Cred ↦ refl ] in
      λ i. record (context_of row) { cell = λ k. at k i }

  -- other registers that are kept for a thread
  pub context-saved : (t : ℕ) (regs : Regs) → t < length row.saved → context_of (record row { saved = set row.saved t (Some regs) }) ≡ with_saved t regs (context_of row)
  unfolding context_of cell_of
  context-saved t regs within =
      let at : (k : Key) → cell_of (record row { saved = set row.saved t (Some regs) }) k ≡ cell_of row k =
      λ k. elim k as (λ k. cell_of (record row { saved = set row.saved t (Some regs) }) k ≡ cell_of row k) [ Page p ↦ refl | Slot n ↦ refl | Cred ↦ refl ] in
      λ i. record (context_of row) { cell = λ k. at k i; saved = λ s. place_after_set row.saved t (Some regs) s None within i }

  -- another right of a page
  pub context-right : (p : ℕ) (right : Right) → p < vec_len row.rights → context_of (record row { rights = with_item row.rights p right }) ≡ with_right p right (context_of row)
  unfolding context_of cell_of
  context-right p right within =
      let at : (k : Key) → cell_of (record row { rights = with_item row.rights p right }) k ≡ cell_of row k =
      λ k. elim k as (λ k. cell_of (record row { rights = with_item row.rights p right }) k ≡ cell_of row k) [ Page q ↦ refl | Slot n ↦ refl | Cred ↦ refl ] in
      λ i. record (context_of row) { cell = λ k. at k i; right = λ q. place_after_set row.rights.items p right q Write (omega (arith, row.rights.ok.0)) i }

  -- a context as it is made
  pub context-new : (count slots threads uid : ℕ) → row.pages.items ≡ replicate count (Own None) → row.rights.items ≡ replicate count Write →
      row.slots.items ≡ replicate slots (Own Empty) → row.saved ≡ replicate threads None → row.uid ≡ Own uid → context_of row ≡ new_context uid row.entry
  unfolding context_of cell_of
  context-new count slots threads uid absent writable empty unsaved is =
      let at : (k : Key) → cell_of row k ≡ Own (new_value uid k) =
      λ k. elim k as (λ k. cell_of row k ≡ Own (new_value uid k)) [
        | Page p ↦ ap (λ l. get_or l p (Own None)) absent ∙ place_of_replicate count (Own None) p
        | Slot n ↦ ap (λ l. get_or l n (Own Empty)) empty ∙ place_of_replicate slots (Own Empty) n
        | Cred ↦ is
      ] in
      let none : (t : ℕ) → get_or row.saved t None ≡ None = λ t. ap (λ l. get_or l t None) unsaved ∙ place_of_replicate threads None t in
      let all : (p : ℕ) → get_or row.rights.items p Write ≡ Write = λ p. ap (λ l. get_or l p Write) writable ∙ place_of_replicate count Write p in
      λ i. record (context_of row) { cell = λ k. at k i; right = λ p. all p i; saved = λ t. none t i }

  -- nothing is past the keys of a row
  pub cell-past : (count : ℕ) (k : Key) → IsWhole count row → limit count (kind_of k) ≤ number_of k → (context_of row).cell k ≡ Own (nothing k)
  unfolding context_of cell_of
  cell-past count (Page p) whole h = let e : vec_len row.pages ≡ count = whole.pages in grind (arith, common_steps)
  cell-past count (Slot n) whole h = let e : vec_len row.slots ≡ SLOTS = whole.slots in grind (arith, common_steps)
  cell-past count Cred whole h = absurd (omega arith)

  -- and the rights past its pages are those of new ones
  pub right-past : (count p : ℕ) → IsWhole count row → count ≤ p → (context_of row).right p ≡ Write
  unfolding context_of
  right-past count p whole h = let e : vec_len row.rights ≡ count = whole.rights in grind (arith, common_steps)

module _ (row : GroupRow) where
  -- another value of a page
  pub group-page : (p : ℕ) (value : Option PageValue) → p < vec_len row.pages →
      group_of (record row { pages = with_item row.pages p value }) ≡ with_value (Page p) value (group_of row)
  unfolding group_of value_of
  group-page p value within =
      let at : (k : Key) → value_of (record row { pages = with_item row.pages p value }) k ≡ with_key (λ T. T) (Page p) value (value_of row) k =
      λ k. elim k as (λ k. value_of (record row { pages = with_item row.pages p value }) k ≡ with_key (λ T. T) (Page p) value (value_of row) k) [
        | Page q ↦ place_after_set row.pages.items p value q None (omega (arith, row.pages.ok.0))
        | Slot n ↦ refl
        | Cred ↦ refl
      ] in
      λ i. record { value = λ k. at k i }

  -- of a slot
  pub group-slot : (n : ℕ) (value : Descriptor) → n < vec_len row.slots →
      group_of (record row { slots = with_item row.slots n value }) ≡ with_value (Slot n) value (group_of row)
  unfolding group_of value_of
  group-slot n value within =
      let at : (k : Key) → value_of (record row { slots = with_item row.slots n value }) k ≡ with_key (λ T. T) (Slot n) value (value_of row) k =
      λ k. elim k as (λ k. value_of (record row { slots = with_item row.slots n value }) k ≡ with_key (λ T. T) (Slot n) value (value_of row) k) [
        | Page p ↦ refl
        | Slot m ↦ place_after_set row.slots.items n value m Empty (omega (arith, row.slots.ok.0))
        | Cred ↦ refl
      ] in
      λ i. record { value = λ k. at k i }

  -- of the credential
  pub group-cred : (uid : ℕ) → group_of (record row { uid = uid }) ≡ with_value Cred uid (group_of row)
  unfolding group_of value_of
  group-cred uid =
      let at : (k : Key) → value_of (record row { uid = uid }) k ≡ with_key (λ T. T) Cred uid (value_of row) k =
      λ k. elim k as (λ k. value_of (record row { uid = uid }) k ≡ with_key (λ T. T) Cred uid (value_of row) k) [ Page p ↦ refl | Slot n ↦ refl | Cred ↦ refl ] in
      λ i. record { value = λ k. at k i }

  -- a group with nothing in it
  pub group-new : (count slots : ℕ) → row.pages.items ≡ replicate count None → row.slots.items ≡ replicate slots Empty → row.uid ≡ NOBODY → group_of row ≡ new_group
  unfolding group_of value_of
  group-new count slots absent empty is =
      let at : (k : Key) → value_of row k ≡ nothing k =
      λ k. elim k as (λ k. value_of row k ≡ nothing k) [
        | Page p ↦ ap (λ l. get_or l p None) absent ∙ place_of_replicate count None p
        | Slot n ↦ ap (λ l. get_or l n Empty) empty ∙ place_of_replicate slots Empty n
        | Cred ↦ is
      ] in
      λ i. record { value = λ k. at k i }

-- no page is another yet
pub on_pages-none : (from : ℕ) (cell : Cell (Option PageValue)) (x : Context) → x ≡ record x { cell = on_pages from from cell x.cell; right = writable_in from from x.right }
on_pages-none from cell x =
    let at : (k : Key) → x.cell k ≡ on_pages from from cell x.cell k =
    λ k. elim k as (λ k. x.cell k ≡ on_pages from from cell x.cell k) [ Page q ↦ outside from q cell (x.cell (Page q)) | Slot n ↦ refl | Cred ↦ refl ] in
    λ i. record x { cell = λ k. at k i; right = λ q. outside from q Write (x.right q) i }
  where
    outside : {A : Type 0} (a q : ℕ) (new old : A) → old ≡ cond (leb a q && ltb q a) new old
    outside a q new old = grind (arith, nat_tests)

-- one page more is
pub on_pages-more : (from p : ℕ) (cell : Cell (Option PageValue)) (x y z : Context) → from ≤ p →
    y ≡ record x { cell = on_pages from p cell x.cell; right = writable_in from p x.right } →
    z ≡ with_right p Write (with_cell (Page p) cell y) → z ≡ record x { cell = on_pages from (p + 1) cell x.cell; right = writable_in from (p + 1) x.right }
on_pages-more from p cell x y z begun before put =
    let at : (k : Key) → with_key Cell (Page p) cell (on_pages from p cell x.cell) k ≡ on_pages from (p + 1) cell x.cell k =
    λ k. elim k as (λ k. with_key Cell (Page p) cell (on_pages from p cell x.cell) k ≡ on_pages from (p + 1) cell x.cell k) [
      | Page q ↦ next from p q cell (x.cell (Page q)) begun
      | Slot n ↦ refl
      | Cred ↦ refl
    ] in
    put ∙ ap (λ (u : Context). with_right p Write (with_cell (Page p) cell u)) before
    ∙ (λ i. record x { cell = λ k. at k i; right = λ q. next from p q Write (x.right q) begun i })
  where
    next : {A : Type 0} (a b q : ℕ) (new old : A) → a ≤ b → cond (eqb q b) new (cond (leb a q && ltb q b) new old) ≡ cond (leb a q && ltb q (b + 1)) new old
    next a b q new old low = grind (arith, nat_tests)
