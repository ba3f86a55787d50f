-- The rights of pages after each change of a world, and the pages that a store leaves.
use Rattle.std.proofs.Common.{◌≡◌, ◌≢◌, ◌⊎◌, ℕ, zero, suc, ◌+◌, ◌/◌, ◌%◌, ◌<◌, ◌≤◌, refl, sym, ap, ◌∙◌, true, Option, None, Some, List, [], ◌∷◌, length, arith, rules}
use Rattle.std.proofs.lemmas.Bool.Decides.{nat_tests}
use Rattle.std.specs.List.{list_all, range_with_len}
use Rattle.lwc_base.specs.declared.cell.Cell.{Cell}
use Rattle.lwc_base.specs.declared.cell.Cell.TheVariants.{Own}
use Rattle.lwc_base.specs.declared.item.Item.{Item}
use Rattle.lwc_base.specs.declared.item.Mode.{Mode}
use Rattle.lwc_base.specs.declared.item.Mode.TheVariants.{Copy, Share, CopyRead}
use Rattle.lwc_base.specs.Cells.{page_at, put_at, put_page, value_at, with_cell, with_value}
use Rattle.lwc_base.specs.Clones.{IsClone}
use Rattle.lwc_base.specs.Facts.{AddsContext, ChangesContext}
use Rattle.lwc_base.specs.Keys.{ValueOf}
use Rattle.lwc_base.specs.Mapping.{map_pages, unmap_pages, with_pages}
use Rattle.lwc_base.specs.Memory.{byte_at, touched}
use Rattle.lwc_base.specs.Modes.{mode, mode_or_copy, number_of}
use Rattle.lwc_base.specs.Overlay.{IsOverlay, overlaid_right, overlay, with_overlay}
use Rattle.lwc_base.specs.Ranges.{has_page, is_page}
use Rattle.lwc_base.specs.Rights.{is_writable, may_write, read_right, right_at}
use Rattle.lwc_base.specs.Saved.{save}
use Rattle.lwc_base.specs.Sharing.{clone_context, cloned_context, cloned_right, share, shared_cell, with_shared}
use Rattle.lwc_base.specs.Store.{Done, Piece, after_store, stored_pages, put_pages, store}
use Rattle.lwc_base.specs.World.{World, Context, change_context, change_counters, context, is_live, next_context, next_group}
use Rattle.lwc_base.proofs.Clones.{next_context-share}
use Rattle.lwc_base.proofs.Fresh.{next_context-new}
use Rattle.lwc_base.proofs.Keys.{with_key-other}
use Rattle.lwc_base.proofs.Lookups.{adds-add_context, changes-change_context, changes-change_group}
use Rattle.lwc_base.proofs.Puts.{after_put_at}
use Rattle.lwc_base.proofs.Saving.{saves}
use Rattle.lwc_base.proofs.Sharing.{shares-share}
use Rattle.lwc_base.proofs.Stored.{first_touched, is_done, touched-covers, touched-range, touched_count}
use Rattle.lwc_types.specs.declared.key.Key.{Key}
use Rattle.lwc_types.specs.declared.key.Key.TheVariants.{Page}
use Rattle.lwc_types.specs.declared.name.Name.{Name}
use Rattle.lwc_types.specs.declared.page.PageValue.{PageValue}
use Rattle.lwc_types.specs.declared.page.PageValue.TheVariants.{Zero}
use Rattle.lwc_types.specs.declared.page.TheConstants.{PAGE_BYTES}
use Rattle.lwc_types.specs.declared.regs.Regs.{Regs}
use Rattle.lwc_types.specs.declared.right.Right.{Right}
use Rattle.lwc_types.specs.declared.right.Right.TheVariants.{Write, Read}
use Rattle.lwc_types.proofs.Orders.{cases_name}
use Rattle.lwc_types.proofs.Small.{zeros_at}

-- ---- what changes no right

pub rights-put_at : (w : World) (c : Name) (k : Key) (value : ValueOf k) (d : Name) → (context (put_at w c k value) d).right ≡ (context w d).right
rights-put_at w c k value d =
    after_put_at (λ v. (context v d).right ≡ (context w d).right) w c k value (λ _ _ _. refl)
    (λ old _ _. let changes = changes-change_context w c (with_cell k (Own value)) in grind (arith, cases_name, changes.others d))
    (λ g _. let changes = changes-change_group w g (with_value k value) in ap (λ (x : Context). x.right) (changes.contexts d))

rights-put_pages : (w : World) (c : Name) (values : List (ℕ × PageValue)) (d : Name) → (context (put_pages w c values) d).right ≡ (context w d).right
rights-put_pages w c [] d = refl
rights-put_pages w c (v ∷ vs) d = rights-put_pages (put_page w c v.0 v.1) c vs d ∙ rights-put_at w c (Page v.0) (Some v.1) d

pub rights-after_store : (w : World) (c : Name) (job : ℕ) (piece : Piece) (d : Name) → (context (after_store w c job piece) d).right ≡ (context w d).right
unfolding after_store change_counters context
rights-after_store w c job piece d = rights-put_pages w c (stored_pages w c job piece (w.next job).tags (touched piece.at (length piece.bytes))) d

pub rights-share : (w : World) (c : Name) (job : ℕ) (items : List Item) (d : Name) → (context (share w c job items) d).right ≡ (context w d).right
unfolding with_shared
rights-share w c job items d = let shares = shares-share w c job items in grind (arith, cases_name, shares.others d)

pub rights-save : (w : World) (c : Name) (t : ℕ) (regs : Regs) (d : Name) → (context (save w c t regs) d).right ≡ (context w d).right
rights-save w c t regs d = let changes = saves w c t regs in grind (arith, cases_name, changes.others d)

-- ---- what becomes present or absent

module _ (w : World) (c : Name) (from to : ℕ) (value : Option PageValue) where
  abbrev paged : World
  paged = change_context w c (with_pages from to value)

  right-within : (p : ℕ) → is_live w c ≡ true → from ≤ p → p < to → right_at paged c p ≡ Write
  right-within p live low high = let changes = changes-change_context w c (with_pages from to value) in grind (arith, nat_tests, changes.changed live)

  right-outside : (d : Name) (p : ℕ) → (d ≢ c) ⊎ ((p < from) ⊎ (to ≤ p)) → right_at paged d p ≡ right_at w d p
  right-outside d p out = let changes = changes-change_context w c (with_pages from to value) in grind (arith, nat_tests, cases_name, changes.others d)

module _ (w : World) (c : Name) (from to : ℕ) where
  pub right-mapped : (p : ℕ) → is_live w c ≡ true → from ≤ p → p < to → right_at (map_pages w c from to) c p ≡ Write
  unfolding map_pages
  right-mapped p = right-within w c from to _ p

  pub right-unmapped : (p : ℕ) → is_live w c ≡ true → from ≤ p → p < to → right_at (unmap_pages w c from to) c p ≡ Write
  unfolding unmap_pages
  right-unmapped p = right-within w c from to _ p

  pub right-not_mapped : (d : Name) (p : ℕ) → (d ≢ c) ⊎ ((p < from) ⊎ (to ≤ p)) → right_at (map_pages w c from to) d p ≡ right_at w d p
  unfolding map_pages
  right-not_mapped d p = right-outside w c from to _ d p

  pub right-not_unmapped : (d : Name) (p : ℕ) → (d ≢ c) ⊎ ((p < from) ⊎ (to ≤ p)) → right_at (unmap_pages w c from to) d p ≡ right_at w d p
  unfolding unmap_pages
  right-not_unmapped d p = right-outside w c from to _ d p

  present-within : (value : Option PageValue) (p : ℕ) → is_live w c ≡ true → from ≤ p → p < to → page_at (change_context w c (with_pages from to value)) c p ≡ value
  unfolding value_at
  present-within value p live low high = let changes = changes-change_context w c (with_pages from to value) in grind (arith, nat_tests, changes.changed live)

  pub page-mapped : (p : ℕ) → is_live w c ≡ true → from ≤ p → p < to → page_at (map_pages w c from to) c p ≡ Some Zero
  unfolding map_pages
  page-mapped p = present-within (Some Zero) p

  pub page-unmapped : (p : ℕ) → is_live w c ≡ true → from ≤ p → p < to → page_at (unmap_pages w c from to) c p ≡ None
  unfolding unmap_pages
  page-unmapped p = present-within None p

  pub byte-mapped : (at : ℕ) → is_live w c ≡ true → from ≤ at / PAGE_BYTES → at / PAGE_BYTES < to → byte_at (map_pages w c from to) c at ≡ 0
  unfolding byte_at
  byte-mapped at live low high = grind (arith, page-mapped (at / PAGE_BYTES) live low high, zeros_at (at % PAGE_BYTES))

-- ---- clones and overlays

is_page-shared : (g : Name) (m : Mode) (p : ℕ) (cell : Cell (Option PageValue)) → is_page (shared_cell g m (Page p) cell) ≡ is_page cell
is_page-shared g m p cell = grind arith

has_page-share : (w : World) (c : Name) (job : ℕ) (items : List Item) (d : Name) (p : ℕ) → has_page (context (share w c job items) d) p ≡ has_page (context w d) p
unfolding with_shared
has_page-share w c job items d p =
    let shares = shares-share w c job items in
    let page = is_page-shared (next_group w job) (mode_or_copy items (Page p)) p ((context w c).cell (Page p)) in
    grind (arith, cases_name, shares.others d)

module _ (w : World) (c d : Name) (job : ℕ) (items : List Item) (p : ℕ) where
  abbrev shared : World
  shared = share w c job items

  -- the right by a mode, in the world in which values are shared
  right-kept : right_at shared c p ≡ right_at w c p
  right-kept = ap (λ (r : ℕ → Right). r p) (rights-share w c job items c)

  right-read : has_page (context w c) p ≡ true → cloned_right shared c p CopyRead ≡ Read
  right-read there = ap read_right (has_page-share w c job items c p ∙ there)

module _ (w v : World) (c d : Name) (items : List Item) (made : IsClone w v c d items) where
  abbrev between : World
  between = share w c made.job items

  adds : AddsContext between made.job (cloned_context between c items made.entry) v
  unfolding clone_context
  adds = grind (arith, made.made, adds-add_context between made.job (cloned_context between c items made.entry))

  right-new : (p : ℕ) → right_at v d p ≡ cloned_right between c p (mode_or_copy items (Page p))
  unfolding cloned_context
  right-new p = search (rules, adds, next_context-share, made.named)

  pub clone-copied_right : (p : ℕ) → mode_or_copy items (Page p) ≡ Copy → right_at v d p ≡ right_at w c p
  clone-copied_right p is = right-new p ∙ ap (cloned_right between c p) is ∙ right-kept w c d made.job items p

  pub clone-shared_right : (p : ℕ) → mode_or_copy items (Page p) ≡ Share → right_at v d p ≡ right_at w c p
  clone-shared_right p is = right-new p ∙ ap (cloned_right between c p) is ∙ right-kept w c d made.job items p

  pub clone-read_right : (p : ℕ) → mode_or_copy items (Page p) ≡ CopyRead → has_page (context w c) p ≡ true → right_at v d p ≡ Read
  clone-read_right p is there = right-new p ∙ ap (cloned_right between c p) is ∙ right-read w c d made.job items p there

  pub clone-other_rights : (e : Name) (p : ℕ) → is_live w e ≡ true → right_at v e p ≡ right_at w e p
  clone-other_rights e p live =
      let new = next_context-new w made.job made.fresh in
      let differs : e ≢ next_context between made.job = λ same. grind (arith, next_context-share w c made.job items made.job) in
      ap (λ (x : Context). x.right p) (adds.others e differs) ∙ ap (λ (r : ℕ → Right). r p) (rights-share w c made.job items e)

module _ (w v : World) (c d : Name) (items : List Item) (made : IsOverlay w v c d items) where
  abbrev lent : World
  lent = share w d made.job items

  takes : ChangesContext lent c (with_overlay lent d items) v
  unfolding overlay
  takes = grind (arith, made.made, changes-change_context lent c (with_overlay lent d items))

  right-taken : (p : ℕ) → right_at v c p ≡ overlaid_right lent d p (mode items (Page p)) (right_at lent c p)
  right-taken p = let shares = shares-share w d made.job items in ap (λ (x : Context). x.right p) (takes.changed (shares.live c ∙ made.taker))

  right-by : (p : ℕ) (m : Mode) → mode items (Page p) ≡ Some m → right_at v c p ≡ cloned_right lent d p m
  right-by p m is = right-taken p ∙ ap (λ m. overlaid_right lent d p m (right_at lent c p)) is

  pub overlay-copied_right : (p : ℕ) → mode items (Page p) ≡ Some Copy → right_at v c p ≡ right_at w d p
  overlay-copied_right p is = right-by p Copy is ∙ right-kept w d c made.job items p

  pub overlay-shared_right : (p : ℕ) → mode items (Page p) ≡ Some Share → right_at v c p ≡ right_at w d p
  overlay-shared_right p is = right-by p Share is ∙ right-kept w d c made.job items p

  pub overlay-read_right : (p : ℕ) → mode items (Page p) ≡ Some CopyRead → has_page (context w d) p ≡ true → right_at v c p ≡ Read
  overlay-read_right p is there = right-by p CopyRead is ∙ right-read w d c made.job items p there

  pub overlay-other_rights : (e : Name) (p : ℕ) → e ≢ c → right_at v e p ≡ right_at w e p
  overlay-other_rights e p other = ap (λ (x : Context). x.right p) (takes.others e other) ∙ ap (λ (r : ℕ → Right). r p) (rights-share w d made.job items e)

-- ---- stores

-- a page that is no page of a context that is put to keeps its cell
kept-put_page : (w : World) (c : Name) (q : ℕ) (new : PageValue) (e : Name) (p : ℕ) (value : Option PageValue) → (e ≡ c → p ≢ q) →
    (context w e).cell (Page p) ≡ Own value → (context (put_page w c q new) e).cell (Page p) ≡ Own value
kept-put_page w c q new e p value other own =
    after_put_at (λ v. (context v e).cell (Page p) ≡ Own value) w c (Page q) (Some new) (λ _ _ _. own)
    (λ old _ _.
    let changes = changes-change_context w c (with_cell (Page q) (Own (Some new))) in
    let same = λ (differ : p ≢ q). with_key-other Cell (Page q) (Own (Some new)) (context w c).cell (Page p) (λ is. differ (ap number_of is)) in
    grind (arith, cases_name, changes.others e, other, same))
    (λ g _. let changes = changes-change_group w g (with_value (Page q) (Some new)) in ap (λ (x : Context). x.cell (Page p)) (changes.contexts e) ∙ own)

kept-stored_pages : (w : World) (c : Name) (job : ℕ) (piece : Piece) (e : Name) (p : ℕ) (value : Option PageValue) → right_at w e p ≡ Read → (ps : List ℕ) →
    list_all (λ q. may_write (right_at w c q)) ps ≡ true → (u : World) (k : ℕ) → (context u e).cell (Page p) ≡ Own value →
    (context (put_pages u c (stored_pages w c job piece k ps)) e).cell (Page p) ≡ Own value
kept-stored_pages w c job piece e p value read [] all u k own = own
kept-stored_pages w c job piece e p value read (q ∷ qs) all u k own =
    let differ : e ≡ c → p ≢ q = λ same is. grind arith in
    let rest : list_all (λ q. may_write (right_at w c q)) qs ≡ true = grind arith in
    kept-stored_pages w c job piece e p value read qs rest _ _ (kept-put_page u c q _ e p value differ own)

page-writable : (w : World) (c : Name) (p a n : ℕ) → list_all (λ q. may_write (right_at w c q)) (range_with_len a n) ≡ true → a ≤ p → p < a + n → right_at w c p ≡ Write
page-writable w c p a zero all low high = absurd (omega arith)
page-writable w c p a (suc n) all low high =
    let rest : list_all (λ q. may_write (right_at w c q)) (range_with_len (a + 1) n) ≡ true = grind arith in
    let later = page-writable w c p (a + 1) n rest in
    let here : may_write (right_at w c a) ≡ true = grind arith in
    let write = is_write (right_at w c a) in
    grind (arith, later, write here)
  where
    is_write : (r : Right) → may_write r ≡ true → r ≡ Write
    is_write Write is = refl
    is_write Read is = absurd cc

module _ (w v : World) (c : Name) (job : ℕ) (piece : Piece) (done : store w c job piece ≡ Done v) where
  -- each page that a store touches has the right Write
  pub store-writable : (at : ℕ) → piece.at ≤ at → at < piece.at + length piece.bytes → right_at w c (at / PAGE_BYTES) ≡ Write
  unfolding is_writable
  store-writable at low high =
      let is = is_done w c job piece v done in
      let covers = touched-covers piece.at (length piece.bytes) at low high in
      page-writable w c (at / PAGE_BYTES) (first_touched piece.at) (touched_count piece.at (length piece.bytes))
      (ap (list_all (λ q. may_write (right_at w c q))) (sym (touched-range piece.at (length piece.bytes))) ∙ is.writable) covers.0 covers.1

  -- and a page of a context's own that has the right Read stays, in this context and in each other one
  pub store-kept : (e : Name) (p : ℕ) (value : Option PageValue) → right_at w e p ≡ Read → (context w e).cell (Page p) ≡ Own value → (context v e).cell (Page p) ≡ Own value
  unfolding is_writable after_store change_counters context
  store-kept e p value read own =
      let is = is_done w c job piece v done in
      let kept = kept-stored_pages w c job piece e p value read (touched piece.at (length piece.bytes)) is.writable w (w.next job).tags own in
      ap (λ (u : World). (context u e).cell (Page p)) is.after ∙ kept

  -- rights stay in a store
  pub store-right : (e : Name) (p : ℕ) → right_at v e p ≡ right_at w e p
  store-right e p =
      let is = is_done w c job piece v done in
      ap (λ (u : World). right_at u e p) is.after ∙ ap (λ f. f p) (rights-after_store w c job piece e)

pub ruleset rights_stay = (rights-put_at, rights-after_store, rights-share, rights-save)

pub ruleset pages_of_ranges = (page-mapped, page-unmapped, byte-mapped)

pub ruleset rights_of_ranges = (right-mapped, right-unmapped, right-not_mapped, right-not_unmapped)
