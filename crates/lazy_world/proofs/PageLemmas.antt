-- Groups that have the pages that cells name them for, and rights of absent pages.
use Rattle.std.proofs.Common.{◌≡◌, ℕ, ⊎_elim, refl, sym, ap, subst, ◌∙◌, Bool, true, false, cond, eqb, List, Option, Some, None}
use Rattle.std.specs.Prelude.{is_some, unwrap_or, ⊤}
use Rattle.std.proofs.lemmas.Bool.{cases_eq}
use Rattle.lwc_base.specs.declared.cell.Cell.{Cell}
use Rattle.lwc_base.specs.declared.cell.Cell.TheVariants.{Own, Common}
use Rattle.lwc_base.specs.declared.item.Item.{Item}
use Rattle.lwc_base.specs.declared.item.Mode.{Mode}
use Rattle.lwc_base.specs.declared.item.Mode.TheVariants.{Copy, Share, Unmap, CopyRead}
use Rattle.lwc_base.specs.Cells.{put_page, with_cell, with_value}
use Rattle.lwc_base.specs.Fresh.{IsFresh}
use Rattle.lwc_base.specs.Modes.{mode}
use Rattle.lwc_base.specs.Sharing.{is_moved}
use Rattle.lwc_base.specs.World.{World, Context, Group, add_group, change_context, change_group, group, next_group}
use Rattle.lwc_types.specs.declared.key.Key.TheVariants.{Page}
use Rattle.lwc_types.specs.declared.name.Name.{Name}
use Rattle.lwc_types.specs.declared.page.PageValue.{PageValue}
use Rattle.lazy_world.specs.Cells.{Row, put_row}
use Rattle.lazy_world.specs.Followed.{HasMoved, IsReady}
use Rattle.lazy_world.specs.Sound.{HasItsPages}
use Rattle.lazy_world.specs.States.{Parts, world_of}
use Rattle.lazy_world.specs.Transfers.{moves, taken_cell, transferred_cell, transferred_row}
use Rattle.lazy_world.specs.declared.transfer.Transfer.{Transfer}
use Rattle.lazy_world.specs.declared.transfer.Transfer.TheVariants.{Mark, Move, Clone, Overlay}
use Rattle.lazy_world.proofs.PlaceLemmas.{choose, pass}
use Rattle.lwc_base.proofs.Facts.{changes, stays_fresh}
use Rattle.lwc_base.proofs.Lookups.{group-cases, group-dead}
use Rattle.lwc_base.proofs.Puts.{after_put_at}
use Rattle.lwc_types.proofs.Orders.{cases_name}

-- a group has a page
abbrev pub has_group_page : World → Name → ℕ → Bool
has_group_page w g p = is_some ((group w g).value (Page p))

-- groups keep the pages that they have
abbrev pub KeepsPages : World → World → Type 0
KeepsPages w v = (g : Name) (p : ℕ) → has_group_page w g p ≡ true → has_group_page v g p ≡ true

-- each group stays
pub pages-same : (w v : World) → ((g : Name) → group v g ≡ group w g) → KeepsPages w v
pages-same w v same g p there = ap (λ (x : Group). is_some (x.value (Page p))) (same g) ∙ there

-- a context changes
pub pages-context : (w v : World) (c : Name) (f : Context → Context) → v ≡ change_context w c f → KeepsPages w v
pages-context w v c f is = pages-same w v (λ g. ap (λ (u : World). group u g) is ∙ (changes.context_changed w c f).groups g)

-- a group changes that keeps its pages
pub pages-group : (w v : World) (g : Name) (f : Group → Group) → v ≡ change_group w g f →
    ((p : ℕ) → has_group_page w g p ≡ true → is_some ((f (group w g)).value (Page p)) ≡ true) → KeepsPages w v
pages-group w v g f is keeps h p there =
    ap (λ (u : World). has_group_page u h p) is
    ∙ group-cases w g f (change_group w g f) (changes.group_changed w g f) (λ n x. has_group_page w n p ≡ true → is_some (x.value (Page p)) ≡ true) (λ _. keeps p) h (λ old. old) there

-- a group is added
pub pages-new_group : (w v : World) (job : ℕ) (x : Group) → IsFresh w → v ≡ add_group w job x → KeepsPages w v
pages-new_group w v job x fresh is h p there =
    ap (λ (u : World). has_group_page u h p) is
    ∙ cases_name h (next_group w job)
    (λ same.
    let none = ap (λ (y : Group). is_some (y.value (Page p))) (group-dead w (next_group w job) (stays_fresh.next_group_is_new w job fresh)) in
    absurd (let both = sym none ∙ ap (λ n. has_group_page w n p) (sym same) ∙ there in cc))
    (λ other. ap (λ (y : Group). is_some (y.value (Page p))) ((changes.group_added w job x).others h other) ∙ there)

still_page : (b : Bool) (value : PageValue) (o : Option PageValue) → is_some o ≡ true → is_some (cond b (Some value) o) ≡ true
still_page true value o there = refl
still_page false value o there = there

-- a page gets another value
pub pages-put_page : (w v : World) (c : Name) (p : ℕ) (value : PageValue) → v ≡ put_page w c p value → KeepsPages w v
pages-put_page w v c p value is g q there =
    ap (λ (u : World). has_group_page u g q) is
    ∙ after_put_at (λ u. has_group_page u g q ≡ true) w c (Page p) (Some value) (λ _ _ _. there)
    (λ old _ _. pages-context w _ c (with_cell (Page p) (Own (Some value))) refl g q there)
    (λ h _. pages-group w _ h (with_value (Page p) (Some value)) refl (λ r here. still_page (eqb r p) value ((group w h).value (Page r)) here) g q there)

-- a row changes: what it names groups for is there
pub pages-row : (s t : Parts) (i : ℕ) (row : Row) → HasItsPages s → t.rows ≡ put_row s.rows i row → KeepsPages (world_of s) (world_of t) →
    ((p : ℕ) (g : Name) → row (Page p) ≡ Common g → has_group_page (world_of t) g p ≡ true) → HasItsPages t
pages-row s t i row pages rows keeps here j p g is =
    ⊎_elim
    (λ same. here p g (ap (λ (r : Row). r (Page p)) (sym (choose i j row (s.rows j) same)) ∙ at_row))
    (λ other. keeps g p (pages j p g (ap (λ (r : Row). r (Page p)) (sym (pass i j row (s.rows j) other)) ∙ at_row)))
    (cases_eq j i)
  where
    at_row : put_row s.rows i row j (Page p) ≡ Common g
    at_row = ap (λ (rs : ℕ → Row). rs j (Page p)) (sym rows) ∙ is

pub no_group : {T : Type 0} (value : T) (g : Name) → Own value ≡ Common g → ⊥
no_group value g is = let none = is in cc

one_group : {T : Type 0} (g h : Name) → ◌≡◌ {A = Cell T} (Common g) (Common h) → g ≡ h
one_group g h is = cc

-- what a transfer gives names groups for pages that are there
module _ (w : World) (p : ℕ) (cell old : Cell (Option PageValue)) (here : (g : Name) → cell ≡ Common g → has_group_page w g p ≡ true)
    (there : (g : Name) → old ≡ Common g → has_group_page w g p ≡ true) where
  marked : (b : Bool) (g h : Name) → (b ≡ true → has_group_page w g p ≡ true) → cond b (Common g) cell ≡ Common h → has_group_page w h p ≡ true
  marked true g h ready is = subst (λ n. has_group_page w n p ≡ true) (one_group g h is) (ready refl)
  marked false g h ready is = here h is

  taken : (m : Mode) (g h : Name) → (is_moved m (Page p) cell ≡ true → has_group_page w g p ≡ true) → taken_cell w g m (Page p) cell ≡ Common h → has_group_page w h p ≡ true
  taken Copy g h ready is = absurd (no_group _ h is)
  taken Share g h ready is = marked (is_moved Share (Page p) cell) g h ready is
  taken Unmap g h ready is = absurd (no_group _ h is)
  taken CopyRead g h ready is = absurd (no_group _ h is)

  abbrev ready_cell : Transfer → Option Mode → Type 0
  ready_cell (Mark g) m = is_moved (unwrap_or m Copy) (Page p) cell ≡ true → has_group_page w g p ≡ true
  ready_cell Move m = ⊤
  ready_cell (Clone g) m = is_moved (unwrap_or m Copy) (Page p) cell ≡ true → has_group_page w g p ≡ true
  ready_cell (Overlay g) m = is_moved (unwrap_or m Copy) (Page p) cell ≡ true → has_group_page w g p ≡ true

  transferred_names : (transfer : Transfer) (m : Option Mode) (h : Name) → ready_cell transfer m → transferred_cell w transfer m (Page p) cell old ≡ Common h → has_group_page w h p ≡ true
  transferred_names (Mark g) m h ready is = marked (is_moved (unwrap_or m Copy) (Page p) cell) g h ready is
  transferred_names Move m h ready is = absurd (no_group _ h is)
  transferred_names (Clone g) m h ready is = taken (unwrap_or m Copy) g h ready is
  transferred_names (Overlay g) None h ready is = there h is
  transferred_names (Overlay g) (Some m) h ready is = taken m g h ready is

pub transferred-pages : (s : Parts) (transfer : Transfer) (items : List Item) (x : Context) (from to : ℕ) → HasItsPages s → x.cell ≡ s.rows from → IsReady (world_of s) transfer items x →
    (p : ℕ) (g : Name) → transferred_row (world_of s) transfer items (s.rows from) (s.rows to) (Page p) ≡ Common g → has_group_page (world_of s) g p ≡ true
transferred-pages s transfer items x from to pages same ready p g is =
    transferred_names (world_of s) p (s.rows from (Page p)) (s.rows to (Page p)) (λ h. pages from p h) (λ h. pages to p h) transfer (mode items (Page p)) g (at transfer ready) is
  where
    by : (h : Name) → HasMoved (world_of s) items x h → is_moved (unwrap_or (mode items (Page p)) Copy) (Page p) (s.rows from (Page p)) ≡ true → has_group_page (world_of s) h p ≡ true
    by h has moves_it = has p (ap (λ (row : Row). moves items (Page p) row) same ∙ moves_it)

    at : (transfer : Transfer) → IsReady (world_of s) transfer items x → ready_cell (world_of s) p (s.rows from (Page p)) (s.rows to (Page p)) (λ h. pages from p h) (λ h. pages to p h) transfer (mode items (Page p))
    at (Mark h) has = by h has
    at Move has = tt
    at (Clone h) has = by h has
    at (Overlay h) has = by h has
