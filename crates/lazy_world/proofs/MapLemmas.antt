-- Pages of a place that become zeros or absent.
use Rattle.std.proofs.Common.{◌≡◌, ℕ, ◌<◌, ◌≤◌, List, [], ◌∷◌, arith, length, refl, sym, ap, subst, ◌∙◌, Bool, true, false, cond, Option, Some, None, set}
use Rattle.std.specs.Prelude.{◌&&◌, All, nat_le, nat_lt}
use Rattle.std.specs.FinMap as fm
use Rattle.std.proofs.lemmas.Bool.Decides.{nat_tests}
use Rattle.std.proofs.lemmas.List.Elements.{All-cons, All-nil}
use Rattle.lwc_base.specs.declared.cell.Cell.{Cell}
use Rattle.lwc_base.specs.declared.cell.Cell.TheVariants.{Own, Common}
use Rattle.lwc_base.specs.Fresh.{IsFresh}
use Rattle.lwc_base.specs.Mapping.{map_pages, mapped_or_not, unmap_pages, with_zeros, without_pages, writable_in}
use Rattle.lwc_base.specs.Ranges as base
use Rattle.lwc_base.specs.Ranges.{ranges_of}
use Rattle.lwc_base.specs.World.{Context, change_context}
use Rattle.lwc_types.specs.declared.key.Key.{Key}
use Rattle.lwc_types.specs.declared.counters.Counters.{Counters}
use Rattle.lwc_types.specs.declared.key.Key.TheVariants.{Page, Slot, Cred}
use Rattle.lwc_types.specs.declared.name.Name.{Name}
use Rattle.lwc_types.specs.declared.name.Tag.{Tag}
use Rattle.lwc_types.specs.declared.page.PageValue.{PageValue}
use Rattle.lwc_types.specs.declared.page.PageValue.TheVariants.{Data}
use Rattle.lwc_types.specs.declared.limits.TheConstants.{MOST_PAGES}
use Rattle.lwc_types.specs.declared.right.Right.{Right}
use Rattle.lwc_types.specs.declared.right.Right.TheVariants.{Write}
use Rattle.range_map.specs.Kinds.{is_between, kind_of, ranges, state_of}
use Rattle.cow_space.specs.declared.page_runs.PageRun.{PageRun}
use Rattle.cow_space.specs.Cells.{Place, place_of}
use Rattle.cow_space.specs.Cells.{right_in, rights_of}
use Rattle.cow_space.specs.Changes.{IsPageRun, cell_by, changed_place, changed_rights, changed_states, right_by}
use Rattle.ctx_table.specs.NameTables.{ArePlaced}
use Rattle.fd_table.specs.Slots as slots
use Rattle.lazy_world.specs.Cells.{Row, is_nothing, on_place, page_cell, put_rights, put_row, rows_of, set_pages, states_of, origin_of}
use Rattle.lazy_world.specs.Sound.{HasOldTags, IsSound, IsWithin}
use Rattle.lazy_world.specs.States.{Parts, context_at, context_of, registers_at, world_of}
use Rattle.lazy_world.proofs.PageLemmas.{pages-context, pages-row}
use Rattle.lazy_world.proofs.PlaceLemmas.{choose, pages-put, pass}
use Rattle.lazy_world.proofs.SoundLemmas.{homes-row, sound-row}
use Rattle.lazy_world.proofs.WorldLemmas.{change_context-row, context-found}
use Rattle.lwc_base.proofs.Facts.{stays_fresh}
use Rattle.range_map.proofs.Ranges.{ranges_of_context}

-- the page run of a range
abbrev pub page_run_of : ℕ → ℕ → Bool → PageRun
page_run_of from to present = record { range = record { from = from; to = to }; origin = origin_of present; right = None }

pub is_page_run : (count i from to : ℕ) (present : Bool) → from ≤ to → to ≤ MOST_PAGES → All (IsPageRun count i) (page_run_of from to present ∷ [])
is_page_run count i from to true order inside = All-cons (IsPageRun count i) (page_run_of from to true) [] (record { order = order; inside = inside; given = tt }) (All-nil (IsPageRun count i))
is_page_run count i from to false order inside = All-cons (IsPageRun count i) (page_run_of from to false) [] (record { order = order; inside = inside; given = tt }) (All-nil (IsPageRun count i))

module _ (cells : List Place) (i from to : ℕ) where
  pub place-set : (present : Bool) (p : ℕ) → changed_place cells i (page_run_of from to present ∷ []) p ≡ cond (nat_le from p && nat_lt p to) (page_cell present) (place_of cells i p)
  unfolding changed_place
  place-set present p = at (is_between from to p) present
    where
      at : (b present : Bool) → cell_by cells p (place_of cells i p) (cond b (Some (page_run_of from to present)) None) ≡ cond b (page_cell present) (place_of cells i p)
      at true true = refl
      at true false = refl
      at false present = refl

module _ (cells : List Place) (table : List (ℕ → slots.Slot)) (uids : List (Cell ℕ)) (i from to : ℕ) (present : Bool) where
  abbrev old : ℕ → Row
  old = rows_of cells table uids

  -- the rights of the place afterwards, if what is absent had the right Write
  module _ (rights : List (ℕ → Right)) (absent : (p : ℕ) → place_of cells i p ≡ Own None → rights_of rights i p ≡ Write) where
    pub rights-row : changed_rights cells rights i (page_run_of from to present ∷ []) [] ≡ writable_in from to (rights_of rights i)
    unfolding changed_rights changed_place
    rights-row = λ e p. at p (is_between from to p) present e
      where
        kept : (p : ℕ) (cell : Cell (Option PageValue)) → place_of cells i p ≡ cell → right_in (state_of (kind_of cell) (rights_of rights i p)) ≡ rights_of rights i p
        kept p (Own None) is = sym (absent p is)
        kept p (Own (Some value)) is = refl
        kept p (Common g) is = refl

        at : (p : ℕ) (b present : Bool) →
            right_in (state_of (kind_of (cell_by cells p (place_of cells i p) (cond b (Some (page_run_of from to present)) None))) (right_by rights p (rights_of rights i p) (cond b (Some (page_run_of from to present)) None)))
            ≡ cond b Write (rights_of rights i p)
        at p true true = refl
        at p true false = refl
        at p false present = kept p (place_of cells i p) refl

    -- and its states
    pub states-row : changed_states cells rights i (page_run_of from to present ∷ []) [] ≡ states_of (set_pages from to present (old i)) (writable_in from to (rights_of rights i))
    unfolding rows_of
    states-row = λ e p. state_of (kind_of (place-set cells i from to present p e)) (rights-row e p)

  -- and its row
  pub row-set : i < length cells → rows_of (set cells i (changed_place cells i (page_run_of from to present ∷ []))) table uids ≡ put_row old i (set_pages from to present (old i))
  unfolding rows_of
  row-set inside = pages-put cells table uids i (changed_place cells i (page_run_of from to present ∷ [])) (set_pages from to present (old i)) inside each
    where
      each : (k : Key) → set_pages from to present (old i) k ≡ on_place (changed_place cells i (page_run_of from to present ∷ [])) (old i) k
      each (Page p) = sym (place-set cells i from to present p)
      each (Slot n) = refl
      each Cred = refl

-- a row once its pages are set
module _ (from to : ℕ) (present : Bool) where
  chosen_past : (b : Bool) (p : ℕ) (cell : Cell (Option PageValue)) → b ≡ false → is_nothing (Page p) cell ≡ true → is_nothing (Page p) (cond b (page_cell present) cell) ≡ true
  chosen_past true p cell e is = cc
  chosen_past false p cell e is = is

  pub within-set : (pages : ℕ) (row : Row) → to ≤ pages → IsWithin pages row → IsWithin pages (set_pages from to present row)
  within-set pages row below within (Page p) past =
      let outside : (nat_le from p && nat_lt p to) ≡ false = grind (arith, nat_tests) in chosen_past (nat_le from p && nat_lt p to) p (row (Page p)) outside (within (Page p) past)
  within-set pages row below within (Slot n) past = within (Slot n) past
  within-set pages row below within Cred past = within Cred past

  -- a page with bytes was there before
  pub page-set : (row : Row) (p : ℕ) (tag : Tag) (bytes : List ℕ) → set_pages from to present row (Page p) ≡ Own (Some (Data tag bytes)) → row (Page p) ≡ Own (Some (Data tag bytes))
  page-set row p tag bytes is = at (nat_le from p && nat_lt p to) present is
    where
      at : (b present : Bool) → cond b (page_cell present) (row (Page p)) ≡ Own (Some (Data tag bytes)) → row (Page p) ≡ Own (Some (Data tag bytes))
      at true true is = absurd (let none = is in cc)
      at true false is = absurd (let none = is in cc)
      at false present is = is

  pub tags-set : (next : ℕ → Counters) (row : Row) → HasOldTags next row → HasOldTags next (set_pages from to present row)
  tags-set next row old p tag bytes is = old p tag bytes (page-set row p tag bytes is)

  pub names-set : (row : Row) (p : ℕ) (g : Name) → set_pages from to present row (Page p) ≡ Common g → row (Page p) ≡ Common g
  names-set row p g is = at (nat_le from p && nat_lt p to) present is
    where
      at : (b present : Bool) → cond b (page_cell present) (row (Page p)) ≡ Common g → row (Page p) ≡ Common g
      at true true is = absurd (let none = is in cc)
      at true false is = absurd (let none = is in cc)
      at false present is = is

pub no_state : (p : ℕ) (cell : Cell (Option PageValue)) (right : Right) → is_nothing (Page p) cell ≡ true → state_of (kind_of cell) right ≡ None
no_state p (Own None) right is = refl
no_state p (Own (Some value)) right is = cc
no_state p (Common g) right is = cc

pub few_pages : (t : Parts) → t.size.pages ≤ MOST_PAGES → (world_of t).size.pages ≤ MOST_PAGES
unfolding world_of
few_pages t few = few

pub past_of : (t : Parts) (p : ℕ) → (world_of t).size.pages ≤ p → t.size.pages ≤ p
unfolding world_of
past_of t p past = past

module _ (s : Parts) (sound : IsSound s) (placed : ArePlaced s.contexts) (c : Name) (i : ℕ) (found : fm.get s.contexts.map c ≡ Some i)
    (from to : ℕ) (present : Bool) (below : to ≤ s.size.pages) where
  abbrev later : Parts
  later = record s { rows = put_row s.rows i (set_pages from to present (s.rows i)); rights = put_rights s.rights i (writable_in from to (s.rights i)) }

  inside : i < s.size.contexts
  inside = let low = placed.within c i found in omega (arith, low, sound.sizes.contexts)

  change : Bool → Context → Context
  change true = with_zeros from to
  change false = without_pages from to

  as_change : (present : Bool) → change_context (world_of s) c (change present) ≡ mapped_or_not (world_of s) c from to present
  unfolding map_pages unmap_pages change
  as_change true = refl
  as_change false = refl

  change_is : (present : Bool) (x : Context) → record x { cell = set_pages from to present x.cell; right = writable_in from to x.right } ≡ change present x
  unfolding change
  change_is true x = refl
  change_is false x = refl

  pub mapped-world : world_of later ≡ mapped_or_not (world_of s) c from to present
  mapped-world =
      change_context-row s placed c i found (set_pages from to present (s.rows i)) (put_rights s.rights i (writable_in from to (s.rights i))) (change present) inside
      (λ q other. pass i q (writable_in from to (s.rights i)) (s.rights q) other)
      (ap (λ r. context_of (set_pages from to present (s.rows i)) r (registers_at s.registers i)) (choose i i (writable_in from to (s.rights i)) (s.rights i) refl) ∙ change_is present (context_at s i))
      ∙ as_change present

  fresh : (present : Bool) → IsFresh (mapped_or_not (world_of s) c from to present)
  fresh true = stays_fresh.mapped (world_of s) c from to sound.fresh
  fresh false = stays_fresh.unmapped (world_of s) c from to sound.fresh

  pub sound-mapped : IsSound later
  sound-mapped =
      let keeps = pages-context (world_of s) (world_of later) c (change present) (mapped-world ∙ sym (as_change present)) in
      sound-row s sound i (set_pages from to present (s.rows i)) (put_rights s.rights i (writable_in from to (s.rights i))) (within-set from to present s.size.pages (s.rows i) below (sound.past i))
      (λ j same. absurd (omega (arith, same, inside)))
      (λ low none. absurd (let both = sym ((placed.at c i).0 found) ∙ none in cc))
      (λ j same none. absurd (omega (arith, same, inside)))
      (tags-set from to present (world_of s).next (s.rows i) (sound.tags i))
      (subst IsFresh (sym mapped-world) (fresh present))
      (homes-row s.rows i (set_pages from to present (s.rows i)) sound.homes (λ p tag bytes is. record { place = i; bytes = bytes; is = page-set from to present (s.rows i) p tag bytes is }))
      (pages-row s later i (set_pages from to present (s.rows i)) sound.pages refl keeps (λ p g is. keeps g p (sound.pages i p g (names-set from to present (s.rows i) p g is))))

  -- the ranges of the context afterwards
  pub ranges-mapped : ranges_of (mapped_or_not (world_of s) c from to present) c ≡ ranges MOST_PAGES (states_of (set_pages from to present (s.rows i)) (writable_in from to (s.rights i)))
  unfolding ranges_of
  ranges-mapped =
      ap (λ w. ranges_of w c) (sym mapped-world)
      ∙ ap (base.ranges (world_of later).size.pages) (context-found later c i found)
      ∙ ranges_of_context (world_of later).size.pages (context_at later i) (states_of (set_pages from to present (s.rows i)) (writable_in from to (s.rights i))) (few_pages later sound.sizes.size.pages.1)
      (λ p low e. state_of (kind_of (choose i i (set_pages from to present (s.rows i)) (s.rows i) refl e (Page p))) (choose i i (writable_in from to (s.rights i)) (s.rights i) refl e p))
      (λ p past low. no_state p (set_pages from to present (s.rows i) (Page p)) (writable_in from to (s.rights i) p) (within-set from to present s.size.pages (s.rows i) below (sound.past i) (Page p) (past_of later p past)))

pub below_pages : (s : Parts) (to : ℕ) → to ≤ (world_of s).size.pages → to ≤ s.size.pages
unfolding world_of
below_pages s to below = below
