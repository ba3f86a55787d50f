-- A place once page runs of its pages have changed: its row, its cells and its rights.
use Rattle.std.proofs.Common.{◌≡◌, ℕ, suc, ◌<◌, ◌≤◌, ⊎_elim, Bool, true, false, cond, leb, ltb, List, [], ◌∷◌, length, refl, sym, ◌∙◌, ap, arith, subst, Option, None, Some}
use Rattle.std.specs.Prelude.{All}
use Rattle.std.specs.List.{find}
use Rattle.std.specs.Option.{MatchOption, option_map}
use Rattle.std.proofs.lemmas.Bool.{cases_lt, and_parts, ltb-true}
use Rattle.lwc_types.specs.declared.right.Right.{Right}
use Rattle.lwc_types.specs.declared.right.Right.TheVariants.{Read}
use Rattle.range_map.specs.declared.segment.PageState.{PageState}
use Rattle.range_map.specs.declared.segment.Segment.{Segment}
use Rattle.range_map.specs.declared.segment.SegmentKind.{SegmentKind}
use Rattle.range_map.specs.Kinds.{is_between, kind_at, kind_of, state_at, state_of}
use Rattle.cow_space.specs.Maps.{no_pages, row_of}
use Rattle.cow_space.specs.declared.page_runs.Origin.{Origin}
use Rattle.cow_space.specs.declared.page_runs.Origin.TheVariants.{Absent, Zeros, Common, CopyOf}
use Rattle.lwc_types.specs.declared.range.Range.{Range}
use Rattle.cow_space.specs.declared.page_runs.PageRun.{PageRun}
use Rattle.cow_space.specs.declared.cells.PageCells.{PageCells}
use Rattle.cow_space.specs.RowSeen.{HasNoTree, maps}
use Rattle.cow_space.specs.Seen.{cells, rights}
use Rattle.cow_space.specs.Cells.{Place, cell_of, kinds_of, place_cells, place_of, place_rights, right_in, rights_of}
use Rattle.cow_space.specs.Changes.{IsApart, IsPageRun, cell_by, changed_place, changed_rights, changed_states, have_page, origin_cell, right_by, page_run_at}
use Rattle.cow_space.specs.Kept.{HasNoOwnPage, may_have}
use Rattle.cow_space.specs.Rows.{changed_row, origin_value, value_by}
use Rattle.cow_space.proofs.OwnPages.{no-own-cells}
use Rattle.cow_space.proofs.Views.{place-at, place-kinds}
use Rattle.lwc_types.specs.declared.limits.TheConstants.{MOST_PAGES}

-- what is found passes the test, and has what all have
pub find-holds : {X : Type 0} (test : X → Bool) (P : X → Type 0) (xs : List X) → All P xs → MatchOption (find test xs) (Unit {0}) (λ x. P x × (test x ≡ true))
find-holds test P [] all = tt
find-holds test P (x ∷ xs) all = by (test x) refl (find-holds test P xs (λ k d lt. all (suc k) d (omega (arith, lt))))
  where
    by : (b : Bool) → test x ≡ b → MatchOption (find test xs) (Unit {0}) (λ y. P y × (test y ≡ true)) → MatchOption (cond b (Some x) (find test xs)) (Unit {0}) (λ y. P y × (test y ≡ true))
    by true passes later = (all 0 x (omega arith), passes)
    by false off later = later

-- a state that is given once more
steady : (kind : Option SegmentKind) (right : Right) → state_of kind (right_in (state_of kind right)) ≡ state_of kind right
steady None right = refl
steady (Some kind) right = refl

kind-in : (kind : Option SegmentKind) (right : Right) → option_map (λ s. s.kind) (state_of kind right) ≡ kind
kind-in None right = refl
kind-in (Some kind) right = refl

-- where no page run is found the kind stays
kept-kind : (cells : List Place) (i q : ℕ) (page_runs : List PageRun) → page_run_at page_runs q ≡ None → kinds_of (changed_place cells i page_runs) q ≡ kinds_of (place_of cells i) q
unfolding changed_place
kept-kind cells i q page_runs none = ap (λ o. kind_of (cell_by cells q (place_of cells i q) o)) none

-- the state of a page by the page run that was found, and whether it may only be read
module _ (cells : List Place) (rights : List (ℕ → Right)) (i q : ℕ) (page_runs : List PageRun) (reads : List Range) where
  abbrev state-by : Option PageRun → Bool → Option PageState
  state-by o read = state_of (kind_of (cell_by cells q (place_of cells i q) o)) (cond read Read (right_by rights q (rights_of rights i q) o))

  pub found-state : (o : Option PageRun) (read : Bool) → page_run_at page_runs q ≡ o → have_page reads q ≡ read → changed_states cells rights i page_runs reads q ≡ state-by o read
  unfolding changed_place changed_rights
  found-state o read found has =
      steady (kind_of (cell_by cells q (place_of cells i q) (page_run_at page_runs q))) (cond (have_page reads q) Read (right_by rights q (rights_of rights i q) (page_run_at page_runs q)))
      ∙ (λ x. state-by (found x) (has x))

-- the origin of a page run that was found is another place, or none
pub origin-inside : (count i q : ℕ) (page_runs : List PageRun) (page_run : PageRun) → All (IsPageRun count i) page_runs → page_run_at page_runs q ≡ Some page_run →
    (j : ℕ) → page_run.origin ≡ CopyOf j → j < count
origin-inside count i q page_runs page_run are is j from =
    let holds = subst (λ o. MatchOption o (Unit {0}) (λ s. IsPageRun count i s × (is_between s.range.from s.range.to q ≡ true))) is
    (find-holds (λ (s : PageRun). is_between s.range.from s.range.to q) (IsPageRun count i) page_runs are) in
    (subst (IsApart count i) from holds.0.given).0

-- no page runs have no page, and no segments have none
pub no-page_run : (page_runs : List PageRun) (p : ℕ) → length page_runs ≡ 0 → page_run_at page_runs p ≡ None
no-page_run [] p empty = refl
no-page_run (s ∷ page_runs) p empty = absurd (omega (arith, empty))

-- no page run has a page past the last one
pub past-page_run : (count i p : ℕ) (page_runs : List PageRun) → MOST_PAGES ≤ p → All (IsPageRun count i) page_runs → page_run_at page_runs p ≡ None
past-page_run count i p page_runs past are = by (page_run_at page_runs p) (find-holds (λ (s : PageRun). is_between s.range.from s.range.to p) (IsPageRun count i) page_runs are)
  where
    by : (o : Option PageRun) → MatchOption o (Unit {0}) (λ s. IsPageRun count i s × (is_between s.range.from s.range.to p ≡ true)) → o ≡ None
    by None holds = refl
    by (Some s) holds = absurd (let below = ltb-true p s.range.to ((and_parts (leb s.range.from p) (ltb p s.range.to) holds.1).1) in let end = holds.0.inside in omega (arith, past, below, end))

module _ (w : PageCells) (i : ℕ) (page_runs : List PageRun) where
  -- a cell is that of its kind, and its row fits it
  again : (j p : ℕ) → cell_of (kind_of (place_of (cells w) j p)) (row_of (maps w.rows) j p) ≡ place_of (cells w) j p
  again j p =
      ap (λ (f : ℕ → Option SegmentKind). cell_of (f p) (row_of (maps w.rows) j p)) (sym (place-kinds w j)) ∙ sym (ap (λ (place : Place). place p) (place-at w j))

  fit-again : (j p : ℕ) → may_have (kind_of (place_of (cells w) j p)) (row_of (maps w.rows) j p) ≡ true
  fit-again j p = ap (λ (f : ℕ → Option SegmentKind). may_have (f p) (row_of (maps w.rows) j p)) (sym (place-kinds w j)) ∙ w.kept.fit j p

  origin-cell : (origin : Origin) (p : ℕ) → cell_of (kind_of (origin_cell (cells w) origin p)) (origin_value (maps w.rows) origin p) ≡ origin_cell (cells w) origin p
  origin-cell Absent p = refl
  origin-cell Zeros p = refl
  origin-cell (Common g) p = refl
  origin-cell (CopyOf j) p = again j p

  fit-origin : (origin : Origin) (p : ℕ) → may_have (kind_of (origin_cell (cells w) origin p)) (origin_value (maps w.rows) origin p) ≡ true
  fit-origin Absent p = refl
  fit-origin Zeros p = refl
  fit-origin (Common g) p = refl
  fit-origin (CopyOf j) p = fit-again j p

  cell-by : (p : ℕ) (o : Option PageRun) → cell_of (kind_of (cell_by (cells w) p (place_of (cells w) i p) o)) (value_by (maps w.rows) p (row_of (maps w.rows) i p) o) ≡ cell_by (cells w) p (place_of (cells w) i p) o
  cell-by p None = again i p
  cell-by p (Some s) = origin-cell s.origin p

  fit-by : (p : ℕ) (o : Option PageRun) → may_have (kind_of (cell_by (cells w) p (place_of (cells w) i p) o)) (value_by (maps w.rows) p (row_of (maps w.rows) i p) o) ≡ true
  fit-by p None = fit-again i p
  fit-by p (Some s) = fit-origin s.origin p

  -- the states of segments that are those of the place after the page runs up to the last page, are so past it
  pub states-now : (reads : List Range) (now : List Segment) → All (IsPageRun (length (cells w)) i) page_runs →
      ((p : ℕ) → p < MOST_PAGES → state_at now p ≡ changed_states (cells w) (rights w) i page_runs reads p) → ((p : ℕ) → MOST_PAGES ≤ p → state_at now p ≡ None) →
      (p : ℕ) → state_at now p ≡ changed_states (cells w) (rights w) i page_runs reads p
  states-now reads now are made_now within p =
      ⊎_elim
      (λ low. made_now p low)
      (λ past. within p past
      ∙ sym (ap (λ kind. state_of kind (changed_rights (cells w) (rights w) i page_runs reads p))
      (kept-kind (cells w) i p page_runs (past-page_run (length (cells w)) i p page_runs past are)
      ∙ ap (λ (f : ℕ → Option SegmentKind). f p) (sym (place-kinds w i))
      ∙ ap (option_map (λ (s : PageState). s.kind)) (w.kept.within i p past))))
      (cases_lt p MOST_PAGES)

  module _ (reads : List Range) (segments : List Segment) (all : (p : ℕ) → state_at segments p ≡ changed_states (cells w) (rights w) i page_runs reads p) where
    kind-now : (p : ℕ) → kind_at segments p ≡ kinds_of (changed_place (cells w) i page_runs) p
    kind-now p =
        ap (option_map (λ (s : PageState). s.kind)) (all p) ∙ kind-in (kinds_of (changed_place (cells w) i page_runs) p) (changed_rights (cells w) (rights w) i page_runs reads p)

    pub cells-changed : place_cells segments (changed_row (maps w.rows) i page_runs) ≡ changed_place (cells w) i page_runs
    unfolding changed_place changed_row
    cells-changed = λ x p.
        (ap (λ k. cell_of k (value_by (maps w.rows) p (row_of (maps w.rows) i p) (page_run_at page_runs p))) (kind-now p) ∙ cell-by p (page_run_at page_runs p)) x

    pub rights-changed : place_rights segments ≡ changed_rights (cells w) (rights w) i page_runs reads
    unfolding changed_rights
    rights-changed = λ x p.
        (ap right_in (all p) ∙ ap right_in (steady (kinds_of (changed_place (cells w) i page_runs) p) (cond (have_page reads p) Read (right_by (rights w) p (rights_of (rights w) i p) (page_run_at page_runs p))))) x

    pub fit-changed : (p : ℕ) → may_have (kind_at segments p) (changed_row (maps w.rows) i page_runs p) ≡ true
    unfolding changed_place changed_row
    fit-changed p =
        ap (λ k. may_have k (value_by (maps w.rows) p (row_of (maps w.rows) i p) (page_run_at page_runs p))) (kind-now p) ∙ fit-by p (page_run_at page_runs p)

    -- where no page of the place's own is left, its row says nothing, and without page runs it had none before
    pub none-left : HasNoOwnPage segments → place_cells segments no_pages ≡ changed_place (cells w) i page_runs
    none-left none = no-own-cells segments no_pages (changed_row (maps w.rows) i page_runs) none ∙ cells-changed

    pub none-before : HasNoOwnPage segments → length page_runs ≡ 0 → HasNoTree w.rows i
    none-before none empty =
        w.bare i (λ p own.
        none p
        (kind-now p
        ∙ kept-kind (cells w) i p page_runs (no-page_run page_runs p empty)
        ∙ ap (λ (f : ℕ → Option SegmentKind). f p) (sym (place-kinds w i))
        ∙ own))
