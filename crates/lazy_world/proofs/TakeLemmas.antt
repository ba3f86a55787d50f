-- A place that gets what origins give.
use Rattle.std.proofs.Common.{◌≡◌, ℕ, ◌+◌, ◌<◌, ⊎_elim, true, false, cond, List, length, arith, refl, sym, ap, ◌∙◌, Option, Some, None, set}
use Rattle.std.specs.Prelude.{nat_lt, unwrap_or}
use Rattle.std.specs.Option.{option_map}
use Rattle.std.proofs.lemmas.Bool.{cases_eq}
use Rattle.std.proofs.lemmas.Bool.Decides.{nat_tests}
use Rattle.lwc_base.specs.declared.cell.Cell.{Cell}
use Rattle.lwc_base.specs.Keys.{ValueOf, with_key}
use Rattle.lwc_types.specs.declared.key.Key.{Key}
use Rattle.lwc_types.specs.declared.key.Key.TheVariants.{Page, Slot, Cred}
use Rattle.lwc_types.specs.declared.right.Right.{Right}
use Rattle.lwc_types.specs.declared.right.Right.TheVariants.{Read}
use Rattle.fd_table.specs.Slots as slots
use Rattle.cow_space.specs.Cells.{Place, place_of, right_in, rights_of}
use Rattle.cow_space.specs.Changes as page_changes
use Rattle.cow_space.specs.Changes.{cell_by, changed_place, changed_rights, changed_states, have_page, origin_cell, right_by, page_run_at}
use Rattle.range_map.specs.Kinds.{kind_of, state_of}
use Rattle.cow_space.specs.declared.page_runs.Origin.{Origin}
use Rattle.cow_space.specs.declared.page_runs.Origin.TheVariants as origins
use Rattle.lwc_types.specs.declared.range.Range.{Range}
use Rattle.cow_space.specs.declared.page_runs.PageRun.{PageRun}
use Rattle.lazy_world.specs.Cells.{Row, on_place, put_row, rows_of}
use Rattle.lazy_world.specs.Transfers.{CanGet, given, given_or}
use Rattle.arrayvec.specs.ArrayVec.{ArrayVec}
use Rattle.lazy_world.specs.declared.pieces.PageOrigins.{PageOrigins}
use Rattle.lazy_world.specs.declared.pieces.PageOrigins.TheVariants.{PageRuns}
use Rattle.lazy_world.specs.Origins.{gift_at, gift_of, gift_right, origin_right, page_origin, run_states, shown_right, slot_origin, origin_at, with_pages, with_slots, with_states}
use Rattle.lazy_world.proofs.PlaceLemmas.{choose, pages-put, pass, same_rows}

module _ (cells : List Place) (table : List (ℕ → slots.Slot)) (uids : List (Cell ℕ)) (i : ℕ) where
  abbrev old : ℕ → Row
  old = rows_of cells table uids

  -- the pages of page runs
  pub page_runs-given : (page_runs : List PageRun) (p : ℕ) → changed_place cells i page_runs p ≡ given_or old (Page p) (old i (Page p)) (origin_at page_runs p)
  unfolding changed_place rows_of
  page_runs-given page_runs p = at (page_run_at page_runs p)
    where
      given_is : (origin : Origin) → origin_cell cells origin p ≡ given old (Page p) origin
      given_is origins.Absent = refl
      given_is origins.Zeros = refl
      given_is (origins.Common g) = refl
      given_is (origins.CopyOf j) = refl

      at : (o : Option PageRun) → cell_by cells p (place_of cells i p) o ≡ given_or old (Page p) (old i (Page p)) (option_map (λ gift. gift.0) (option_map gift_of o))
      at None = refl
      at (Some s) = given_is s.origin

  -- and their rights and states
  module _ (rights : List (ℕ → Right)) (page_runs : List PageRun) (reads : List Range) where
    pub rights-given : (p : ℕ) → changed_rights cells rights i page_runs reads p
        ≡ shown_right (given_or old (Page p) (old i (Page p)) (origin_at page_runs p)) (have_page reads p) (gift_right (rights_of rights) p (rights_of rights i p) (gift_at page_runs p))
    unfolding changed_rights
    rights-given p = λ e. right_in (state_of (kind_of (page_runs-given page_runs p e)) (cond (have_page reads p) Read (at (page_run_at page_runs p) e)))
      where
        origin_is : (origin : Origin) → page_changes.origin_right rights origin p ≡ origin_right (rights_of rights) origin p
        origin_is origins.Absent = refl
        origin_is origins.Zeros = refl
        origin_is (origins.Common g) = refl
        origin_is (origins.CopyOf j) = refl

        at : (o : Option PageRun) → right_by rights p (rights_of rights i p) o ≡ gift_right (rights_of rights) p (rights_of rights i p) (option_map gift_of o)
        at None = refl
        at (Some s) = ap (unwrap_or s.right) (origin_is s.origin)

  -- all pages of another place
  pub all-given : (j p : ℕ) → place_of cells j p ≡ old j (Page p)
  unfolding rows_of
  all-given j p = refl

  module _ (pages : PageOrigins) (place : Place) (is : (p : ℕ) → place p ≡ given_or old (Page p) (old i (Page p)) (page_origin pages p)) where
    pub row-given : i < length cells → rows_of (set cells i place) table uids ≡ put_row old i (with_pages old pages (old i))
    unfolding rows_of
    row-given inside = pages-put cells table uids i place (with_pages old pages (old i)) inside each
      where
        each : (k : Key) → with_pages old pages (old i) k ≡ on_place place (old i) k
        each (Page p) = sym (is p)
        each (Slot n) = refl
        each Cred = refl

  -- the states of pages by page runs
  pub states-given : (rights : List (ℕ → Right)) (page_runs : ArrayVec PageRun) (reads : ArrayVec Range) →
      changed_states cells rights i page_runs.items reads.items ≡ with_states old (rights_of rights) i (PageRuns page_runs reads)
  states-given rights page_runs reads = λ e p. state_of (kind_of (page_runs-given page_runs.items p e)) (rights-given rights page_runs.items reads.items p e)

-- the states that a page run gives
pub states-run : (cells : List Place) (table : List (ℕ → slots.Slot)) (uids : List (Cell ℕ)) (page_run : PageRun) (rights : List (ℕ → Right)) (q : ℕ) →
    run_states (rows_of cells table uids) (rights_of rights) page_run q ≡ page_changes.given_states cells rights page_run q
unfolding rows_of
states-run cells table uids page_run rights q = at page_run.origin
  where
    at : (o : Origin) → state_of (kind_of (given (rows_of cells table uids) (Page q) o)) (unwrap_or page_run.right (origin_right (rights_of rights) o q))
        ≡ state_of (kind_of (origin_cell cells o q)) (unwrap_or page_run.right (page_changes.origin_right rights o q))
    at origins.Absent = refl
    at origins.Zeros = refl
    at (origins.Common g) = refl
    at (origins.CopyOf j) = refl

key_same : (k q : Key) (row : Row) → with_key Cell k (row k) row q ≡ row q
key_same (Page p) (Page q) row = ⊎_elim (λ same. choose p q (row (Page p)) (row (Page q)) same ∙ ap (λ n. row (Page n)) (sym same)) (λ other. pass p q (row (Page p)) (row (Page q)) other) (cases_eq q p)
key_same (Slot n) (Slot m) row = ⊎_elim (λ same. choose n m (row (Slot n)) (row (Slot m)) same ∙ ap (λ n. row (Slot n)) (sym same)) (λ other. pass n m (row (Slot n)) (row (Slot m)) other) (cases_eq m n)
key_same Cred Cred row = refl
key_same (Page p) (Slot n) row = refl
key_same (Page p) Cred row = refl
key_same (Slot n) (Page p) row = refl
key_same (Slot n) Cred row = refl
key_same Cred (Page p) row = refl
key_same Cred (Slot n) row = refl

-- rows with a row that is there are the same
pub kept-rows : (rows : ℕ → Row) (i : ℕ) (row : Row) → ((k : Key) → rows i k ≡ row k) → rows ≡ put_row rows i row
kept-rows rows i row same = same_rows rows rows i row same (λ j other k. refl)

pub kept-key : (rows : ℕ → Row) (i : ℕ) (k : Key) → rows ≡ put_row rows i (with_key Cell k (rows i k) (rows i))
kept-key rows i k = kept-rows rows i (with_key Cell k (rows i k) (rows i)) (λ q. sym (key_same k q (rows i)))

module _ (count : ℕ) (rows : ℕ → Row) (i : ℕ) where
  pub at_row : (row : Row) (k : Key) → put_row rows i row i k ≡ row k
  at_row row k = ap (λ (r : Row). r k) (choose i i row (rows i) refl)

  pub off_row : (row : Row) (j : ℕ) (k : Key) → (j ≡ i → ⊥) → put_row rows i row j k ≡ rows j k
  off_row row j k other = ap (λ (r : Row). r k) (pass i j row (rows j) other)

  -- what another place gives does not depend on the row
  pub given-still : (row : Row) (k : Key) (old : Cell (ValueOf k)) (origin : Option Origin) → CanGet count i origin → given_or (put_row rows i row) k old origin ≡ given_or rows k old origin
  given-still row k old None can = refl
  given-still row k old (Some origins.Absent) can = refl
  given-still row k old (Some origins.Zeros) can = refl
  given-still row k old (Some (origins.Common g)) can = refl
  given-still row k old (Some (origins.CopyOf j)) can = off_row row j k can.1

  module _ (slots : List (Option Origin)) (can : (n : ℕ) → n < 64 → CanGet count i (slot_origin slots n)) where
    pub slots-none : rows ≡ put_row rows i (with_slots 0 rows slots (rows i))
    slots-none = kept-rows rows i (with_slots 0 rows slots (rows i)) at
      where
        at : (k : Key) → rows i k ≡ with_slots 0 rows slots (rows i) k
        at (Page p) = refl
        at (Slot n) = let off : nat_lt n 0 ≡ false = grind (arith, nat_tests) in sym (ap (λ b. cond b (given_or rows (Slot n) (rows i (Slot n)) (slot_origin slots n)) (rows i (Slot n))) off)
        at Cred = refl

    -- one more slot
    module _ (n : ℕ) (low : n < 64) where
      abbrev before : Row
      before = with_slots n rows slots (rows i)

      here_before : before (Slot n) ≡ rows i (Slot n)
      here_before = let off : nat_lt n n ≡ false = grind (arith, nat_tests) in ap (λ b. cond b (given_or rows (Slot n) (rows i (Slot n)) (slot_origin slots n)) (rows i (Slot n))) off

      abbrev put : (ℕ → Row) → ℕ → Row
      put rs = put_row rs i (with_key Cell (Slot n) (given_or rs (Slot n) (rs i (Slot n)) (slot_origin slots n)) (rs i))

      slot_put : given_or (put_row rows i before) (Slot n) (put_row rows i before i (Slot n)) (slot_origin slots n) ≡ given_or rows (Slot n) (rows i (Slot n)) (slot_origin slots n)
      slot_put =
          ap (λ old. given_or (put_row rows i before) (Slot n) old (slot_origin slots n)) (at_row before (Slot n) ∙ here_before)
          ∙ given-still before (Slot n) (rows i (Slot n)) (slot_origin slots n) (can n low)

      slot_after : (m : ℕ) → with_key Cell (Slot n) (given_or rows (Slot n) (rows i (Slot n)) (slot_origin slots n)) before (Slot m) ≡ with_slots (n + 1) rows slots (rows i) (Slot m)
      slot_after m =
          ⊎_elim
          (λ same. let on : nat_lt m (n + 1) ≡ true = grind (arith, nat_tests) in
          choose n m (given_or rows (Slot n) (rows i (Slot n)) (slot_origin slots n)) (before (Slot m)) same
          ∙ ap (λ q. given_or rows (Slot q) (rows i (Slot q)) (slot_origin slots q)) (sym same)
          ∙ sym (ap (λ b. cond b (given_or rows (Slot m) (rows i (Slot m)) (slot_origin slots m)) (rows i (Slot m))) on))
          (λ other. let both : nat_lt m n ≡ nat_lt m (n + 1) = grind (arith, nat_tests) in
          pass n m (given_or rows (Slot n) (rows i (Slot n)) (slot_origin slots n)) (before (Slot m)) other
          ∙ ap (λ b. cond b (given_or rows (Slot m) (rows i (Slot m)) (slot_origin slots m)) (rows i (Slot m))) both)
          (cases_eq m n)

      slot-step : put (put_row rows i before) ≡ put_row rows i (with_slots (n + 1) rows slots (rows i))
      slot-step = same_rows rows (put (put_row rows i before)) i (with_slots (n + 1) rows slots (rows i)) here others
        where
          start : (k : Key) → put (put_row rows i before) i k
              ≡ with_key Cell (Slot n) (given_or (put_row rows i before) (Slot n) (put_row rows i before i (Slot n)) (slot_origin slots n)) (put_row rows i before i) k
          start k = ap (λ (r : Row). r k) (choose i i (with_key Cell (Slot n) (given_or (put_row rows i before) (Slot n) (put_row rows i before i (Slot n)) (slot_origin slots n)) (put_row rows i before i)) (put_row rows i before i) refl)

          same_before : put_row rows i before i ≡ before
          same_before = choose i i before (rows i) refl

          swap : (k : Key) → with_key Cell (Slot n) (given_or (put_row rows i before) (Slot n) (put_row rows i before i (Slot n)) (slot_origin slots n)) (put_row rows i before i) k
              ≡ with_key Cell (Slot n) (given_or rows (Slot n) (rows i (Slot n)) (slot_origin slots n)) before k
          swap k = λ e. with_key Cell (Slot n) (slot_put e) (same_before e) k

          rest : (k : Key) → with_key Cell (Slot n) (given_or rows (Slot n) (rows i (Slot n)) (slot_origin slots n)) before k ≡ with_slots (n + 1) rows slots (rows i) k
          rest (Page p) = refl
          rest (Slot m) = slot_after m
          rest Cred = refl

          here : (k : Key) → put (put_row rows i before) i k ≡ with_slots (n + 1) rows slots (rows i) k
          here k = start k ∙ swap k ∙ rest k

          others : (j : ℕ) → (j ≡ i → ⊥) → (k : Key) → put (put_row rows i before) j k ≡ rows j k
          others j other k =
              ap (λ (r : Row). r k) (pass i j (with_key Cell (Slot n) (given_or (put_row rows i before) (Slot n) (put_row rows i before i (Slot n)) (slot_origin slots n)) (put_row rows i before i)) (put_row rows i before j) other)
              ∙ off_row before j k other

      pub slot-taken : (rs : ℕ → Row) → rs ≡ put_row rows i before → put rs ≡ put_row rows i (with_slots (n + 1) rows slots (rows i))
      slot-taken rs is = ap put is ∙ slot-step
