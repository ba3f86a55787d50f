-- A row that gets the values of page runs in rising order.
use Rattle.std.proofs.Common.{◌≡◌, ℕ, ◌+◌, ◌*◌, ◌<◌, ◌≤◌, ◌⊎◌, inl, inr, ⊎_elim, ◌&&◌, cond, leb, ltb, List, length, set, refl, sym, ◌∙◌, ap, arith, get_or-set_other, Option}
use Rattle.std.proofs.lemmas.Bool.Decides.{nat_tests}
use Rattle.std.proofs.lemmas.List.{get_or-set_same, set-get_or}
use Rattle.lwc_types.proofs.Small.{set-again}
use Rattle.lwc_types.specs.declared.limits.TheConstants.{MOST_PAGES}
use Rattle.lwc_types.specs.declared.page.PageValue.{PageValue}
use Rattle.cow_space.specs.declared.page_runs.Origin.{Origin}
use Rattle.cow_space.specs.declared.page_runs.Origin.TheVariants.{Absent, Zeros, Common, CopyOf}
use Rattle.cow_space.specs.declared.page_runs.PageRun.{PageRun}
use Rattle.cow_space.specs.Changes.{IsApart, page_run_at}
use Rattle.cow_space.specs.Maps.{no_pages, put_range, row_of}
use Rattle.cow_space.specs.Rows.{changed_row, origin_value, value_by}

-- a row with the values of another one below a page
module _ (maps : List (ℕ → Option PageValue)) (i : ℕ) (after : ℕ → Option PageValue) where
  abbrev pub filled : ℕ → List (ℕ → Option PageValue)
  filled p = set maps i (put_range (row_of maps i) 0 p after)

  row-at : (p e : ℕ) (other : ℕ → Option PageValue) → p ≤ e → ((q : ℕ) → p ≤ q → q < e → after q ≡ other q) → put_range (put_range (row_of maps i) 0 p after) p e other ≡ put_range (row_of maps i) 0 e after
  row-at p e other past same = λ x q. at q x
    where
      at : (q : ℕ) → cond (leb p q && ltb q e) (other q) (cond (leb 0 q && ltb q p) (after q) (row_of maps i q)) ≡ cond (leb 0 q && ltb q e) (after q) (row_of maps i q)
      at q = grind (arith, nat_tests, past, same q)

  -- at first there are none
  pub filled-none : maps ≡ filled 0
  filled-none = sym (ap (set maps i) (λ x q. at q x) ∙ set-get_or maps i no_pages)
    where
      at : (q : ℕ) → cond (leb 0 q && ltb q 0) (after q) (row_of maps i q) ≡ row_of maps i q
      at q = grind (arith, nat_tests)

  -- further pages get what they are to have, or have it already
  pub filled-more : (inside : i < length maps) (p e : ℕ) (before now : List (ℕ → Option PageValue)) (other : ℕ → Option PageValue) → p ≤ e → before ≡ filled p →
      now ≡ set before i (put_range (row_of before i) p e other) → ((q : ℕ) → p ≤ q → q < e → after q ≡ other q) → now ≡ filled e
  filled-more inside p e before now other past is put same =
      put
      ∙ ap (λ ms. set ms i (put_range (row_of ms i) p e other)) is
      ∙ set-again maps i (put_range (row_of maps i) 0 p after) (put_range (row_of (filled p) i) p e other)
      ∙ ap (λ r. set maps i (put_range r p e other)) (get_or-set_same maps i (put_range (row_of maps i) 0 p after) no_pages inside)
      ∙ ap (set maps i) (row-at p e other past same)

  pub filled-same : (p e : ℕ) (now : List (ℕ → Option PageValue)) → p ≤ e → now ≡ filled p → ((q : ℕ) → p ≤ q → q < e → after q ≡ row_of maps i q) → now ≡ filled e
  filled-same p e now past is same = is ∙ ap (set maps i) (λ x q. at q x)
    where
      at : (q : ℕ) → cond (leb 0 q && ltb q p) (after q) (row_of maps i q) ≡ cond (leb 0 q && ltb q e) (after q) (row_of maps i q)
      at q = grind (arith, nat_tests, past, same q)

  -- at the end of all pages the row has them all
  pub filled-all : (now : List (ℕ → Option PageValue)) → now ≡ filled MOST_PAGES → ((q : ℕ) → MOST_PAGES ≤ q → after q ≡ row_of maps i q) → now ≡ set maps i after
  filled-all now is past = is ∙ ap (set maps i) (λ x q. at q x)
    where
      at : (q : ℕ) → cond (leb 0 q && ltb q MOST_PAGES) (after q) (row_of maps i q) ≡ after q
      at q = grind (arith, nat_tests, past q)

-- the values of another origin are as they were
pub origin-kept : (maps : List (ℕ → Option PageValue)) (i count : ℕ) (row : ℕ → Option PageValue) (origin : Origin) → IsApart count i origin → origin_value (set maps i row) origin ≡ origin_value maps origin
origin-kept maps i count row Absent apart = refl
origin-kept maps i count row Zeros apart = refl
origin-kept maps i count row (Common g) apart = refl
origin-kept maps i count row (CopyOf j) apart = get_or-set_other maps i j row no_pages apart.1

-- the value by a page run
pub by-page_run : (maps : List (ℕ → Option PageValue)) (i q : ℕ) (page_runs : List PageRun) (o : Option PageRun) → page_run_at page_runs q ≡ o → changed_row maps i page_runs q ≡ value_by maps q (row_of maps i q) o
unfolding changed_row
by-page_run maps i q page_runs o found = ap (value_by maps q (row_of maps i q)) found

-- the most nodes and steps that one more range of a row takes

pub more-nodes : (start mid new before after : ℕ) (Own OwnNow : Type 0) → before + 1 ≤ after → (start ≤ mid + 4 * before) ⊎ (Own × (start ≤ mid + (1 + 4 * before))) → (mid ≤ new) ⊎ OwnNow → mid ≤ new + 5 → (Own → mid ≤ new + 4) →
    (start ≤ new + 4 * after) ⊎ (OwnNow × (start ≤ new + (1 + 4 * after)))
more-nodes start mid new before after Own OwnNow edge sofar own few few_own = ⊎_elim
    (λ same. inl (⊎_elim (λ a. omega (arith, a, same, edge)) (λ b. omega (arith, b.1, same, edge)) sofar))
    (λ now. inr (now, ⊎_elim (λ a. omega (arith, a, few, edge)) (λ b. let f = few_own b.0 in omega (arith, b.1, f, edge)) sofar))
    own

pub same-nodes : (start mid before after : ℕ) (Own : Type 0) → before ≤ after → (start ≤ mid + 4 * before) ⊎ (Own × (start ≤ mid + (1 + 4 * before))) → (start ≤ mid + 4 * after) ⊎ (Own × (start ≤ mid + (1 + 4 * after)))
same-nodes start mid before after Own grows sofar = ⊎_elim (λ a. inl (omega (arith, a, grows))) (λ b. inr (b.0, omega (arith, b.1, grows))) sofar
