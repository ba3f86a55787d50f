-- Rows in the order of their names: where a name is, and where it would go.
use Rattle.std.proofs.Common.{◌≡◌, ◌∙◌, ℕ, ◌-◌, zero, suc, ◌<◌, ◌≤◌, inl, inr, Bool, true, false, cond, not, List, [], ◌∷◌, length, get_or, Option, Some, None, Result, Ok, Err, IfOk, IfErr, ◌+◌, refl, sym, ap, subst, arith, ltb}
use Rattle.std.specs.Prelude.{T, ◌&&◌, ◌==◌, is_some, count_by, map, slice_get}
use Rattle.std.proofs.lemmas.Bool.{le-ltb, lt-ltb}
use Rattle.std.proofs.lemmas.Bool.Decides.{leb_tells, nat_tests}
use Rattle.std.proofs.lemmas.Option.{get_or_from_slice_get, slice_get_within}
use Rattle.std.proofs.lemmas.List.Sums.{sum_by-cons}
use Rattle.std.specs.Cmp.{eq_by_cmp_equiv, nat_cmp_is, tied_itself}
use Rattle.std.specs.FinMap as fm
use Rattle.std.specs.FinMap.Entries.{below_all, by_order, is_sorted-put, is_sorted-where_key, find-where_key, where_key}
use Rattle.std.specs.List.{insert, remove}
use Rattle.std.specs.List.Sorted.{IsBinarySearchResult, IsNonDecreasingBy, IsPartitionPoint, IsSearchInRange}
use Rattle.std.specs.Ordering.{eq_by_cmp, is_eq, is_lt, nat_cmp, ordering_index, ordering_reverse, ordering_then}
use Rattle.std.specs.declared.cmp.Ordering.{Ordering}
use Rattle.std.specs.declared.cmp.Ordering.TheVariants.{Less, Equal, Greater}
use Rattle.std.proofs.Math.Nat.{eq-or-lt_of_le}
use Rattle.ctx_table.specs.Places.{IsAt, IsGap, Places}
use Rattle.lwc_types.specs.declared.name.Name.{Name}
use Rattle.lwc_types.specs.Names.{name_cmp}
use Rattle.lwc_types.proofs.Orders.{name_cmp-IsAntisymmetric, name_cmp-total}

less_of : (r : Ordering) → T (is_lt r) → r ≡ Less
less_of Less t = refl
less_of Equal t = absurd t
less_of Greater t = absurd t

pub first_of_both : (a b : Bool) → T (a && b) → T a
first_of_both true b t = tt
first_of_both false b t = absurd t

pub second_of_both : (a b : Bool) → T (a && b) → T b
second_of_both true b t = t
second_of_both false b t = absurd t

cond_turned : {A : Type 0} (b : Bool) (x y : A) → cond (not b) x y ≡ cond b y x
cond_turned true x y = refl
cond_turned false x y = refl

index_most : (r : Ordering) → ordering_index r ≤ 2
index_most Less = omega arith
index_most Equal = omega arith
index_most Greater = omega arith

turned : (a b : Name) (r : Ordering) → name_cmp a b ≡ r → name_cmp b a ≡ ordering_reverse r
turned a b r is = name_cmp-total.antisymm b a ∙ ap ordering_reverse is

-- names that are the same tie
tied : (a b : Name) → a ≡ b → name_cmp a b ≡ Equal
tied a b same = subst (λ (n : Name). name_cmp a n ≡ Equal) same (tied_itself name_cmp-total a)

pub below-at : (name : Name) (rows : List (Name × ℕ)) (i : ℕ) (d : Name × ℕ) → T (below_all name_cmp name rows) → i < length rows → name_cmp name (get_or rows i d).0 ≡ Less
below-at name [] i d below within = absurd (omega arith)
below-at name (e ∷ es) zero d below within = less_of _ (first_of_both _ _ below)
below-at name (e ∷ es) (suc i) d below within = below-at name es i d (second_of_both _ _ below) (omega arith)

pub rising : (rows : List (Name × ℕ)) (i j : ℕ) (d : Name × ℕ) → T (fm.is_sorted name_cmp rows) → i < j → j < length rows → name_cmp (get_or rows i d).0 (get_or rows j d).0 ≡ Less
rising [] i j d sorted less within = absurd (omega arith)
rising (e ∷ es) i zero d sorted less within = absurd (omega arith)
rising (e ∷ es) zero (suc j) d sorted less within = below-at e.0 es j d (first_of_both _ _ sorted) (omega arith)
rising (e ∷ es) (suc i) (suc j) d sorted less within = rising es i j d (second_of_both _ _ sorted) (omega arith) (omega arith)

-- a lower name compares no higher
index_rises : (x y k : Name) (r : Ordering) → name_cmp x y ≡ Less → name_cmp y k ≡ r → ordering_index (name_cmp x k) ≤ ordering_index r
index_rises x y k Less lower is = let less = ap ordering_index (name_cmp-total.trans x y k lower is) in omega arith
index_rises x y k Equal lower is = let less = ap ordering_index (subst (λ (n : Name). name_cmp x n ≡ Less) (name_cmp-IsAntisymmetric y k is) lower) in omega arith
index_rises x y k Greater lower is = index_most (name_cmp x k)

comparisons_rise : (rows : List (Name × ℕ)) (k : Name) → T (fm.is_sorted name_cmp rows) → IsNonDecreasingBy (λ row. ordering_index (name_cmp row.0 k)) rows
comparisons_rise rows k sorted i j d le within = elim (eq-or-lt_of_le le) as (λ _. ordering_index (name_cmp (get_or rows i d).0 k) ≤ ordering_index (name_cmp (get_or rows j d).0 k)) [
  | inl same ↦ subst (λ (n : ℕ). ordering_index (name_cmp (get_or rows i d).0 k) ≤ ordering_index (name_cmp (get_or rows n d).0 k)) same (omega arith)
  | inr less ↦ index_rises (get_or rows i d).0 (get_or rows j d).0 k _ (rising rows i j d sorted less within) refl
]

pub searched : (rows : List (Name × ℕ)) (k : Name) (r : Result ℕ ℕ) → T (fm.is_sorted name_cmp rows) → IsSearchInRange r (length rows) →
    IsBinarySearchResult (λ row. name_cmp row.0 k) rows r → record { found : IfOk r (IsAt rows k); absent : IfErr r (IsGap rows k) }
searched rows k (Ok i) sorted within equal = record { found = record { within = within; same = λ d. name_cmp-IsAntisymmetric _ _ (equal d) }; absent = tt }
searched rows k (Err i) sorted within parted =
    let parts = parted (comparisons_rise rows k sorted) in
    record { found = tt; absent = record { within = within; lower = λ j d below. parts.0 j d (omega arith) below; higher = λ j d above inside. parts.1 j d above inside } }

-- a name above that of the last row goes behind it
pub past_last : (rows : List (Name × ℕ)) (k : Name) (last : Name × ℕ) → T (fm.is_sorted name_cmp rows) → slice_get rows (length rows - 1) ≡ Some last → name_cmp last.0 k ≡ Less →
    IsGap rows k (length rows)
past_last rows k last sorted read less =
    let within : length rows - 1 < length rows = slice_get_within rows (length rows - 1) last read in
    record {
      within = omega arith;
      lower = λ j d below. elim (eq-or-lt_of_le {n = j} {m = length rows - 1} (omega (arith, below))) as (λ _. name_cmp (get_or rows j d).0 k ≡ Less) [
        | inl same ↦ subst (λ (n : ℕ). name_cmp (get_or rows n d).0 k ≡ Less) (sym same)
            (subst (λ (row : Name × ℕ). name_cmp row.0 k ≡ Less) (sym (get_or_from_slice_get rows (length rows - 1) last d read)) less)
        | inr before ↦ name_cmp-total.trans (get_or rows j d).0 last.0 k
            (subst (λ (row : Name × ℕ). name_cmp (get_or rows j d).0 row.0 ≡ Less) (get_or_from_slice_get rows (length rows - 1) last d read)
            (rising rows j (length rows - 1) d sorted before within)) less
      ];
      higher = λ j d above inside. absurd (omega (arith, above, inside));
    }

pub at_last : (rows : List (Name × ℕ)) (k : Name) (last : Name × ℕ) → slice_get rows (length rows - 1) ≡ Some last → name_cmp last.0 k ≡ Equal → IsAt rows k (length rows - 1)
at_last rows k last read equal = record {
  within = slice_get_within rows (length rows - 1) last read;
  same = λ d. ap (λ (row : Name × ℕ). row.0) (get_or_from_slice_get rows (length rows - 1) last d read) ∙ name_cmp-IsAntisymmetric last.0 k equal;
}

-- the row of a name has its place
pub find-at : (rows : List (Name × ℕ)) (k : Name) (i : ℕ) (d : Name × ℕ) → T (fm.is_sorted name_cmp rows) → i < length rows → (get_or rows i d).0 ≡ k →
    fm.find name_cmp k rows ≡ Some (get_or rows i d).1
find-at [] k i d sorted within same = absurd (omega arith)
find-at (e ∷ es) k zero d sorted within same = ap (λ (r : Ordering). cond (is_eq r) (Some e.1) (fm.find name_cmp k es)) (tied k e.0 (sym same))
find-at (e ∷ es) k (suc i) d sorted within same =
    let lower : name_cmp e.0 k ≡ Less = subst (λ (n : Name). name_cmp e.0 n ≡ Less) same (below-at e.0 es i d (first_of_both _ _ sorted) (omega arith)) in
    ap (λ (r : Ordering). cond (is_eq r) (Some e.1) (fm.find name_cmp k es)) (turned e.0 k Less lower) ∙ find-at es k i d (second_of_both _ _ sorted) (omega arith) same

gap-tail : (e : Name × ℕ) (es : List (Name × ℕ)) (k : Name) (i : ℕ) → IsGap (e ∷ es) k (suc i) → IsGap es k i
gap-tail e es k i gap = record {
  within = omega (arith, gap.within);
  lower = λ j d below. gap.lower (suc j) d (omega arith);
  higher = λ j d above inside. gap.higher (suc j) d (omega arith) (omega arith);
}

gap-rest : (e : Name × ℕ) (es : List (Name × ℕ)) (k : Name) → IsGap (e ∷ es) k 0 → IsGap es k 0
gap-rest e es k gap = record {
  within = omega arith;
  lower = λ j d below. absurd (omega arith);
  higher = λ j d above inside. gap.higher (suc j) d (omega arith) (omega arith);
}

-- a name that has a gap is not found
pub find-gap : (rows : List (Name × ℕ)) (k : Name) (i : ℕ) → IsGap rows k i → fm.find name_cmp k rows ≡ None
find-gap [] k i gap = refl
find-gap (e ∷ es) k zero gap =
    ap (λ (r : Ordering). cond (is_eq r) (Some e.1) (fm.find name_cmp k es)) (turned e.0 k Greater (gap.higher 0 e (omega arith) (omega arith))) ∙ find-gap es k 0 (gap-rest e es k gap)
find-gap (e ∷ es) k (suc i) gap =
    ap (λ (r : Ordering). cond (is_eq r) (Some e.1) (fm.find name_cmp k es)) (turned e.0 k Less (gap.lower 0 e (omega arith))) ∙ find-gap es k i (gap-tail e es k i gap)

-- a row put into the gap of its name
pub insert-gap : (rows : List (Name × ℕ)) (k : Name) (p i : ℕ) → IsGap rows k i → insert rows i (k, p) ≡ fm.put name_cmp k p rows
insert-gap [] k p zero gap = refl
insert-gap [] k p (suc i) gap = absurd (omega (arith, gap.within))
insert-gap (e ∷ es) k p zero gap =
    ap (λ (r : Ordering). by_order r ((k, p) ∷ e ∷ es) ((e.0, p) ∷ es) (e ∷ fm.put name_cmp k p es)) (sym (turned e.0 k Greater (gap.higher 0 e (omega arith) (omega arith))))
insert-gap (e ∷ es) k p (suc i) gap =
    ap (λ (l : List (Name × ℕ)). e ∷ l) (insert-gap es k p i (gap-tail e es k i gap))
    ∙ ap (λ (r : Ordering). by_order r ((k, p) ∷ e ∷ es) ((e.0, p) ∷ es) (e ∷ fm.put name_cmp k p es)) (sym (turned e.0 k Less (gap.lower 0 e (omega arith))))

-- no row of a higher name is left out
others : (k : Name) (rows : List (Name × ℕ)) → T (below_all name_cmp k rows) → where_key name_cmp (λ x. not (eq_by_cmp name_cmp k x)) rows ≡ rows
others k [] below = refl
others k (e ∷ es) below =
    ap (λ (r : Ordering). cond (not (is_eq r)) (e ∷ where_key name_cmp (λ x. not (eq_by_cmp name_cmp k x)) es) (where_key name_cmp (λ x. not (eq_by_cmp name_cmp k x)) es))
    (less_of _ (first_of_both _ _ below))
    ∙ ap (λ (l : List (Name × ℕ)). e ∷ l) (others k es (second_of_both _ _ below))

-- without the row of a name
pub remove-at : (rows : List (Name × ℕ)) (k : Name) (i : ℕ) (d : Name × ℕ) → T (fm.is_sorted name_cmp rows) → i < length rows → (get_or rows i d).0 ≡ k →
    where_key name_cmp (λ x. not (eq_by_cmp name_cmp k x)) rows ≡ remove rows i
remove-at [] k i d sorted within same = absurd (omega arith)
remove-at (e ∷ es) k zero d sorted within same =
    let rest = where_key name_cmp (λ x. not (eq_by_cmp name_cmp k x)) es in
    ap (λ (r : Ordering). cond (not (is_eq r)) (e ∷ rest) rest) (tied k e.0 (sym same)) ∙ others k es (subst (λ (n : Name). T (below_all name_cmp n es)) same (first_of_both _ _ sorted))
remove-at (e ∷ es) k (suc i) d sorted within same =
    let rest = where_key name_cmp (λ x. not (eq_by_cmp name_cmp k x)) es in
    let lower : name_cmp e.0 k ≡ Less = subst (λ (n : Name). name_cmp e.0 n ≡ Less) same (below-at e.0 es i d (first_of_both _ _ sorted) (omega arith)) in
    ap (λ (r : Ordering). cond (not (is_eq r)) (e ∷ rest) rest) (turned e.0 k Less lower) ∙ ap (λ (l : List (Name × ℕ)). e ∷ l) (remove-at es k i d (second_of_both _ _ sorted) (omega arith) same)

module _ (rows : List (Name × ℕ)) (sorted : T (fm.is_sorted name_cmp rows)) where
  -- the map of rows in order has their places
  pub put-sorted : (k : Name) (p : ℕ) → T (fm.is_sorted name_cmp (fm.put name_cmp k p rows))
  put-sorted k p = is_sorted-put name_cmp name_cmp-total k p rows sorted

  pub map-put : (k : Name) (p : ℕ) → fm.from_sorted {R = name_cmp} (fm.put name_cmp k p rows) ≡ fm.insert (fm.from_sorted rows) k p
  map-put k p = fm.same_entries_map _ _
      (fm.entries-from_sorted name_cmp (fm.put name_cmp k p rows) (put-sorted k p) ∙ ap (fm.put name_cmp k p) (sym (fm.entries-from_sorted name_cmp rows sorted))
      ∙ sym (fm.entries-insert name_cmp-total (fm.from_sorted rows) k p))

  pub without-sorted : (k : Name) → T (fm.is_sorted name_cmp (where_key name_cmp (λ x. not (eq_by_cmp name_cmp k x)) rows))
  without-sorted k = is_sorted-where_key name_cmp (λ x. not (eq_by_cmp name_cmp k x)) rows sorted

  pub map-without : (k : Name) → fm.from_sorted {R = name_cmp} (where_key name_cmp (λ x. not (eq_by_cmp name_cmp k x)) rows) ≡ fm.remove (fm.from_sorted rows) k
  map-without k = fm.same_map name_cmp-total name_cmp-IsAntisymmetric _ _ (λ q.
      fm.get-from_sorted name_cmp (where_key name_cmp (λ x. not (eq_by_cmp name_cmp k x)) rows) q (without-sorted k)
      ∙ find-where_key name_cmp (λ x. not (eq_by_cmp name_cmp k x)) q (λ x same. ap (λ (n : Name). not (eq_by_cmp name_cmp k n)) (sym (name_cmp-IsAntisymmetric q x same))) rows
      ∙ cond_turned (eq_by_cmp name_cmp k q) (fm.find name_cmp q rows) None ∙ ap (λ (b : Bool). cond b None (fm.find name_cmp q rows)) ((eq_by_cmp_equiv name_cmp-total).symm k q)
      ∙ ap (λ (x : Option ℕ). cond (eq_by_cmp name_cmp q k) None x) (sym (fm.get-from_sorted name_cmp rows q sorted)) ∙ sym (fm.get-remove name_cmp-total (fm.from_sorted rows) k q))

  pub map-len : fm.len (fm.from_sorted {R = name_cmp} rows) ≡ length rows
  map-len = fm.len-entries _ ∙ ap length (fm.entries-from_sorted name_cmp rows sorted)

  pub map-at : (k : Name) (i : ℕ) (row : Name × ℕ) → IsAt rows k i → row ≡ get_or rows i row → Some row.1 ≡ fm.get (fm.from_sorted {R = name_cmp} rows) k
  map-at k i row at is =
      ap (λ (r : Name × ℕ). Some r.1) is ∙ sym (fm.get-from_sorted name_cmp rows k sorted ∙ find-at rows k i row sorted at.within (at.same row))

  pub map-gap : (k : Name) (i : ℕ) → IsGap rows k i → None ≡ fm.get (fm.from_sorted {R = name_cmp} rows) k
  map-gap k i gap = sym (fm.get-from_sorted name_cmp rows k sorted ∙ find-gap rows k i gap)

  pub is_there : (k : Name) (i : ℕ) → IsAt rows k i → fm.contains_key (fm.from_sorted {R = name_cmp} rows) k ≡ true
  is_there k i at = ap is_some (fm.get-from_sorted name_cmp rows k sorted ∙ find-at rows k i (k, 0) sorted at.within (at.same (k, 0)))

  pub not_there : (k : Name) (i : ℕ) → IsGap rows k i → fm.contains_key (fm.from_sorted {R = name_cmp} rows) k ≡ false
  not_there k i gap = ap is_some (sym (map-gap k i gap))

  -- rows after an insert or a removal
  pub inserted : (k : Name) (p i : ℕ) → IsGap rows k i → fm.from_sorted {R = name_cmp} (insert rows i (k, p)) ≡ fm.insert (fm.from_sorted rows) k p
  inserted k p i gap = ap (λ (l : List (Name × ℕ)). fm.from_sorted {R = name_cmp} l) (insert-gap rows k p i gap) ∙ map-put k p

  pub inserted-sorted : (k : Name) (p i : ℕ) → IsGap rows k i → T (fm.is_sorted name_cmp (insert rows i (k, p)))
  inserted-sorted k p i gap = subst (λ (l : List (Name × ℕ)). T (fm.is_sorted name_cmp l)) (sym (insert-gap rows k p i gap)) (put-sorted k p)

  pub removed : (k : Name) (i : ℕ) (d : Name × ℕ) → IsAt rows k i → fm.from_sorted {R = name_cmp} (remove rows i) ≡ fm.remove (fm.from_sorted rows) k
  removed k i d at = ap (λ (l : List (Name × ℕ)). fm.from_sorted {R = name_cmp} l) (sym (remove-at rows k i d sorted at.within (at.same d))) ∙ map-without k

  pub removed-sorted : (k : Name) (i : ℕ) (d : Name × ℕ) → IsAt rows k i → T (fm.is_sorted name_cmp (remove rows i))
  removed-sorted k i d at = subst (λ (l : List (Name × ℕ)). T (fm.is_sorted name_cmp l)) (remove-at rows k i d sorted at.within (at.same d)) (without-sorted k)

-- the jobs of rows rise
lower_job : (a b : Name) → name_cmp a b ≡ Less → a.job ≤ b.job
lower_job a b less = elim (leb_tells a.job b.job) as (λ _. a.job ≤ b.job) [
  | inl no_higher ↦ no_higher.1
  | inr higher ↦ let greater = ap (λ (r : Ordering). ordering_then r (nat_cmp a.k b.k)) (nat_cmp_is a.job b.job Greater higher.1) ∙ less in cc
]

pub jobs_rise : (rows : List (Name × ℕ)) → T (fm.is_sorted name_cmp rows) → IsNonDecreasingBy (λ row. row.0.job) rows
jobs_rise rows sorted i j d le within = elim (eq-or-lt_of_le le) as (λ _. (get_or rows i d).0.job ≤ (get_or rows j d).0.job) [
  | inl same ↦ subst (λ (n : ℕ). (get_or rows i d).0.job ≤ (get_or rows n d).0.job) same (omega arith)
  | inr less ↦ lower_job (get_or rows i d).0 (get_or rows j d).0 (rising rows i j d sorted less within)
]

-- the rows of the map are those that it was made of
module _ (rows : List (Name × ℕ)) (sorted : T (fm.is_sorted name_cmp rows)) (k : Name) (i : ℕ) where
  pub rows_at : IsAt (fm.entries (fm.from_sorted {R = name_cmp} rows)) k i → IsAt rows k i
  rows_at at = rw (fm.entries-from_sorted name_cmp rows sorted) at at

  pub rows_gap : IsGap (fm.entries (fm.from_sorted {R = name_cmp} rows)) k i → IsGap rows k i
  rows_gap gap = rw (fm.entries-from_sorted name_cmp rows sorted) at gap

pub no_rows : fm.from_sorted {K = Name} {X = ℕ} {R = name_cmp} [] ≡ fm.empty
no_rows = fm.empty_of_len _ (fm.len-entries _ ∙ ap length (fm.entries-from_sorted name_cmp [] tt))

pub same_places : (m n : fm.FinMap name_cmp ℕ) (a b : ℕ) → m ≡ n → a ≡ b → ◌≡◌ {A = Places} (record { map = m; room = a }) (record { map = n; room = b })
same_places m n a b maps rooms = λ i. record { map = maps i; room = rooms i }

-- as many names pass a test as rows of such names are there
pub count-names : (test : Name → Bool) (rows : List (Name × ℕ)) → count_by (λ row. test row.0) rows ≡ count_by test (map (λ row. row.0) rows)
count-names test [] = refl
count-names test (e ∷ es) =
    let rest = count-names test es in
    grind (arith, sum_by-cons (λ row. cond (test row.0) 1 0) e es, sum_by-cons (λ name. cond (test name) 1 0) e.0 (map (λ row. row.0) es))

-- as many rows pass a test as there are before the first that fails it
counted_to : {X : Type 0} (p : X → Bool) (xs : List X) (i : ℕ) → i ≤ length xs → IsPartitionPoint (λ x. p x ≡ true) (λ x. p x ≡ false) xs i → count_by p xs ≡ i
counted_to p [] i within parts = omega (arith, within)
counted_to {X} p (x ∷ xs) zero within parts =
    let rest = counted_to p xs 0 (omega arith) ((λ k d above below. absurd (omega (arith, below))), (λ k d above below. parts.1 (suc k) d (omega arith) (omega (arith, below)))) in
    grind (arith, rest, sum_by-cons (λ (y : X). cond (p y) 1 0) x xs, parts.1 0 x (omega arith) (omega arith))
counted_to {X} p (x ∷ xs) (suc i) within parts =
    let rest = counted_to p xs i (omega (arith, within)) (
      (λ k d above below. parts.0 (suc k) d (omega arith) (omega (arith, below))),
      (λ k d above below. parts.1 (suc k) d (omega (arith, above)) (omega (arith, below))),
    ) in
    grind (arith, rest, sum_by-cons (λ (y : X). cond (p y) 1 0) x xs, parts.0 0 x (omega arith) (omega arith))

-- the names of a job are those below the next one that are not below it
up_to : (a b : ℕ) → cond (a == b) 1 0 + cond (ltb a b) 1 0 ≡ cond (ltb a (b + 1)) 1 0
up_to a b = grind (arith, nat_tests)

counted_between : (job : ℕ) (names : List Name) → count_by (λ name. name.job == job) names + count_by (λ name. ltb name.job job) names ≡ count_by (λ name. ltb name.job (job + 1)) names
counted_between job [] = refl
counted_between job (n ∷ ns) =
    omega (
      arith,
      counted_between job ns,
      up_to n.job job,
      sum_by-cons (λ name. cond (name.job == job) 1 0) n ns,
      sum_by-cons (λ name. cond (ltb name.job job) 1 0) n ns,
      sum_by-cons (λ name. cond (ltb name.job (job + 1)) 1 0) n ns,
    )

pub counted_of : (names : List Name) (job low next a b : ℕ) → low ≡ job → next ≡ job + 1 → a ≡ count_by (λ name. ltb name.job next) names → b ≡ count_by (λ name. ltb name.job low) names →
    count_by (λ name. name.job == job) names + b ≡ a
counted_of names job low next a b same more above below =
    omega (
      arith,
      counted_between job names,
      above ∙ ap (λ (n : ℕ). count_by (λ name. ltb name.job n) names) more,
      below ∙ ap (λ (n : ℕ). count_by (λ name. ltb name.job n) names) same,
    )

-- how many rows are of jobs below a number
module _ (rows : List (Name × ℕ)) (sorted : T (fm.is_sorted name_cmp rows)) (job : ℕ) where
  pub counted_below : (i : ℕ) → i ≤ length rows → IsPartitionPoint (λ row. ltb row.0.job job ≡ true) (λ row. ltb row.0.job job ≡ false) rows i →
      i ≡ count_by (λ name. ltb name.job job) (map (λ row. row.0) rows)
  counted_below i within parts = sym (counted_to (λ row. ltb row.0.job job) rows i within parts) ∙ count-names (λ name. ltb name.job job) rows

  pub none_below : (first : Name × ℕ) → slice_get rows 0 ≡ Some first → job ≤ first.0.job → 0 ≡ count_by (λ name. ltb name.job job) (map (λ row. row.0) rows)
  none_below first read low = counted_below 0 (omega arith) (
    (λ k d above below. absurd (omega (arith, below))),
    (λ k d above below. le-ltb _ _ (omega (arith, low, jobs_rise rows sorted 0 k d (omega arith) below, ap (λ (row : Name × ℕ). row.0.job) (get_or_from_slice_get rows 0 first d read)))),
  )

  pub all_below : (last : Name × ℕ) → slice_get rows (length rows - 1) ≡ Some last → last.0.job < job → length rows ≡ count_by (λ name. ltb name.job job) (map (λ row. row.0) rows)
  all_below last read high = counted_below (length rows) (omega arith) (
    (λ k d above below. lt-ltb _ _ (omega (
      arith,
      high,
      jobs_rise rows sorted k (length rows - 1) d (omega (arith, below)) (slice_get_within rows (length rows - 1) last read),
      ap (λ (row : Name × ℕ). row.0.job) (get_or_from_slice_get rows (length rows - 1) last d read),
    ))),
    (λ k d above below. absurd (omega (arith, above, below))),
  )
