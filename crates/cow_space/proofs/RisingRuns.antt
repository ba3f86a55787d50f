-- Page runs of which the last ones rise: the first that has a page, found by halving.
use Rattle.std.proofs.Common.{◌≡◌, ℕ, ◌+◌, ◌-◌, ◌<◌, ◌≤◌, ⊎_elim, ◌||◌, true, List, ap, arith, drop, get_or, length, length-drop, ltb, leb, refl, subst, sym, take, ◌∙◌, Option, None, Some}
use Rattle.std.specs.Option.{option_or}
use Rattle.std.specs.List.Sorted.{IsNonDecreasingBy}
use Rattle.std.proofs.lemmas.Bool.{and_parts, cases_lt, leb-true, ltb-true}
use Rattle.std.proofs.lemmas.List.{get_or-drop, get_or_default, take-append-drop, take_all}
use Rattle.std.proofs.lemmas.List.Folds.{find-append, list_any-append}
use Rattle.std.proofs.lemmas.List.Sorted.{IsNonDecreasingBy-from_default}
use Rattle.std.proofs.Math.Bool.{or-true}
use Rattle.range_map.specs.Kinds.{is_between}
use Rattle.range_map.proofs.Appended.{found}
use Rattle.range_map.proofs.Built.{between, find_none}
use Rattle.cow_space.specs.declared.page_runs.Origin.TheVariants.{Absent}
use Rattle.cow_space.specs.declared.page_runs.PageRun.{PageRun}
use Rattle.cow_space.specs.Changes.{Rise, RiseFrom, is_edge, page_run_at}

-- some page run
pub no_run : PageRun
no_run = record { range = record { from = 0; to = 0 }; origin = Absent; right = None }

module _ (runs : List PageRun) (rise : Rise runs) where
  -- none ends before an earlier one
  pub ends_rise : IsNonDecreasingBy (λ s. s.range.to) runs
  ends_rise = IsNonDecreasingBy-from_default (λ s. s.range.to) runs no_run (λ n k low inside.
      ⊎_elim
      (λ after. let b = rise.apart n k no_run (omega arith) after inside in let s = rise.order k no_run (omega arith) inside in omega (arith, b, s))
      (λ last. let is : k ≡ n = omega (arith, low, last) in let e = ap (λ i. (get_or runs i no_run).range.to) is in omega (arith, e))
      (cases_lt n k))

  -- all up to one that ends by a page do
  pub ended_before : (p n : ℕ) (e : PageRun) → n < length runs → (get_or runs n e).range.to ≤ p → (k : ℕ) (d : PageRun) → k < n + 1 → (get_or runs k d).range.to ≤ p
  ended_before p n e inside last k d early =
      let is = ap (λ (s : PageRun). s.range.to) (get_or_default runs k d e (omega (arith, early, inside))) in
      ⊎_elim
      (λ before. let b = rise.apart k n e (omega arith) before inside in let s = rise.order n e (omega arith) inside in omega (arith, b, s, last, is))
      (λ same. let at : k ≡ n = omega (arith, early, same) in let t = ap (λ i. (get_or runs i e).range.to) at in omega (arith, t, last, is))
      (cases_lt k n)

  -- where a page run has a page it is one of some number
  on_page : (q : ℕ) (s : PageRun) → page_run_at runs q ≡ Some s → (k : ℕ) × ((k < length runs) × ((get_or runs k no_run ≡ s) × (((get_or runs k no_run).range.from ≤ q) × (q < (get_or runs k no_run).range.to))))
  on_page q s is =
      let f = found (λ (t : PageRun). is_between t.range.from t.range.to q) runs s no_run is in
      let on = and_parts (leb s.range.from q) (ltb q s.range.to) f.1.1.1 in
      let low = leb-true s.range.from q on.0 in
      let high = ltb-true q s.range.to on.1 in
      let from_is = ap (λ (t : PageRun). t.range.from) f.1.1.0 in
      let to_is = ap (λ (t : PageRun). t.range.to) f.1.1.0 in
      (f.0, (f.1.0, (f.1.1.0, (omega (arith, from_is, low), omega (arith, to_is, high)))))

  module _ (p n : ℕ) (before : (k : ℕ) (d : PageRun) → k < n → (get_or runs k d).range.to ≤ p) where
    -- pages from one on that those before a number end by, and the one of that number begins past, are of none
    pub none_before : (q : ℕ) → p ≤ q → (n < length runs → q < (get_or runs n no_run).range.from) → page_run_at runs q ≡ None
    none_before q low later = by (page_run_at runs q) refl
      where
        by : (o : Option PageRun) → page_run_at runs q ≡ o → page_run_at runs q ≡ None
        by None is = is
        by (Some s) is =
            let o = on_page q s is in
            ⊎_elim
            (λ early. absurd (let b = before o.0 no_run early in omega (arith, b, o.1.1.1.1, low)))
            (λ late. ⊎_elim
            (λ after. absurd (let a = rise.apart n o.0 no_run (omega arith) after o.1.0 in let order = rise.order n no_run (omega arith) (omega (arith, after, o.1.0)) in let l = later (omega (arith, after, o.1.0)) in omega (arith, a, order, l, o.1.1.1.0)))
            (λ last. absurd (let same : o.0 ≡ n = omega (arith, late, last) in let e = ap (λ i. (get_or runs i no_run).range.from) same in let l = later (omega (arith, same, o.1.0)) in omega (arith, e, l, o.1.1.1.0)))
            (cases_lt n o.0))
            (cases_lt o.0 n)

    -- its own pages are of it
    pub run_within : n < length runs → (q : ℕ) → p ≤ q → (get_or runs n no_run).range.from ≤ q → q < (get_or runs n no_run).range.to → page_run_at runs q ≡ Some (get_or runs n no_run)
    run_within inside q low from to = by (page_run_at runs q) refl
      where
        by : (o : Option PageRun) → page_run_at runs q ≡ o → page_run_at runs q ≡ Some (get_or runs n no_run)
        by None is =
            let off = find_none (λ (t : PageRun). is_between t.range.from t.range.to q) runs n no_run inside is in
            let on = between (get_or runs n no_run).range.from (get_or runs n no_run).range.to q from to in
            absurd (let both = sym off ∙ on in cc)
        by (Some s) is =
            let o = on_page q s is in
            ⊎_elim
            (λ early. absurd (let b = before o.0 no_run early in omega (arith, b, o.1.1.1.1, low)))
            (λ late. ⊎_elim
            (λ after. absurd (let a = rise.apart n o.0 no_run (omega arith) after o.1.0 in omega (arith, a, o.1.1.1.0, to)))
            (λ last. let same : o.0 ≡ n = omega (arith, late, last) in is ∙ ap Some (sym o.1.1.0 ∙ ap (λ i. get_or runs i no_run) same))
            (cases_lt n o.0))
            (cases_lt o.0 n)

-- what is found in two parts
pub found_in : (n q : ℕ) (runs : List PageRun) → page_run_at runs q ≡ option_or (page_run_at (take n runs) q) (page_run_at (drop n runs) q)
found_in n q runs =
    ap (λ xs. page_run_at xs q) (sym (take-append-drop n runs)) ∙ find-append (λ (t : PageRun). is_between t.range.from t.range.to q) (take n runs) (drop n runs)

-- an edge of one of two parts
pub edge_in : (n e : ℕ) (runs : List PageRun) → is_edge runs e ≡ (is_edge (take n runs) e || is_edge (drop n runs) e)
edge_in n e runs =
    ap (λ xs. is_edge xs e) (sym (take-append-drop n runs)) ∙ list_any-append _ (take n runs) (drop n runs)

-- two pages for which each part finds the same
pub both_alike : (n p q : ℕ) (runs : List PageRun) → page_run_at (take n runs) q ≡ page_run_at (take n runs) p → page_run_at (drop n runs) q ≡ page_run_at (drop n runs) p →
    page_run_at runs q ≡ page_run_at runs p
both_alike n p q runs first last = found_in n q runs ∙ (λ e. option_or (first e) (last e)) ∙ sym (found_in n p runs)

-- page runs rise from the end on, and from one that rises before those that do
pub rise_none : (runs : List PageRun) → RiseFrom (length runs) runs
rise_none runs = record {
  order = λ k d late inside. absurd (omega (arith, late, inside));
  apart = λ j k d late after inside. absurd (omega (arith, late, after, inside));
}

pub rise_more : (n m : ℕ) (runs : List PageRun) → m ≡ n + 1 → RiseFrom m runs → ((d : PageRun) → (get_or runs n d).range.from ≤ (get_or runs n d).range.to) →
    ((d : PageRun) → n + 1 < length runs → (get_or runs n d).range.to ≤ (get_or runs (n + 1) d).range.from) → RiseFrom n runs
rise_more n m runs is rise here next = record {
  order = λ k d low inside.
      ⊎_elim (λ after. rise.order k d (omega (arith, is, after)) inside) (λ last. let same : k ≡ n = omega (arith, low, last) in subst (λ i. (get_or runs i d).range.from ≤ (get_or runs i d).range.to) (sym same) (here d)) (cases_lt n k);
  apart = λ j k d low after inside.
      ⊎_elim (λ later. rise.apart j k d (omega (arith, is, later)) after inside)
      (λ first. let same : j ≡ n = omega (arith, low, first) in
      subst (λ i. (get_or runs i d).range.to ≤ (get_or runs k d).range.from) (sym same) (past k d (omega (arith, same, after)) inside))
      (cases_lt n j);
}
  where
    past : (k : ℕ) (d : PageRun) → n < k → k < length runs → (get_or runs n d).range.to ≤ (get_or runs k d).range.from
    past k d after inside = ⊎_elim
        (λ far. let a = next d (omega (arith, after, inside)) in let o = rise.order (n + 1) d (omega (arith, is)) (omega (arith, far, inside)) in let b = rise.apart (n + 1) k d (omega (arith, is)) far inside in omega (arith, a, o, b))
        (λ near. let same : k ≡ n + 1 = omega (arith, after, near) in subst (λ i. (get_or runs n d).range.to ≤ (get_or runs i d).range.from) (sym same) (next d (omega (arith, after, inside))))
        (cases_lt (n + 1) k)

-- those that rise, by themselves
pub rise_drop : (n : ℕ) (runs : List PageRun) → RiseFrom n runs → Rise (drop n runs)
rise_drop n runs rise = record {
  order = λ k d low inside.
      subst (λ s. s.range.from ≤ s.range.to) (sym (get_or-drop n runs k d)) (rise.order (n + k) d (omega arith) (omega (arith, inside, length-drop n runs)));
  apart = λ j k d low after inside.
      subst (λ s. s.range.to ≤ (get_or (drop n runs) k d).range.from) (sym (get_or-drop n runs j d))
      (subst (λ s. (get_or runs (n + j) d).range.to ≤ s.range.from) (sym (get_or-drop n runs k d)) (rise.apart (n + j) (n + k) d (omega arith) (omega (arith, after)) (omega (arith, inside, length-drop n runs))));
}

pub edge_first : (n e : ℕ) (runs : List PageRun) → is_edge (take n runs) e ≡ true → is_edge runs e ≡ true
edge_first n e runs is = edge_in n e runs ∙ ap (λ b. b || is_edge (drop n runs) e) is

pub edge_last : (n e : ℕ) (runs : List PageRun) → is_edge (drop n runs) e ≡ true → is_edge runs e ≡ true
edge_last n e runs is = edge_in n e runs ∙ ap (λ b. is_edge (take n runs) e || b) is ∙ or-true (is_edge (take n runs) e)

-- the slice of the last ones
pub last_runs : (n : ℕ) (runs : List PageRun) → take (length runs - n) (drop n runs) ≡ drop n runs
last_runs n runs = take_all (length runs - n) (drop n runs) (omega (arith, length-drop n runs))
