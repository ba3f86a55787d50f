-- Present pages that are one run are one range, and where none is present there is no range.
use Rattle.std.proofs.Common.{◌≡◌, ◌≢◌, ℕ, zero, suc, ◌+◌, ◌<◌, ◌≤◌, refl, Bool, true, false, cond, None, arith, rules}
use Rattle.std.specs.Prelude.{[], if◌then◌else◌, count_by}
use Rattle.std.specs.List.{range_with_len}
use Rattle.std.proofs.lemmas.List.Sums.{sum_by-cons}
use Rattle.lwc_base.specs.declared.cell.Cell.TheVariants.{Own}
use Rattle.lwc_base.specs.Ranges.{continues_range, begins_range, ranges}
use Rattle.lwc_base.specs.Runs.{IsOneRun}
use Rattle.lwc_base.specs.World.{Context}
use Rattle.lwc_types.specs.declared.key.Key.TheVariants.{Page}

-- no number of a range passes
count_none : (test : ℕ → Bool) (a n : ℕ) → ((p : ℕ) → a ≤ p → p < a + n → test p ≡ false) → count_by test (range_with_len a n) ≡ 0
count_none test a zero fails = refl
count_none test a (suc n) fails =
    let here = fails a (omega arith) (omega arith) in
    let rest = count_none test (a + 1) n (λ p low high. fails p (omega arith) (omega arith)) in
    grind (arith, sum_by-cons (λ x. cond (test x) 1 0) a (range_with_len (a + 1) n))

-- one number of a range passes
count_one : (test : ℕ → Bool) (at a n : ℕ) → a ≤ at → at < a + n → test at ≡ true → ((p : ℕ) → p ≢ at → a ≤ p → p < a + n → test p ≡ false) →
    count_by test (range_with_len a n) ≡ 1
count_one test at a zero low high passes fails = absurd (omega arith)
count_one test at a (suc n) low high passes fails =
    let none = count_none test (a + 1) n in
    let rest = count_one test at (a + 1) n in
    grind (arith, sum_by-cons (λ x. cond (test x) 1 0) a (range_with_len (a + 1) n), fails, none, rest)

first_continues_range : (x : Context) (p : ℕ) → ((q : ℕ) → q < p → x.cell (Page q) ≡ Own None) → continues_range x p ≡ false
first_continues_range x p none = search rules

module _ (pages from to : ℕ) (x : Context) (run : IsOneRun pages from to x) where
  begins_at_first : begins_range x from ≡ true
  unfolding begins_range
  begins_at_first = let first = first_continues_range x from run.before in let here = run.inside from (omega arith) run.some in grind arith

  begins_nowhere_else : (p : ℕ) → p ≢ from → p < pages → begins_range x p ≡ false
  unfolding begins_range
  begins_nowhere_else p other high = search rules

  pub ranges-one_run : ranges pages x ≡ 1
  unfolding ranges
  ranges-one_run =
      count_one (begins_range x) from 0 pages (omega arith) (omega (arith, run.some, run.within)) begins_at_first (λ p other low high. begins_nowhere_else p other (omega arith))

pub ranges-absent : (pages : ℕ) (x : Context) → ((p : ℕ) → p < pages → x.cell (Page p) ≡ Own None) → ranges pages x ≡ 0
unfolding ranges begins_range
ranges-absent pages x absent = count_none (begins_range x) 0 pages (λ p low high. let gone = absent p (omega arith) in grind arith)

-- one number more at the end of a range
pub count_more : (test : ℕ → Bool) (a n k : ℕ) → k ≡ a + n → count_by test (range_with_len a (n + 1)) ≡ count_by test (range_with_len a n) + cond (test k) 1 0
count_more test a zero k is = grind (arith, sum_by-cons (λ x. cond (test x) 1 0) a [])
count_more test a (suc n) k is =
    let rest = count_more test (a + 1) n k (omega arith) in
    grind (arith, sum_by-cons (λ x. cond (test x) 1 0) a (range_with_len (a + 1) (suc n)), sum_by-cons (λ x. cond (test x) 1 0) a (range_with_len (a + 1) n))

-- each further page adds the range that begins at it
pub ranges-more : (pages : ℕ) (x : Context) → ranges (pages + 1) x ≡ ranges pages x + (if begins_range x pages then 1 else 0)
unfolding ranges
ranges-more pages x = count_more (begins_range x) 0 pages pages (omega arith)
