-- Segments that have the wanted states of the pages below a page.
use Rattle.std.proofs.Common.{◌≡◌, ℕ, suc, ◌+◌, ◌-◌, ◌<◌, ◌≤◌, inl, inr, ⊎_elim, ◌||◌, ◌&&◌, cond, not, List, [], ◌∷◌, get_or, length, take, sym, ◌∙◌, ap, arith, refl, Option, None, Some}
use Rattle.std.specs.Prelude.{All, is_some}
use Rattle.std.specs.Option.{option_eq, option_or}
use Rattle.std.proofs.lemmas.Bool.{cases_lt}
use Rattle.std.proofs.lemmas.List.{take_more}
use Rattle.std.proofs.lemmas.List.Folds.{find-append}
use Rattle.lwc_types.specs.declared.limits.TheConstants.{MOST_PAGES}
use Rattle.range_map.specs.declared.segment.PageState.{PageState}
use Rattle.range_map.specs.declared.segment.Segment.{Segment}
use Rattle.range_map.specs.contracts.segment.PageStatePartialEq.TheImpl.{eq-value}
use Rattle.range_map.specs.Kinds.{is_between, put_state, ranges, state_at}
use Rattle.range_map.proofs.Alike.{HasNoEdge}
use Rattle.range_map.proofs.Built.{between, not_between}
use Rattle.range_map.proofs.Ranges.{absent_tail, begins_where, one_piece, ranges_grow, ranges_same}
use Rattle.lwc_types.specs.declared.range.Range.{Range}
use Rattle.cow_space.specs.declared.page_runs.PageRun.{PageRun}
use Rattle.cow_space.specs.Changes.{have_page, page_run_at}
use Rattle.cow_space.specs.Maps.{put_range}

-- one more page run is no other one at two pages of which it has both or none
pub page_run_more : (page_runs : List PageRun) (i : ℕ) (d : PageRun) (q p : ℕ) → i < length page_runs → page_run_at (take i page_runs) q ≡ page_run_at (take i page_runs) p →
    is_between (get_or page_runs i d).range.from (get_or page_runs i d).range.to q ≡ is_between (get_or page_runs i d).range.from (get_or page_runs i d).range.to p →
    page_run_at (take (i + 1) page_runs) q ≡ page_run_at (take (i + 1) page_runs) p
page_run_more page_runs i d q p inside before same = at q ∙ (λ e. option_or (before e) (cond (same e) (Some (get_or page_runs i d)) None)) ∙ sym (at p)
  where
    at : (n : ℕ) → page_run_at (take (i + 1) page_runs) n
        ≡ option_or (page_run_at (take i page_runs) n) (cond (is_between (get_or page_runs i d).range.from (get_or page_runs i d).range.to n) (Some (get_or page_runs i d)) None)
    at n = ap (λ xs. page_run_at xs n) (take_more page_runs i d inside) ∙ find-append (λ (t : PageRun). is_between t.range.from t.range.to n) (take i page_runs) (get_or page_runs i d ∷ [])

-- ranges that neither begin nor end between two pages have both or none
pub have-alike : (p edge q : ℕ) (ranges : List Range) → All (λ r. HasNoEdge p edge r.from r.to) ranges → p ≤ q → q < edge → have_page ranges q ≡ have_page ranges p
have-alike p edge q [] none low high = refl
have-alike p edge q (r ∷ ranges) none low high =
    let head = (none 0 r (omega arith)).alike q low high in
    let tail = have-alike p edge q ranges (λ k d inside. none (suc k) d (omega arith)) low high in
    λ x. head x || tail x

-- pages below one have the wanted states, and no other page is present
pub record HaveBelow (p : ℕ) (after : ℕ → Option PageState) (segments : List Segment) : Type 0 where
  pub done : (q : ℕ) → q < p → state_at segments q ≡ after q
  pub rest : (q : ℕ) → p ≤ q → state_at segments q ≡ None

pub none-below : (after : ℕ → Option PageState) → HaveBelow 0 after []
unfolding state_at
none-below after = record { done = λ q low. absurd (omega (arith, low)); rest = λ q _. refl }

module _ (after : ℕ → Option PageState) (p e : ℕ) (segments : List Segment) (past : p < e) (within : e ≤ MOST_PAGES) (have : HaveBelow p after segments) where
  -- further pages are of one state: with it they have no more ranges than all pages
  module _ (state : PageState) (gets : (q : ℕ) → p ≤ q → q < e → after q ≡ Some state) where
    below : (q : ℕ) → q < e → put_state (state_at segments) p e state q ≡ after q
    below q high = ⊎_elim
        (λ low. ap (λ b. cond b (Some state) (state_at segments q)) (not_between p e q (inl low)) ∙ have.done q low)
        (λ low. ap (λ b. cond b (Some state) (state_at segments q)) (between p e q low high) ∙ sym (gets q low high))
        (cases_lt q p)

    past-none : (q : ℕ) → e ≤ q → put_state (state_at segments) p e state q ≡ None
    past-none q low = ap (λ b. cond b (Some state) (state_at segments q)) (not_between p e q (inr low)) ∙ have.rest q (omega (arith, low, past))

    pub more-few : ranges MOST_PAGES (put_state (state_at segments) p e state) ≤ ranges MOST_PAGES after
    more-few =
        let short = absent_tail (put_state (state_at segments) p e state) e (MOST_PAGES - e) MOST_PAGES (omega (arith, within)) (λ q low _. past-none q low) in
        let same = ranges_same (put_state (state_at segments) p e state) after e below in
        omega (arith, short, same, ranges_grow after e (MOST_PAGES - e) MOST_PAGES (omega (arith, within)))

    pub more-present : (now : List Segment) → ((q : ℕ) → state_at now q ≡ put_state (state_at segments) p e state q) → HaveBelow e after now
    more-present now is = record { done = λ q high. is q ∙ below q high; rest = λ q low. is q ∙ past-none q low }

  -- further pages get other states, by a page run
  module _ (gives : ℕ → Option PageState) (states : (q : ℕ) → p ≤ q → q < e → after q ≡ gives q) (from : ℕ) (from_is : from ≡ p) where
    stretch-below : (q : ℕ) → q < e → put_range (state_at segments) from e gives q ≡ after q
    stretch-below q high = ⊎_elim
        (λ low. ap (λ b. cond b (gives q) (state_at segments q)) (not_between from e q (inl (omega (arith, low, from_is)))) ∙ have.done q low)
        (λ low. ap (λ b. cond b (gives q) (state_at segments q)) (between from e q (omega (arith, low, from_is)) high) ∙ sym (states q low high))
        (cases_lt q p)

    stretch-none : (q : ℕ) → e ≤ q → put_range (state_at segments) from e gives q ≡ None
    stretch-none q low = ap (λ b. cond b (gives q) (state_at segments q)) (not_between from e q (inr low)) ∙ have.rest q (omega (arith, low, past))

    pub stretch-few : ranges MOST_PAGES (put_range (state_at segments) from e gives) ≤ ranges MOST_PAGES after
    stretch-few =
        let short = absent_tail (put_range (state_at segments) from e gives) e (MOST_PAGES - e) MOST_PAGES (omega (arith, within)) (λ q low _. stretch-none q low) in
        let same = ranges_same (put_range (state_at segments) from e gives) after e stretch-below in
        omega (arith, short, same, ranges_grow after e (MOST_PAGES - e) MOST_PAGES (omega (arith, within)))

    pub stretch-more : (now : List Segment) → ((q : ℕ) → state_at now q ≡ put_range (state_at segments) from e gives q) → HaveBelow e after now
    stretch-more now is = record { done = λ q high. is q ∙ stretch-below q high; rest = λ q low. is q ∙ stretch-none q low }

-- the ranges of further pages of one state: one begins where the page before has another state
pub piece-counts : (after : ℕ → Option PageState) (p e : ℕ) (last state : Option PageState) → p < e → (p ≡ 0 → last ≡ None) → ((k : ℕ) → p ≡ suc k → last ≡ after k) →
    ((q : ℕ) → p ≤ q → q < e → after q ≡ state) → ranges e after ≡ ranges p after + cond (is_some state && not (option_eq eq-value.it last state)) 1 0
piece-counts after p e last state past first later gets =
    one_piece after p (e - p - 1) e (omega (arith, past)) (λ q low high. gets q low high ∙ sym (gets p (omega arith) past))
    ∙ ap (λ b. ranges p after + cond b 1 0) (begins_where after p last first later ∙ ap (λ s. is_some s && not (option_eq eq-value.it last s)) (gets p (omega arith) past))
