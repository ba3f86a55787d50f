-- Segments that are searched by halving: those before a place end at a page or before it.
use Rattle.std.proofs.Common.{◌≡◌, ℕ, get_or, ◌<◌, ◌≤◌, List, ap, arith, length, refl, sym, ◌∙◌, ◌+◌, ⊎_elim, Option, None, Some}
use Rattle.std.proofs.lemmas.Bool.{cases_lt}
use Rattle.std.proofs.lemmas.List.Sorted.{IsNonDecreasingBy-from_default}
use Rattle.std.specs.List.Sorted.{IsNonDecreasingBy}
use Rattle.range_map.specs.Kinds.{IsCanonical, state_at, state_in}
use Rattle.range_map.specs.declared.segment.PageState.{PageState}
use Rattle.range_map.specs.declared.segment.Segment.{Segment}
use Rattle.range_map.proofs.Edges.{none, own, owned}

module _ (segments : List Segment) (canonical : IsCanonical segments) where
  -- a segment is not before one that comes earlier
  pub rising : (n k : ℕ) → n ≤ k → k < length segments → (get_or segments n none).from ≤ (get_or segments k none).from
  rising n k low inside =
      ⊎_elim
      (λ after. let b = (canonical.apart n k none after inside).ordered in let s = canonical.some n none (omega (arith, low, inside)) in omega (arith, b, s))
      (λ last. let is : k ≡ n = omega (arith, low, last) in let e = ap (λ i. (get_or segments i none).from) is in omega (arith, e))
      (cases_lt n k)

  -- nor does it end before that one
  pub ends_rise : IsNonDecreasingBy (λ s. s.to) segments
  ends_rise = IsNonDecreasingBy-from_default (λ s. s.to) segments none (λ n k low inside.
      ⊎_elim
      (λ after. let b = (canonical.apart n k none after inside).ordered in let s = canonical.some k none inside in omega (arith, b, s))
      (λ last. let is : k ≡ n = omega (arith, low, last) in let e = ap (λ i. (get_or segments i none).to) is in omega (arith, e))
      (cases_lt n k))

  -- pages from one on are absent up to where the segments that do not end before it begin
  pub absent_up_to : (p n edge q : ℕ) → ((k : ℕ) (d : Segment) → k < n → (get_or segments k d).to ≤ p) → ((k : ℕ) → n ≤ k → k < length segments → edge ≤ (get_or segments k none).from) →
      p ≤ q → q < edge → state_at segments q ≡ None
  absent_up_to p n edge q before later low high = by (state_at segments q) refl
    where
      by : (o : Option PageState) → state_at segments q ≡ o → state_at segments q ≡ None
      by None is = is
      by (Some state) is =
          let o = owned segments canonical none q state is in
          ⊎_elim
          (λ early. absurd (let b = before o.0 none early in omega (arith, b, o.1.1.1.0, low)))
          (λ late. absurd (let l = later o.0 late o.1.0 in omega (arith, l, o.1.1.0, high)))
          (cases_lt o.0 n)

  module _ (p n : ℕ) (before : (k : ℕ) (d : Segment) → k < n → (get_or segments k d).to ≤ p) where
    -- where all segments end by a page, those from it on are absent
    pub absent_after : (q : ℕ) → length segments ≤ n → p ≤ q → state_at segments q ≡ None
    absent_after q all low = absent_up_to p n (q + 1) q before (λ k late inside. absurd (omega (arith, all, late, inside))) low (omega arith)

    module _ (s : Segment) (inside : n < length segments) (is : s ≡ get_or segments n none) where
      -- pages up to the next segment are absent, and its own have its state
      pub absent_before : (q : ℕ) → p ≤ q → q < s.from → state_at segments q ≡ None
      absent_before q low high =
          absent_up_to p n s.from q before (λ k late within. let r = rising n k late within in let e = ap (λ (t : Segment). t.from) is in omega (arith, r, e)) low high

      pub state_within : (q : ℕ) → s.from ≤ q → q < s.to → state_at segments q ≡ Some (state_in s)
      state_within q low high =
          let from_is = ap (λ (t : Segment). t.from) is in
          let to_is = ap (λ (t : Segment). t.to) is in
          own segments canonical none n q inside (omega (arith, low, from_is)) (omega (arith, high, to_is)) ∙ ap (λ t. Some (state_in t)) (sym is)
