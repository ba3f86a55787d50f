-- At an edge of canonical segments the state of the page is another one than before.
use Rattle.std.proofs.Common.{◌≡◌, ◌≢◌, ℕ, suc, get_or, ◌-◌, ◌<◌, ◌≤◌, ◌||◌, true, false, Bool, List, [], ◌∷◌, ap, arith, leb, length, ltb, refl, subst, sym, ◌∙◌, inl, inr, ◌⊎◌, ⊎_elim, Option, None, Some}
use Rattle.std.specs.Prelude.{◌==◌}
use Rattle.std.specs.List.{find}
use Rattle.std.specs.Option.{option_map}
use Rattle.std.proofs.lemmas.Bool.{and_parts, cases_eq, cases_lt, leb-true, ltb-true}
use Rattle.std.proofs.lemmas.Bool.Decides.{nat_tests}
use Rattle.range_map.specs.Kinds.{IsCanonical, are_alike, is_between, is_edge, state_at, state_in}
use Rattle.range_map.specs.declared.segment.PageState.{PageState}
use Rattle.lwc_types.specs.declared.right.Right.TheVariants.{Write}
use Rattle.range_map.specs.declared.segment.Segment.{Segment}
use Rattle.range_map.specs.declared.segment.SegmentKind.TheVariants.{Own}
use Rattle.range_map.proofs.Appended.{found}
use Rattle.range_map.proofs.Built.{between, find_none}
use Rattle.range_map.proofs.Ranges.{alike_itself}

-- what is found of a page has the page
on_page : (s : Segment) (q : ℕ) → is_between s.from s.to q ≡ true → (s.from ≤ q) × (q < s.to)
on_page s q on = let parts = and_parts (leb s.from q) (ltb q s.to) on in (leb-true s.from q parts.0, ltb-true q s.to parts.1)

-- where a segment begins or ends at a page, one of some number does
edge_at : (segments : List Segment) (e : ℕ) (d : Segment) → is_edge segments e ≡ true → (k : ℕ) × ((k < length segments) × (((get_or segments k d).from ≡ e) ⊎ ((get_or segments k d).to ≡ e)))
edge_at [] e d is = absurd cc
edge_at (s ∷ ss) e d is = by ((s.from == e) || (s.to == e)) refl is (edge_at ss e d)
  where
    by : (b : Bool) → ((s.from == e) || (s.to == e)) ≡ b → (b || is_edge ss e) ≡ true →
        (is_edge ss e ≡ true → (k : ℕ) × ((k < length ss) × (((get_or ss k d).from ≡ e) ⊎ ((get_or ss k d).to ≡ e)))) →
        (k : ℕ) × ((k < suc (length ss)) × (((get_or (s ∷ ss) k d).from ≡ e) ⊎ ((get_or (s ∷ ss) k d).to ≡ e)))
    by true this here rest = (0, (omega arith, ⊎_elim (λ from. inl from) (λ other. inr (grind (arith, nat_tests, this, other))) (cases_eq s.from e)))
    by false this here rest = let later = rest here in (suc later.0, (omega (arith, later.1.0), later.1.1))

-- some segment
pub none : Segment
none = record { from = 0; to = 0; kind = Own; right = Write }

module _ (segments : List Segment) (canonical : IsCanonical segments) (d : Segment) where
  abbrev at : ℕ → Segment
  at k = get_or segments k d

  -- two segments of one state do not meet
  apart : (j k : ℕ) → j < k → k < length segments → (at j).to ≡ (at k).from → state_in (at j) ≡ state_in (at k) → ⊥
  apart j k before inside meet same =
      let no = subst (λ s. are_alike (Some s) (Some (state_in (at k))) ≡ false) same ((canonical.apart j k d before inside).parted meet) in
      let yes = alike_itself (state_in (at k)) in
      cc

  -- the pages of a segment have its state, and what has a state is a page of a segment
  pub own : (k q : ℕ) → k < length segments → (at k).from ≤ q → q < (at k).to → state_at segments q ≡ Some (state_in (at k))
  unfolding state_at
  own k q inside low high = by (find (λ t. is_between t.from t.to q) segments) refl
    where
      by : (o : Option Segment) → find (λ t. is_between t.from t.to q) segments ≡ o → option_map state_in o ≡ Some (state_in (at k))
      by None none =
          let off = find_none (λ t. is_between t.from t.to q) segments k d inside none in
          let on = between (at k).from (at k).to q low high in
          absurd cc
      by (Some s) is =
          let f = found (λ t. is_between t.from t.to q) segments s d is in
          let on = on_page s q f.1.1.1 in
          let from_is = ap (λ (t : Segment). t.from) f.1.1.0 in
          let to_is = ap (λ (t : Segment). t.to) f.1.1.0 in
          ⊎_elim
          (λ before. absurd (let b = (canonical.apart f.0 k d before inside).ordered in omega (arith, b, low, on.1, to_is)))
          (λ later. ⊎_elim
          (λ after. absurd (let b = (canonical.apart k f.0 d after f.1.0).ordered in omega (arith, b, high, on.0, from_is)))
          (λ last. let same : f.0 ≡ k = omega (arith, later, last) in ap (λ t. Some (state_in t)) (sym f.1.1.0 ∙ ap at same))
          (cases_lt k f.0))
          (cases_lt f.0 k)

  pub owned : (q : ℕ) (state : PageState) → state_at segments q ≡ Some state → (k : ℕ) × ((k < length segments) × (((at k).from ≤ q) × ((q < (at k).to) × (state_in (at k) ≡ state))))
  unfolding state_at
  owned q state is = by (find (λ t. is_between t.from t.to q) segments) refl is
    where
      by : (o : Option Segment) → find (λ t. is_between t.from t.to q) segments ≡ o → option_map state_in o ≡ Some state →
          (k : ℕ) × ((k < length segments) × (((at k).from ≤ q) × ((q < (at k).to) × (state_in (at k) ≡ state))))
      by None none has = absurd cc
      by (Some s) this has =
          let f = found (λ t. is_between t.from t.to q) segments s d this in
          let on = on_page s q f.1.1.1 in
          let same : state_in s ≡ state = cc in
          (f.0, (f.1.0, (subst (λ (t : Segment). t.from ≤ q) (sym f.1.1.0) on.0, (subst (λ (t : Segment). q < t.to) (sym f.1.1.0) on.1, ap state_in f.1.1.0 ∙ same))))

  module _ (p : ℕ) (k : ℕ) (inside : k < length segments) where
    begins : (at k).from ≡ suc p → state_at segments (suc p) ≡ state_at segments p → ⊥
    begins is same =
        let some = canonical.some k d inside in
        let here = own k (suc p) inside (omega (arith, is)) (omega (arith, is, some)) in
        let o = owned p (state_in (at k)) (sym same ∙ here) in
        ⊎_elim
        (λ before. apart o.0 k before inside (let b = (canonical.apart o.0 k d before inside).ordered in omega (arith, b, is, o.1.1.1.0)) o.1.1.1.1)
        (λ later. ⊎_elim
        (λ after. let b = (canonical.apart k o.0 d after o.1.0).ordered in omega (arith, b, is, o.1.1.0, some))
        (λ last. let e : o.0 ≡ k = omega (arith, later, last) in let low = subst (λ n. (at n).from ≤ p) e o.1.1.0 in omega (arith, low, is))
        (cases_lt k o.0))
        (cases_lt o.0 k)

    ends : (at k).to ≡ suc p → state_at segments (suc p) ≡ state_at segments p → ⊥
    ends is same =
        let some = canonical.some k d inside in
        let here = own k p inside (omega (arith, is, some)) (omega (arith, is)) in
        let o = owned (suc p) (state_in (at k)) (same ∙ here) in
        ⊎_elim
        (λ before. let b = (canonical.apart o.0 k d before inside).ordered in omega (arith, b, is, o.1.1.1.0, some))
        (λ later. ⊎_elim
        (λ after. apart k o.0 after o.1.0 (let b = (canonical.apart k o.0 d after o.1.0).ordered in omega (arith, b, is, o.1.1.0)) (sym o.1.1.1.1))
        (λ last. let e : o.0 ≡ k = omega (arith, later, last) in let high = subst (λ n. suc p < (at n).to) e o.1.1.1.0 in omega (arith, high, is))
        (cases_lt k o.0))
        (cases_lt o.0 k)

  pub other_state : (p e : ℕ) → p < e → is_edge segments e ≡ true → ((q : ℕ) → p ≤ q → q < e → state_at segments q ≡ state_at segments p) → state_at segments e ≢ state_at segments p
  other_state p e past edge alike same =
      let k = edge_at segments e d edge in
      let last : suc (e - 1) ≡ e = omega (arith, past) in
      let before = alike (e - 1) (omega (arith, past)) (omega (arith, past)) in
      let still : state_at segments (suc (e - 1)) ≡ state_at segments (e - 1) = ap (state_at segments) last ∙ same ∙ sym before in
      ⊎_elim
      (λ from. begins (e - 1) k.0 k.1.0 (from ∙ sym last) still)
      (λ to. ends (e - 1) k.0 k.1.0 (to ∙ sym last) still)
      k.1.1
