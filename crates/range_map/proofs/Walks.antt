-- Walks from edge to edge: how many edges are at a page or before it.
use Rattle.std.proofs.Common.{◌≡◌, ◌≢◌, ℕ, suc, ◌+◌, ◌-◌, ◌*◌, ◌<◌, ◌≤◌, Bool, true, false, not, ◌&&◌, ◌||◌, ap, arith, cond, leb, length, refl, sym, ◌∙◌, List, [], ◌∷◌, Option, None, Some}
use Rattle.std.specs.Prelude.{◌==◌, is_some}
use Rattle.std.specs.List.{list_any, sum_by}
use Rattle.std.specs.Ordering.{is_eq}
use Rattle.std.specs.declared.cmp.Ordering.{Ordering}
use Rattle.std.specs.declared.cmp.Ordering.TheVariants.{Less, Equal, Greater}
use Rattle.std.proofs.lemmas.Bool.{and_parts}
use Rattle.std.proofs.lemmas.Bool.Decides.{nat_tests}
use Rattle.std.proofs.lemmas.List.Sums.{sum_by-cons}
use Rattle.lwc_base.specs.Rights.{same_right}
use Rattle.lwc_types.proofs.Orders.{name_cmp-IsAntisymmetric}
use Rattle.lwc_types.specs.Names.{name_cmp}
use Rattle.lwc_types.specs.declared.right.Right.{Right}
use Rattle.lwc_types.specs.declared.right.Right.TheVariants.{Write, Read}
use Rattle.range_map.specs.Kinds.{are_alike, begins_range, ranges, same_kind}
use Rattle.range_map.specs.declared.segment.PageState.{PageState}
use Rattle.range_map.specs.declared.segment.SegmentKind.{SegmentKind}
use Rattle.range_map.specs.declared.segment.SegmentKind.TheVariants.{Own, Common}
use Rattle.range_map.proofs.Ranges.{one_piece, ranges_more}

module _ {X : Type 0} (from to : X → ℕ) where
  -- how many ends of an element are there
  abbrev ends_to : ℕ → X → ℕ
  ends_to p x = cond (leb (from x) p) 1 0 + cond (leb (to x) p) 1 0

  unfoldable pub edges_to : List X → ℕ → ℕ
  edges_to xs p = sum_by (ends_to p) xs

  pub edges-few : (xs : List X) (p : ℕ) → edges_to xs p ≤ 2 * length xs
  unfolding edges_to
  edges-few [] p = omega arith
  edges-few (x ∷ xs) p = let rest = edges-few xs p in let more = sum_by-cons (ends_to p) x xs in grind (arith, nat_tests)

  pub edges-grow : (xs : List X) (p q : ℕ) → p ≤ q → edges_to xs p ≤ edges_to xs q
  unfolding edges_to
  edges-grow [] p q le = omega arith
  edges-grow (x ∷ xs) p q le =
      let rest = edges-grow xs p q le in let old = sum_by-cons (ends_to p) x xs in let new = sum_by-cons (ends_to q) x xs in grind (arith, nat_tests)

  -- there is one more past an element that ends between
  pub edges-past : (x : X) (xs : List X) (p q : ℕ) → p < to x → to x ≤ q → edges_to (x ∷ xs) p + 1 ≤ edges_to (x ∷ xs) q
  unfolding edges_to
  edges-past x xs p q before after =
      let grow = edges-grow xs p q (omega (arith, before, after)) in let old = sum_by-cons (ends_to p) x xs in let new = sum_by-cons (ends_to q) x xs in grind (arith, nat_tests)

  pub edges-more : (x : X) (xs : List X) (p q : ℕ) → p ≤ q → edges_to xs p + 1 ≤ edges_to xs q → edges_to (x ∷ xs) p + 1 ≤ edges_to (x ∷ xs) q
  unfolding edges_to
  edges-more x xs p q le more = let old = sum_by-cons (ends_to p) x xs in let new = sum_by-cons (ends_to q) x xs in grind (arith, nat_tests)

  -- and one more at an edge
  pub edges-edge : (xs : List X) (p e : ℕ) → p < e → list_any (λ x. (from x == e) || (to x == e)) xs ≡ true → edges_to xs p + 1 ≤ edges_to xs e
  unfolding edges_to
  edges-edge [] p e past edge = absurd cc
  edges-edge (x ∷ xs) p e past edge = by ((from x == e) || (to x == e)) refl edge (edges-edge xs p e past)
    where
      by : (b : Bool) → ((from x == e) || (to x == e)) ≡ b → (b || list_any (λ y. (from y == e) || (to y == e)) xs) ≡ true →
          (list_any (λ y. (from y == e) || (to y == e)) xs ≡ true → edges_to xs p + 1 ≤ edges_to xs e) → edges_to (x ∷ xs) p + 1 ≤ edges_to (x ∷ xs) e
      by true this here rest =
          let grow = edges-grow xs p e (omega (arith, past)) in let old = sum_by-cons (ends_to p) x xs in let new = sum_by-cons (ends_to e) x xs in grind (arith, nat_tests, this)
      by false this here rest = edges-more x xs p e (omega (arith, past)) (rest here)

-- states that are alike are the same
name_same : (o : Ordering) → is_eq o ≡ true → o ≡ Equal
name_same Less is = absurd cc
name_same Equal is = refl
name_same Greater is = absurd cc

kind_same : (a b : SegmentKind) → same_kind a b ≡ true → a ≡ b
kind_same Own Own is = refl
kind_same Own (Common h) is = absurd cc
kind_same (Common g) Own is = absurd cc
kind_same (Common g) (Common h) is = ap Common (name_cmp-IsAntisymmetric g h (name_same (name_cmp g h) is))

right_same : (a b : Right) → same_right a b ≡ true → a ≡ b
right_same Write Write is = refl
right_same Write Read is = absurd cc
right_same Read Write is = absurd cc
right_same Read Read is = refl

alike_same : (a b : Option PageState) → are_alike a b ≡ true → a ≡ b
alike_same None b is = absurd cc
alike_same (Some a) None is = absurd cc
alike_same (Some a) (Some b) is =
    let parts = and_parts (same_kind a.kind b.kind) (same_right a.right b.right) is in
    λ i. Some (record { kind = kind_same a.kind b.kind parts.0 i; right = right_same a.right b.right parts.1 i })

-- 1 where a page is present, else 0
abbrev pub present : Option PageState → ℕ
present state = cond (is_some state) 1 0

-- pages of one state up to another page: there at most as many ranges begin or end as there were, and one more if that has another state
module _ (states : ℕ → Option PageState) (p e : ℕ) (past : p < e) (alike : (q : ℕ) → p ≤ q → q < e → states q ≡ states p) where
  ranges_to : ranges e states ≡ ranges (p + 1) states
  ranges_to = one_piece states p (e - p - 1) e (omega (arith, past)) alike ∙ sym (ranges_more states p (p + 1) refl)

  ranges_here : ranges (e + 1) states ≡ ranges (p + 1) states + cond (is_some (states e) && not (are_alike (states p) (states e))) 1 0
  unfolding begins_range
  ranges_here = ranges_more states e (e + 1) refl ∙ (λ i. ranges_to i + cond (begins i) 1 0)
    where
      begins : begins_range states e ≡ (is_some (states e) && not (are_alike (states p) (states e)))
      begins =
          let last : e ≡ suc (e - 1) = omega (arith, past) in
          ap (begins_range states) last
          ∙ ap (λ o. is_some (states (suc (e - 1))) && not (are_alike o (states (suc (e - 1))))) (alike (e - 1) (omega (arith, past)) (omega (arith, past)))
          ∙ ap (λ n. is_some (states n) && not (are_alike (states p) (states n))) (sym last)

  pub turn_same : 2 * ranges (p + 1) states + present (states e) ≤ 2 * ranges (e + 1) states + present (states p)
  turn_same = by (states p) (states e) ranges_here
    where
      by : (a b : Option PageState) → ranges (e + 1) states ≡ ranges (p + 1) states + cond (is_some b && not (are_alike a b)) 1 0 → 2 * ranges (p + 1) states + present b ≤ 2 * ranges (e + 1) states + present a
      by None None more = omega (arith, more)
      by None (Some b) more = omega (arith, more)
      by (Some a) None more = omega (arith, more)
      by (Some a) (Some b) more = grind (arith, more)

  pub turn_other : states e ≢ states p → 2 * ranges (p + 1) states + present (states e) + 1 ≤ 2 * ranges (e + 1) states + present (states p)
  turn_other other = by (states p) (states e) ranges_here other
    where
      by : (a b : Option PageState) → ranges (e + 1) states ≡ ranges (p + 1) states + cond (is_some b && not (are_alike a b)) 1 0 → b ≢ a →
          2 * ranges (p + 1) states + present b + 1 ≤ 2 * ranges (e + 1) states + present a
      by None None more off = absurd (off refl)
      by None (Some b) more off = omega (arith, more)
      by (Some a) None more off = omega (arith, more)
      by (Some a) (Some b) more off = apart (are_alike (Some a) (Some b)) refl more
        where
          apart : (c : Bool) → are_alike (Some a) (Some b) ≡ c → ranges (e + 1) states ≡ ranges (p + 1) states + cond (not c) 1 0 → 2 * ranges (p + 1) states + 1 + 1 ≤ 2 * ranges (e + 1) states + 1
          apart true is more' = absurd (off (sym (alike_same (Some a) (Some b) is)))
          apart false is more' = omega (arith, more')
