-- Segments once the pages past them got a state.
use Rattle.std.proofs.Common.{◌≡◌, ℕ, suc, get_or, ◌+◌, ◌-◌, ◌<◌, ◌≤◌, ◌++◌, true, false, Bool, List, [], ◌∷◌, ap, arith, cond, leb, length, length-append, ltb, refl, slice_get, subst, sym, take, ◌∙◌, inl, inr, ⊎_elim, Option, None, Some}
use Rattle.std.specs.Prelude.{All, is_some}
use Rattle.std.specs.List.{AllPairs, find}
use Rattle.std.specs.Option.{option_map}
use Rattle.std.proofs.Math.ListN.{get_or-append}
use Rattle.std.proofs.Math.Seq.{get_or-append_seam}
use Rattle.std.proofs.lemmas.Bool.{and_parts, cases_lt, ltb-true}
use Rattle.std.proofs.lemmas.Bool.Decides.{nat_tests}
use Rattle.std.proofs.lemmas.List.{take_all, take_more}
use Rattle.std.proofs.lemmas.List.Elements.{All-append}
use Rattle.std.proofs.lemmas.List.Quantifiers.{all_pairs_push}
use Rattle.std.proofs.lemmas.Option.{get_or_from_slice_get}
use Rattle.lwc_types.specs.declared.limits.TheConstants.{MOST_PAGES}
use Rattle.range_map.specs.Kinds.{IsBefore, IsCanonical, are_alike, begins_range, is_between, put_state, ranges, state_at, state_in}
use Rattle.range_map.specs.declared.segment.Segment.{Segment}
use Rattle.range_map.specs.declared.segment.PageState.{PageState}
use Rattle.range_map.proofs.Built.{all_one, between, ends_below, not_between, push_off, push_on, segments_inside}
use Rattle.range_map.proofs.Ranges.{absent_tail, begins_parted, one_more, ranges_same}

-- an element is found where some element passes, and none where none does
pub found : {X : Type 0} (test : X → Bool) (xs : List X) (x d : X) → find test xs ≡ Some x → (k : ℕ) × ((k < length xs) × ((get_or xs k d ≡ x) × (test x ≡ true)))
found test [] x d is = absurd cc
found test (y ∷ ys) x d is = by (test y) refl is (found test ys x d)
  where
    by : (b : Bool) → test y ≡ b → cond b (Some y) (find test ys) ≡ Some x →
        (find test ys ≡ Some x → (k : ℕ) × ((k < length ys) × ((get_or ys k d ≡ x) × (test x ≡ true)))) →
        (k : ℕ) × ((k < suc (length ys)) × ((get_or (y ∷ ys) k d ≡ x) × (test x ≡ true)))
    by true passes this rest = let same : y ≡ x = cc in (0, (omega arith, (same, subst (λ z. test z ≡ true) same passes)))
    by false off this rest = let later = rest this in (suc later.0, (omega (arith, later.1.0), later.1.1))

none_found : {X : Type 0} (test : X → Bool) (xs : List X) → ((k : ℕ) (d : X) → k < length xs → test (get_or xs k d) ≡ false) → find test xs ≡ None
none_found test [] off = refl
none_found test (y ∷ ys) off = ap (λ b. cond b (Some y) (find test ys)) (off 0 y (omega arith)) ∙ none_found test ys (λ k d lt. off (suc k) d (omega (arith, lt)))

-- a list ends with its last element
ends_at : {X : Type 0} (n : ℕ) (xs : List X) (x : X) → n + 1 ≡ length xs → slice_get xs n ≡ Some x → xs ≡ take n xs ++ x ∷ []
ends_at n xs x size is =
    sym (take_all (n + 1) xs (omega (arith, size)))
    ∙ take_more xs n x (omega (arith, size))
    ∙ ap (λ z. take n xs ++ z ∷ []) (get_or_from_slice_get xs n x x is)

pub ends_with : {X : Type 0} (xs : List X) (x : X) → slice_get xs (length xs - 1) ≡ Some x → xs ≡ take (length xs - 1) xs ++ x ∷ []
ends_with [] x is = absurd cc
ends_with (y ∷ ys) x is = ends_at (length (y ∷ ys) - 1) (y ∷ ys) x (omega arith) is

-- segments in order, none of which has a page from one on or ends there in a state: those pages get it
module _ (segments : List Segment) (from to : ℕ) (state : PageState) (some : All (λ s. s.from < s.to) segments) (apart : AllPairs IsBefore segments) (order : from < to) (inside : to ≤ MOST_PAGES) (clear : (q : ℕ) → from ≤ q → state_at segments q ≡ None)
    (parted : (k : ℕ) (d : Segment) → k < length segments → (get_or segments k d).to ≡ from → are_alike (Some (state_in (get_or segments k d))) (Some state) ≡ false) where
  abbrev after : ℕ → Option PageState
  after = put_state (state_at segments) from to state

  here : (q : ℕ) → from ≤ q → q < to → after q ≡ Some state
  here q low high = ap (λ b. cond b (Some state) (state_at segments q)) (between from to q low high)

  early : (q : ℕ) → q < from → after q ≡ state_at segments q
  early q low = ap (λ b. cond b (Some state) (state_at segments q)) (not_between from to q (inl low))

  late : (q : ℕ) → to ≤ q → after q ≡ None
  late q high = ap (λ b. cond b (Some state) (state_at segments q)) (not_between from to q (inr high)) ∙ clear q (omega arith)

  below : (k : ℕ) (d : Segment) → k < length segments → (get_or segments k d).to ≤ from
  below = ends_below segments from some clear

  -- the page before is of another state
  before : (p : ℕ) → from ≡ suc p → are_alike (state_at segments p) (Some state) ≡ false
  unfolding state_at
  before p is = by (find (λ t. is_between t.from t.to p) segments) refl
    where
      by : (o : Option Segment) → find (λ t. is_between t.from t.to p) segments ≡ o → are_alike (option_map state_in o) (Some state) ≡ false
      by None e = refl
      by (Some s) e =
          let at = found (λ t. is_between t.from t.to p) segments s s e in
          let low = below at.0 s at.1.0 in
          let same = ap (λ (t : Segment). t.to) at.1.1.0 in
          let on : p < s.to = ltb-true p s.to (and_parts (leb s.from p) (ltb p s.to) at.1.1.1).1 in
          let ends : (get_or segments at.0 s).to ≡ from = omega (arith, is, low, on, same) in
          subst (λ (t : Segment). are_alike (Some (state_in t)) (Some state) ≡ false) at.1.1.0 (parted at.0 s at.1.0 ends)

  begins : begins_range after from ≡ is_some (after from)
  begins = begins_parted after from (λ p is. ap (λ o. are_alike o (after from)) (early p (omega (arith, is))) ∙ ap (are_alike (state_at segments p)) (here from (omega arith) order) ∙ before p is)

  pub ranges_one : ranges MOST_PAGES after ≡ ranges MOST_PAGES (state_at segments) + 1
  ranges_one =
      let all = absent_tail after to (MOST_PAGES - to) MOST_PAGES (omega arith) (λ q low _. late q low) in
      let rest = absent_tail (state_at segments) from (MOST_PAGES - from) MOST_PAGES (omega arith) (λ q low _. clear q low) in
      let more = one_more after from (to - from - 1) to (omega arith) (λ q low high. here q low high ∙ sym (here from (omega arith) order)) begins in
      let same = ranges_same after (state_at segments) from early in
      let one : ◌≡◌ {A = ℕ} (cond (is_some (after from)) 1 0) 1 = ap (λ (o : Option PageState). cond (is_some o) 1 0) (here from (omega arith) order) in
      omega (arith, all, rest, more, same, one)

  -- with a further segment
  module _ (s : Segment) (from_is : s.from ≡ from) (to_is : s.to ≡ to) (state_is : state_in s ≡ state) where
    pub push-states : (q : ℕ) → state_at (segments ++ s ∷ []) q ≡ after q
    push-states q =
        ⊎_elim
        (λ low. push_off segments s q (not_between s.from s.to q (inl (omega (arith, low, from_is)))) ∙ sym (early q low))
        (λ low. ⊎_elim
        (λ high. push_on segments s q (between s.from s.to q (omega (arith, low, from_is)) (omega (arith, high, to_is))) (clear q low) ∙ ap Some state_is ∙ sym (here q low high))
        (λ past. push_off segments s q (not_between s.from s.to q (inr (omega (arith, past, to_is)))) ∙ clear q low ∙ sym (late q past))
        (cases_lt q to))
        (cases_lt q from)

    pub push-canonical : length segments ≡ ranges MOST_PAGES (state_at segments) → IsCanonical (segments ++ s ∷ [])
    push-canonical counted = record {
      some = All-append (λ (t : Segment). t.from < t.to) segments (s ∷ []) some (all_one (λ (t : Segment). t.from < t.to) s (omega (arith, order, from_is, to_is)));
      apart = all_pairs_push IsBefore segments s apart (λ k d lt. record {
        ordered = let low = below k d lt in omega (arith, low, from_is);
        parted = λ meets. ap (λ o. are_alike (Some (state_in (get_or segments k d))) (Some o)) state_is ∙ parted k d lt (omega (arith, meets, from_is));
      });
      within = λ q past. push-states q ∙ late q (omega (arith, past, inside));
      counted = length-append segments (s ∷ []) ∙ ap (λ n. n + 1) counted ∙ sym ranges_one ∙ sym (ranges_same (state_at (segments ++ s ∷ [])) after MOST_PAGES (λ q _. push-states q));
    }

-- canonical segments but the last
module _ (init : List Segment) (last : Segment) (canonical : IsCanonical (init ++ last ∷ [])) where
  at : (k : ℕ) (d : Segment) → k < length init → get_or (init ++ last ∷ []) k d ≡ get_or init k d
  at k d lt = get_or-append init (last ∷ []) d k lt

  seam : (d : Segment) → get_or (init ++ last ∷ []) (length init) d ≡ last
  seam d = get_or-append_seam init last [] d

  length_all : length (init ++ last ∷ []) ≡ length init + 1
  length_all = length-append init (last ∷ [])

  some_last : last.from < last.to
  some_last = subst (λ (t : Segment). t.from < t.to) (seam last) (canonical.some (length init) last (omega (arith, length_all)))

  inside_last : last.to ≤ MOST_PAGES
  inside_last = subst (λ (t : Segment). t.to ≤ MOST_PAGES) (seam last) (segments_inside (init ++ last ∷ []) canonical (length init) last (omega (arith, length_all))).inside

  pub before_last : (k : ℕ) (d : Segment) → k < length init → IsBefore (get_or init k d) last
  before_last k d lt =
      subst (λ t. IsBefore t last) (at k d lt) (subst (IsBefore (get_or (init ++ last ∷ []) k d)) (seam d) (canonical.apart k (length init) d (omega (arith, lt)) (omega (arith, length_all))))

  init_some : All (λ s. s.from < s.to) init
  init_some k d lt = subst (λ (t : Segment). t.from < t.to) (at k d lt) (canonical.some k d (omega (arith, lt, length_all)))

  init_apart : AllPairs IsBefore init
  init_apart i j d before lt =
      subst (λ t. IsBefore t (get_or init j d)) (at i d (omega (arith, before, lt))) (subst (IsBefore (get_or (init ++ last ∷ []) i d)) (at j d lt) (canonical.apart i j d before (omega (arith, lt, length_all))))

  init_clear : (q : ℕ) → last.from ≤ q → state_at init q ≡ None
  unfolding state_at
  init_clear q low =
      ap (option_map state_in) (none_found (λ t. is_between t.from t.to q) init (λ k d lt. not_between (get_or init k d).from (get_or init k d).to q (inr (let b = (before_last k d lt).ordered in omega (arith, b, low)))))

  init_parted : (k : ℕ) (d : Segment) → k < length init → (get_or init k d).to ≡ last.from → are_alike (Some (state_in (get_or init k d))) (Some (state_in last)) ≡ false
  init_parted k d lt meets = (before_last k d lt).parted meets

  all_states : (q : ℕ) → state_at (init ++ last ∷ []) q ≡ put_state (state_at init) last.from last.to (state_in last) q
  all_states = push-states init last.from last.to (state_in last) init_some init_apart some_last inside_last init_clear init_parted last refl refl refl

  init_counted : length init ≡ ranges MOST_PAGES (state_at init)
  init_counted =
      let one = ranges_one init last.from last.to (state_in last) init_some init_apart some_last inside_last init_clear init_parted in
      let same = ranges_same (state_at (init ++ last ∷ [])) (put_state (state_at init) last.from last.to (state_in last)) MOST_PAGES (λ q _. all_states q) in
      omega (arith, one, same, canonical.counted, length_all)

  -- the last one grows
  module _ (to : ℕ) (order : last.to < to) (inside : to ≤ MOST_PAGES) (t : Segment) (from_is : t.from ≡ last.from) (to_is : t.to ≡ to) (state_is : state_in t ≡ state_in last) where
    pub grown-canonical : IsCanonical (init ++ t ∷ [])
    grown-canonical = push-canonical init last.from to (state_in last) init_some init_apart (omega (arith, some_last, order)) inside init_clear init_parted t from_is to_is state_is init_counted

    pub grown-states : (q : ℕ) → state_at (init ++ t ∷ []) q ≡ put_state (state_at (init ++ last ∷ [])) last.to to (state_in last) q
    grown-states q =
        push-states init last.from to (state_in last) init_some init_apart (omega (arith, some_last, order)) inside init_clear init_parted t from_is to_is state_is q
        ∙ sym (ap (cond (is_between last.to to q) (Some (state_in last))) (all_states q) ∙ same)
      where
        same : cond (is_between last.to to q) (Some (state_in last)) (cond (is_between last.from last.to q) (Some (state_in last)) (state_at init q)) ≡ cond (is_between last.from to q) (Some (state_in last)) (state_at init q)
        same = grind (arith, nat_tests, some_last, order)

  -- the last one does not end at a page, or is of another state
  module _ (from : ℕ) (state : PageState) (clear : (q : ℕ) → from ≤ q → state_at (init ++ last ∷ []) q ≡ None) (differs : last.to ≡ from → are_alike (Some (state_in last)) (Some state) ≡ false) where
    last_below : last.to ≤ from
    last_below = subst (λ (t : Segment). t.to ≤ from) (seam last) (ends_below (init ++ last ∷ []) from canonical.some clear (length init) last (omega (arith, length_all)))

    pub all_parted : (k : ℕ) (d : Segment) → k < length (init ++ last ∷ []) → (get_or (init ++ last ∷ []) k d).to ≡ from → are_alike (Some (state_in (get_or (init ++ last ∷ []) k d))) (Some state) ≡ false
    all_parted k d lt ends = ⊎_elim
        (λ low. absurd (let b = (before_last k d low).ordered in let e = ap (λ (s : Segment). s.to) (at k d low) in omega (arith, b, e, ends, some_last, last_below)))
        (λ high.
        let is : k ≡ length init = omega (arith, high, lt, length_all) in
        let same : get_or (init ++ last ∷ []) k d ≡ last = ap (λ n. get_or (init ++ last ∷ []) n d) is ∙ seam d in
        subst (λ t. are_alike (Some (state_in t)) (Some state) ≡ false) (sym same) (differs (sym (ap (λ (s : Segment). s.to) same) ∙ ends)))
        (cases_lt k (length init))
