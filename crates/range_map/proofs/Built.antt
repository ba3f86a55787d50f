-- Segments of the runs of pages below a page.
use Rattle.std.proofs.Common.{◌≡◌, ℕ, zero, suc, get_or, ◌+◌, ◌-◌, ◌<◌, ◌≤◌, ◌++◌, true, false, Bool, List, [], ◌∷◌, ap, arith, cond, leb, length, length-append, ltb, refl, sym, ◌∙◌, inl, inr, ◌⊎◌, ⊎_elim, Option, None, Some}
use Rattle.std.specs.Prelude.{All, is_some}
use Rattle.std.specs.List.{AllPairs, find}
use Rattle.std.proofs.lemmas.List.Elements.{All-append}
use Rattle.std.proofs.lemmas.List.Quantifiers.{all_pairs_push}
use Rattle.std.specs.Option.{option_map, option_or}
use Rattle.std.proofs.lemmas.Bool.{cases_lt, and_from, and_left, and_right, lt-ltb, le-ltb, le-leb, lt-leb}
use Rattle.std.proofs.lemmas.List.Folds.{find-append}
use Rattle.lwc_types.specs.declared.limits.TheConstants.{MOST_PAGES}
use Rattle.range_map.specs.Kinds.{IsBefore, IsCanonical, IsSegment, begins_range, is_between, state_at, state_in, ranges}
use Rattle.range_map.specs.declared.segment.Segment.{Segment}
use Rattle.range_map.specs.declared.segment.PageState.{PageState}
use Rattle.range_map.proofs.Ranges.{absent_ranges, kinds_parted, one_more, ranges_same}

-- a segment ends at or before a page, with the state of its last page
pub record EndsBelow (p : ℕ) (kinds : ℕ → Option PageState) (s : Segment) : Type 0 where
  pub some : s.from < s.to
  pub below : s.to ≤ p
  pub kind : kinds (s.to - 1) ≡ Some (state_in s)

-- segments have these states of the pages below one, one for each range, and no other page
pub record HasRunsBelow (p : ℕ) (kinds : ℕ → Option PageState) (segments : List Segment) : Type 0 where
  pub each : All (EndsBelow p kinds) segments
  pub apart : AllPairs IsBefore segments
  pub counted : length segments ≡ ranges p kinds
  pub done : (q : ℕ) → q < p → state_at segments q ≡ kinds q
  pub rest : (q : ℕ) → p ≤ q → state_at segments q ≡ None

-- nothing is found behind what is found
pub or_none : {X : Type 0} (o : Option X) → option_or o None ≡ o
or_none None = refl
or_none (Some x) = refl

-- a further element that does not pass leaves what is found
pub find_off : {X : Type 0} (test : X → Bool) (xs : List X) (x : X) → test x ≡ false → find test (xs ++ x ∷ []) ≡ find test xs
find_off test xs x off = rw (find-append test xs (x ∷ []), off) (or_none (find test xs))

-- a further element that passes is found where no other is
pub find_on : {X : Type 0} (test : X → Bool) (xs : List X) (x : X) → test x ≡ true → find test xs ≡ None → find test (xs ++ x ∷ []) ≡ Some x
find_on test xs x on none = rw (find-append test xs (x ∷ []), on, none) refl

-- no value comes of no value
map_none : {X Y : Type 0} (f : X → Y) (o : Option X) → option_map f o ≡ None → o ≡ None
map_none f None is = refl
map_none f (Some x) is = absurd cc

-- a further segment leaves the pages that it has not
pub push_off : (segments : List Segment) (s : Segment) (q : ℕ) → is_between s.from s.to q ≡ false → state_at (segments ++ s ∷ []) q ≡ state_at segments q
unfolding state_at
push_off segments s q off = ap (option_map state_in) (find_off (λ t. is_between t.from t.to q) segments s off)

-- a further segment gives its state to absent pages
pub push_on : (segments : List Segment) (s : Segment) (q : ℕ) → is_between s.from s.to q ≡ true → state_at segments q ≡ None → state_at (segments ++ s ∷ []) q ≡ Some (state_in s)
unfolding state_at
push_on segments s q on none =
    ap (option_map state_in) (find_on (λ t. is_between t.from t.to q) segments s on (map_none state_in (find (λ t. is_between t.from t.to q) segments) none))

pub all_one : {X : Type 0} (P : X → Type 0) (x : X) → P x → All P (x ∷ [])
all_one P x holds zero d inside = holds
all_one P x holds (suc k) d inside = absurd (omega arith)

-- a page that is from one on and below another is between them, and no other one
pub between : (from to q : ℕ) → from ≤ q → q < to → is_between from to q ≡ true
between from to q low high = and_from (leb from q) (ltb q to) (le-leb from q low) (lt-ltb q to high)

pub not_between : (from to q : ℕ) → (q < from) ⊎ (to ≤ q) → is_between from to q ≡ false
not_between from to q off =
    ⊎_elim (λ low. and_left (leb from q) (ltb q to) (lt-leb from q low)) (λ high. and_right (leb from q) (ltb q to) (le-ltb q to high)) off

module _ (kinds : ℕ → Option PageState) (p e : ℕ) (segments : List Segment) (past : p < e) (alike : (q : ℕ) → p ≤ q → q < e → kinds q ≡ kinds p)
    (begins : begins_range kinds p ≡ is_some (kinds p)) (built : HasRunsBelow p kinds segments) where
  ends_later : All (EndsBelow e kinds) segments
  ends_later k d inside = let before = built.each k d inside in record { some = before.some; below = omega (arith, before.below, past); kind = before.kind }

  -- with a run of absent pages the segments stay
  pub run_absent : kinds p ≡ None → HasRunsBelow e kinds segments
  run_absent none = record {
    each = ends_later;
    apart = built.apart;
    counted = built.counted ∙ sym (one_more kinds p (e - p - 1) e (omega arith) alike begins ∙ rw none (omega arith));
    done = λ q high. ⊎_elim (λ low. built.done q low) (λ low. built.rest q low ∙ sym (alike q low high ∙ none)) (cases_lt q p);
    rest = λ q low. built.rest q (omega arith);
  }

  -- a run of present pages is a further segment
  pub run_present : (s : Segment) → s.from ≡ p → s.to ≡ e → kinds p ≡ Some (state_in s) → HasRunsBelow e kinds (segments ++ s ∷ [])
  run_present s from to some = record {
    each = All-append (EndsBelow e kinds) segments (s ∷ []) ends_later (all_one (EndsBelow e kinds) s (record {
      some = omega (arith, from, to, past);
      below = omega (arith, to);
      kind = alike (s.to - 1) (omega (arith, to, past)) (omega (arith, to, past)) ∙ some;
    }));
    apart = all_pairs_push IsBefore segments s built.apart (λ k d inside.
        let before = built.each k d inside in
        record {
          ordered = omega (arith, before.below, from);
          parted = λ meets. kinds_parted kinds p ((get_or segments k d).to - 1) _ (state_in s) (omega (arith, before.some, meets, from)) before.kind some begins;
        });
    counted = length-append segments (s ∷ []) ∙ ap (λ n. n + 1) built.counted ∙ sym (one_more kinds p (e - p - 1) e (omega arith) alike begins ∙ rw some refl);
    done = λ q high. ⊎_elim
        (λ low. push_off segments s q (not_between s.from s.to q (inl (omega arith))) ∙ built.done q low)
        (λ low. push_on segments s q (between s.from s.to q (omega arith) (omega arith)) (built.rest q low) ∙ sym (alike q low high ∙ some))
        (cases_lt q p);
    rest = λ q low. push_off segments s q (not_between s.from s.to q (inr (omega arith))) ∙ built.rest q (omega arith);
  }

-- segments of the runs of all pages are canonical
pub all_built : (kinds : ℕ → Option PageState) (segments : List Segment) → HasRunsBelow MOST_PAGES kinds segments → IsCanonical segments
all_built kinds segments built = record {
  some = λ k d inside. (built.each k d inside).some;
  apart = built.apart;
  within = built.rest;
  counted = built.counted ∙ sym (ranges_same (state_at segments) kinds MOST_PAGES built.done);
}

-- no segments have the runs below the first page
pub none_built : (kinds : ℕ → Option PageState) → HasRunsBelow 0 kinds []
unfolding ranges state_at
none_built kinds = record { each = λ k d inside. absurd (omega arith); apart = λ i j d before inside. absurd (omega arith); counted = refl; done = λ q low. absurd (omega arith); rest = λ q low. refl }

-- no segments are canonical
pub none_canonical : IsCanonical []
unfolding state_at
none_canonical = record { some = λ k d inside. absurd (omega arith); apart = λ i j d before inside. absurd (omega arith); within = λ p low. refl; counted = sym (absent_ranges (state_at []) (λ p. refl)) }

-- where nothing is found, no element passes
pub find_none : {X : Type 0} (test : X → Bool) (xs : List X) (k : ℕ) (d : X) → k < length xs → find test xs ≡ None → test (get_or xs k d) ≡ false
find_none test [] k d inside none = absurd (omega arith)
find_none test (x ∷ xs) zero d inside none = first (test x) none
  where
    first : (b : Bool) → cond b (Some x) (find test xs) ≡ None → b ≡ false
    first true is = absurd cc
    first false is = refl
find_none test (x ∷ xs) (suc k) d inside none = find_none test xs k d (omega arith) (rest (test x) none)
  where
    rest : (b : Bool) → cond b (Some x) (find test xs) ≡ None → find test xs ≡ None
    rest true is = absurd cc
    rest false is = is

-- where no page from one on is present, segments end there or before
pub ends_below : (segments : List Segment) (p : ℕ) → All (λ s. s.from < s.to) segments → ((q : ℕ) → p ≤ q → state_at segments q ≡ None) →
    (k : ℕ) (d : Segment) → k < length segments → (get_or segments k d).to ≤ p
unfolding state_at
ends_below segments p some clear k d inside = ⊎_elim (λ past. absurd (beyond past)) (λ within. within) (cases_lt p s.to)
  where
    s : Segment
    s = get_or segments k d

    beyond : p < s.to → ⊥
    beyond past =
        let more = some k d inside in
        let off = find_none (λ t. is_between t.from t.to (s.to - 1)) segments k d inside (map_none state_in (find (λ t. is_between t.from t.to (s.to - 1)) segments) (clear (s.to - 1) (omega arith))) in
        let on = between s.from s.to (s.to - 1) (omega arith) (omega arith) in
        cc

-- no page of canonical segments is past the last one
pub segments_inside : (segments : List Segment) → IsCanonical segments → All IsSegment segments
segments_inside segments canonical k d inside =
    record { some = canonical.some k d inside; inside = ends_below segments MOST_PAGES canonical.some canonical.within k d inside }
