-- Parts of segments that are handed on in rising order: the states that they give, and the ranges that begin.
use Rattle.std.proofs.Common.{◌≡◌, ℕ, suc, get_or, ◌+◌, ◌-◌, ◌<◌, ◌≤◌, ◌⊎◌, ⊎_elim, inl, inr, max, min, ap, arith, cond, length, refl, subst, sym, ◌∙◌, List, Option, None, Some}
use Rattle.std.specs.Option.{option_map}
use Rattle.std.proofs.lemmas.Bool.{cases_lt}
use Rattle.lwc_types.specs.declared.limits.TheConstants.{MOST_PAGES}
use Rattle.lwc_types.specs.declared.right.Right.{Right}
use Rattle.range_map.specs.declared.segment.PageState.{PageState}
use Rattle.range_map.specs.declared.segment.Segment.{Segment}
use Rattle.range_map.specs.Kinds.{IsCanonical, put_state, ranges, state_at, state_in}
use Rattle.range_map.proofs.Built.{between, not_between}
use Rattle.range_map.proofs.Edges.{none, own, owned}
use Rattle.range_map.proofs.Halved.{rising}
use Rattle.range_map.proofs.Ranges.{absent_tail, few_ranges}
use Rattle.cow_space.specs.Changes.{begun, states_with, with_right}
use Rattle.cow_space.specs.Maps.{put_range}
use Rattle.cow_space.proofs.KindChanges.{HaveBelow, more-few, more-present, piece-counts}

-- segments before a place end at a page or before it, and the one there, if it begins before a last page, ends past it
pub record ArePassed (segments : List Segment) (from to k p : ℕ) : Type 0 where
  pub low : from ≤ p
  pub high : p ≤ to
  pub passed : p < to → (j : ℕ) → j < k → (get_or segments j none).to ≤ p
  pub goes : k < length segments → (get_or segments k none).from < to → max (get_or segments k none).from p < min (get_or segments k none).to to

-- the ranges that begin from one page on were counted, and the state of the last page is known
pub record IsCounted (segments : List Segment) (right : Option Right) (from to : ℕ) (before : Option PageState) (p count : ℕ) (last : Option PageState) : Type 0 where
  pub still : p ≡ from → last ≡ before
  pub known : from < p → (n : ℕ) → p ≡ suc n → last ≡ states_with segments right n
  pub counted : (after : ℕ → Option PageState) → ((q : ℕ) → from ≤ q → q < to → after q ≡ states_with segments right q) →
      (from ≡ 0 → before ≡ None) → ((n : ℕ) → from ≡ suc n → before ≡ after n) → ranges p after ≡ ranges from after + count

pub not-counted : (segments : List Segment) (right : Option Right) (from to : ℕ) (before : Option PageState) → IsCounted segments right from to before from 0 before
not-counted segments right from to before = record { still = λ _. refl; known = λ past. absurd (omega (arith, past)); counted = λ after gives first later. omega arith }

-- there are no more segments than pages
pub few-segments : (segments : List Segment) → IsCanonical segments → length segments ≤ MOST_PAGES
few-segments segments canonical = let few = few_ranges (state_at segments) MOST_PAGES in omega (arith, few, canonical.counted)

module _ (segments : List Segment) (canonical : IsCanonical segments) (right : Option Right) (from to : ℕ) where
  abbrev part : ℕ → Option PageState
  part = states_with segments right

  pub none-passed : (k : ℕ) → from < to → ((j : ℕ) (d : Segment) → j < k → (get_or segments j d).to ≤ from) → ((d : Segment) → k < length segments → from < (get_or segments k d).to) →
      ArePassed segments from to k from
  none-passed k order before after = record {
    low = omega arith;
    high = omega (arith, order);
    passed = λ _ j. before j none;
    goes = λ inside early. let some = canonical.some k none inside in let ends = after none inside in omega (arith, some, ends, early, order);
  }

  -- a page that is in no segment is absent
  absent : (q : ℕ) → ((state : PageState) → state_at segments q ≡ Some state → ⊥) → part q ≡ None
  unfolding states_with
  absent q off = ap (option_map (with_right right)) (by (state_at segments q) refl)
    where
      by : (o : Option PageState) → state_at segments q ≡ o → state_at segments q ≡ None
      by None is = is
      by (Some state) is = absurd (off state is)

  module _ (k p : ℕ) (at : ArePassed segments from to k p) where
    -- a segment that comes later does not begin before the one there
    later : (j : ℕ) → k ≤ j → j < length segments → (get_or segments k none).from ≤ (get_or segments j none).from
    later = rising segments canonical k

    pub ends : (s : Segment) → s ≡ get_or segments k none → to ≤ s.from → (length segments ≤ k) ⊎ (to ≤ (get_or segments k none).from)
    ends s is past = inr (subst (λ (t : Segment). to ≤ t.from) is past)

    -- where all were passed, or the next one begins past the last page, no page is left that is present
    module _ (over : (length segments ≤ k) ⊎ (to ≤ (get_or segments k none).from)) where
      pub left : (q : ℕ) → p ≤ q → q < to → part q ≡ None
      left q low high = absent q (λ state is.
          let o = owned segments canonical none q state is in
          ⊎_elim
          (λ early. let ended = at.passed (omega (arith, low, high)) o.0 early in absurd (omega (arith, ended, o.1.1.1.0, low)))
          (λ late. ⊎_elim
          (λ all. absurd (omega (arith, all, late, o.1.0)))
          (λ past. let begins = later o.0 late o.1.0 in absurd (omega (arith, begins, past, o.1.1.0, high)))
          over)
          (cases_lt o.0 k))

    module _ (s : Segment) (inside : k < length segments) (is : s ≡ get_or segments k none) (start end : ℕ) (start_is : start ≡ max s.from p) (end_is : end ≡ min s.to to) where
      from_is : s.from ≡ (get_or segments k none).from
      from_is = ap (λ (t : Segment). t.from) is

      to_is : s.to ≡ (get_or segments k none).to
      to_is = ap (λ (t : Segment). t.to) is

      some : s.from < s.to
      some = let here = canonical.some k none inside in omega (arith, here, from_is, to_is)

      -- the pages before the segment are absent, and its own have its state
      gap : (q : ℕ) → p ≤ q → q < s.from → q < to → part q ≡ None
      gap q low high reach = absent q (λ state has.
          let o = owned segments canonical none q state has in
          ⊎_elim
          (λ early. let ended = at.passed (omega (arith, low, reach)) o.0 early in absurd (omega (arith, ended, o.1.1.1.0, low)))
          (λ late. let begins = later o.0 late o.1.0 in absurd (omega (arith, begins, o.1.1.0, high, from_is)))
          (cases_lt o.0 k))

      within : (q : ℕ) → s.from ≤ q → q < s.to → part q ≡ Some (with_right right (state_in s))
      unfolding states_with
      within q low high =
          ap (option_map (with_right right)) (own segments canonical none k q inside (omega (arith, low, from_is)) (omega (arith, high, to_is)))
          ∙ ap (λ t. Some (with_right right (state_in t))) (sym is)

      module _ (early : s.from < to) where
        pub goes : start < end
        goes = let is_before = at.goes inside (omega (arith, early, from_is)) in omega (arith, is_before, start_is, end_is, from_is, to_is)

        -- a segment is passed once its pages were taken
        pub taken : ArePassed segments from to (k + 1) end
        taken = record {
          low = omega (arith, at.low, start_is, goes);
          high = omega (arith, end_is);
          passed = λ short j lt. ⊎_elim
              (λ before. let b = (canonical.apart j k none before inside).ordered in omega (arith, b, short, end_is, some, from_is))
              (λ other. let e : j ≡ k = omega (arith, lt, other) in let same = ap (λ n. (get_or segments n none).to) e in omega (arith, same, short, end_is, to_is))
              (cases_lt j k);
          goes = λ inside_next early_next. let b = (canonical.apart k (k + 1) none (omega arith) inside_next).ordered in let some_next = canonical.some (k + 1) none inside_next in
              omega (arith, b, some_next, early_next, end_is, to_is);
        }

        here : (q : ℕ) → start ≤ q → q < end → part q ≡ Some (with_right right (state_in s))
        here q low high = within q (omega (arith, low, start_is)) (omega (arith, high, end_is))

        nothing : (q : ℕ) → p ≤ q → q < start → part q ≡ None
        nothing q low high = gap q low (omega (arith, low, high, start_is)) (omega (arith, high, goes, end_is))

        -- the ranges that begin at its pages are counted
        module _ (before : Option PageState) (count : ℕ) (last last_now : Option PageState) (is_counted : IsCounted segments right from to before p count last) (far : p < start → last_now ≡ None) (near : start ≤ p → last_now ≡ last) where
          pub counted-more : (more : ℕ) → more ≡ begun last_now (Some (with_right right (state_in s))) → IsCounted segments right from to before end (count + more) (Some (with_right right (state_in s)))
          counted-more more more_is = record {
            still = λ same. absurd (omega (arith, same, at.low, start_is, goes));
            known = λ _ n ends. sym (here n (omega (arith, ends, goes)) (omega (arith, ends)));
            counted = λ after gives first later.
                let old = is_counted.counted after gives first later in
                let short = absent_tail after p (start - p) start (omega (arith, start_is)) (λ q low high. gives q (omega (arith, low, at.low)) (omega (arith, high, goes, end_is)) ∙ nothing q low high) in
                let new : ranges end after ≡ ranges start after + begun last_now (Some (with_right right (state_in s))) = piece-counts after start end last_now (Some (with_right right (state_in s))) goes
                (λ zero. near (omega (arith, zero)) ∙ is_counted.still (omega (arith, zero, start_is, at.low)) ∙ first (omega (arith, zero, start_is, at.low)))
                (λ n begins. ⊎_elim
                (λ gapped. far gapped ∙ sym (gives n (omega (arith, gapped, begins, at.low)) (omega (arith, begins, goes, end_is)) ∙ nothing n (omega (arith, gapped, begins)) (omega (arith, begins))))
                (λ meets. near meets ∙ ⊎_elim
                (λ past. is_counted.known past n (omega (arith, meets, begins, start_is)) ∙ sym (gives n (omega (arith, past, meets, begins, start_is)) (omega (arith, begins, goes, end_is))))
                (λ first_page. is_counted.still (omega (arith, first_page, at.low)) ∙ later n (omega (arith, first_page, at.low, meets, begins, start_is)))
                (cases_lt from p))
                (cases_lt p start))
                (λ q low high. gives q (omega (arith, low, start_is, at.low)) (omega (arith, high, end_is)) ∙ here q low high) in
                omega (arith, old, short, new, more_is);
          }

    -- at the end all are counted
    module _ (over : (length segments ≤ k) ⊎ (to ≤ (get_or segments k none).from)) (order : from < to) (before : Option PageState) (count : ℕ) (last last_now : Option PageState) (is_counted : IsCounted segments right from to before p count last) where
      pub counted-all : (after : ℕ → Option PageState) → ((q : ℕ) → from ≤ q → q < to → after q ≡ part q) → (from ≡ 0 → before ≡ None) → ((n : ℕ) → from ≡ suc n → before ≡ after n) →
          ranges to after ≡ ranges from after + count
      counted-all after gives first later =
          absent_tail after p (to - p) to (omega (arith, at.high)) (λ q low high. gives q (omega (arith, low, at.low)) high ∙ left over q low high) ∙ is_counted.counted after gives first later

      pub last-all : (p < to → last_now ≡ None) → (to ≤ p → last_now ≡ last) → (n : ℕ) → to ≡ suc n → last_now ≡ part n
      last-all far near n ends = ⊎_elim
          (λ short. far short ∙ sym (left over n (omega (arith, short, ends)) (omega (arith, ends))))
          (λ whole. near whole ∙ is_counted.known (omega (arith, whole, order)) n (omega (arith, whole, at.high, ends)))
          (cases_lt p to)

  -- states with those of the part
  module _ (old : List Segment) (inside_all : to ≤ MOST_PAGES) (clear : (q : ℕ) → from ≤ q → state_at old q ≡ None) where
    abbrev after : ℕ → Option PageState
    after = put_range (state_at old) from to part

    on : (q : ℕ) → from ≤ q → q < to → after q ≡ part q
    on q low high = ap (λ b. cond b (part q) (state_at old q)) (between from to q low high)

    off : (q : ℕ) → (q < from) ⊎ (to ≤ q) → after q ≡ state_at old q
    off q out = ap (λ b. cond b (part q) (state_at old q)) (not_between from to q out)

    pub have-none : HaveBelow from after old
    have-none = record { done = λ q low. sym (off q (inl low)); rest = clear }

    module _ (k p : ℕ) (at : ArePassed segments from to k p) (now : List Segment) (have : HaveBelow p after now) where
      pub have-all : (length segments ≤ k) ⊎ (to ≤ (get_or segments k none).from) → (q : ℕ) → state_at now q ≡ after q
      have-all over q = ⊎_elim
          (λ low. have.done q low)
          (λ past. have.rest q past ∙ ⊎_elim
          (λ high. sym (on q (omega (arith, past, at.low)) high ∙ left k p at over q past high))
          (λ far. sym (off q (inr far) ∙ clear q (omega (arith, past, at.low))))
          (cases_lt q to))
          (cases_lt q p)

      module _ (s : Segment) (inside : k < length segments) (is : s ≡ get_or segments k none) (start end : ℕ) (start_is : start ≡ max s.from p) (end_is : end ≡ min s.to to) (early : s.from < to) where
        starts : start < end
        starts = goes k p at s inside is start end start_is end_is early

        have-start : HaveBelow start after now
        have-start = record {
          done = λ q high. ⊎_elim
              (λ low. have.done q low)
              (λ past. have.rest q past ∙ sym (on q (omega (arith, past, at.low)) (omega (arith, high, starts, end_is)) ∙ nothing k p at s inside is start end start_is end_is early q past high))
              (cases_lt q p);
          rest = λ q low. have.rest q (omega (arith, low, start_is));
        }

        gets : (q : ℕ) → start ≤ q → q < end → after q ≡ Some (with_right right (state_in s))
        gets q low high = on q (omega (arith, low, start_is, at.low)) (omega (arith, high, end_is)) ∙ here k p at s inside is start end start_is end_is early q low high

        pub append-few : ranges MOST_PAGES (put_state (state_at now) start end (with_right right (state_in s))) ≤ ranges MOST_PAGES after
        append-few = more-few after start end now starts (omega (arith, end_is, inside_all)) have-start (with_right right (state_in s)) gets

        pub append-clear : (q : ℕ) → start ≤ q → state_at now q ≡ None
        append-clear = have-start.rest

        pub have-more : (new : List Segment) → ((q : ℕ) → state_at new q ≡ put_state (state_at now) start end (with_right right (state_in s)) q) → HaveBelow end after new
        have-more new puts = more-present after start end now starts (omega (arith, end_is, inside_all)) have-start (with_right right (state_in s)) gets new puts
