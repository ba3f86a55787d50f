-- A context whose pages are all its own has no more ranges and tags than the numbers of its pages make.
use Rattle.std.proofs.Common.{◌≡◌, ℕ, zero, suc, ◌+◌, ◌≤◌, ◌<◌, refl, sym, ap, subst, ◌∙◌, Bool, true, false, cond, eqb, not, ◌&&◌, ◌||◌, Option, Some, None, List, [], ◌∷◌, length, take, arith, length-append}
use Rattle.std.specs.List.{enumerate_from, find, flat_map, list_any, range_with_len}
use Rattle.std.specs.Prelude.{count_by, is_some}
use Rattle.std.proofs.lemmas.Bool.Decides.{nat_tests}
use Rattle.std.proofs.lemmas.List.Sums.{count_by-le-length, sum_by-cons}
use Rattle.guest_image.specs.Limits.{page_numbers}
use Rattle.guest_image.specs.Numbers.{begins, ranges_after}
use Rattle.guest_image.specs.declared.image.PageImage.{PageImage}
use Rattle.lwc_base.specs.Frames.{own_value, tag_of, tags_of_context}
use Rattle.lwc_base.specs.Rights.{same_right}
use Rattle.lwc_base.specs.Ranges.{are_alike, are_of_one_kind, begins_range, continues_range, has_page, is_page, ranges}
use Rattle.lwc_base.specs.World.{Context}
use Rattle.lwc_base.specs.declared.cell.Cell.TheVariants.{Own}
use Rattle.lwc_base.proofs.Life.{or_right}
use Rattle.lwc_types.specs.declared.right.Right.TheVariants.{Write}
use Rattle.lwc_types.specs.declared.key.Key.TheVariants.{Page}
use Rattle.lwc_types.specs.declared.page.PageValue.{PageValue}
use Rattle.lwc_types.specs.declared.page.PageValue.TheVariants.{Zero, Data}

at_most_one : (b : Bool) → cond b 1 0 ≤ 1
at_most_one true = omega arith
at_most_one false = omega arith

-- whether a number is one of these
abbrev pub has : List ℕ → ℕ → Bool
has numbers p = list_any (λ m. eqb m p) numbers

abbrev pub num : Bool → ℕ
num b = cond b 1 0

counted_first : (test : ℕ → Bool) (p : ℕ) (ps : List ℕ) → count_by test (p ∷ ps) ≡ num (test p) + count_by test ps
counted_first test p ps = sum_by-cons (λ x. num (test x)) p ps

-- a count of what two tests cover
count-covered : (f g h : ℕ → Bool) (ps : List ℕ) → ((p : ℕ) → num (f p) ≤ num (g p) + num (h p)) → count_by f ps ≤ count_by g ps + count_by h ps
count-covered f g h [] each = omega arith
count-covered f g h (p ∷ ps) each =
    omega (arith, counted_first f p ps, counted_first g p ps, counted_first h p ps, each p, count-covered f g h ps each)

count-none : (f : ℕ → Bool) (ps : List ℕ) → ((p : ℕ) → f p ≡ false) → count_by f ps ≡ 0
count-none f [] none = refl
count-none f (p ∷ ps) none = omega (arith, counted_first f p ps, ap num (none p), count-none f ps none)

and_false : (b : Bool) → (b && false) ≡ false
and_false true = refl
and_false false = refl

-- a number is at most once among numbers that follow one another
past_it : (p a n : ℕ) → p < a → count_by (λ q. eqb p q) (range_with_len a n) ≡ 0
past_it p a zero past = refl
past_it p a (suc n) past =
    let other : eqb p a ≡ false = grind (arith, nat_tests) in
    omega (arith, counted_first (λ q. eqb p q) a (range_with_len (a + 1) n), ap num other, past_it p (a + 1) n (omega arith))

once_by : (p a n : ℕ) (b : Bool) → eqb p a ≡ b → count_by (λ q. eqb p q) (range_with_len (a + 1) n) ≤ 1 → count_by (λ q. eqb p q) (range_with_len a (suc n)) ≤ 1
once_by p a n true same rest =
    let past : p < a + 1 = grind (arith, nat_tests) in
    omega (arith, counted_first (λ q. eqb p q) a (range_with_len (a + 1) n), ap num same, past_it p (a + 1) n past)
once_by p a n false other rest = omega (arith, counted_first (λ q. eqb p q) a (range_with_len (a + 1) n), ap num other, rest)

once : (p a n : ℕ) → count_by (λ q. eqb p q) (range_with_len a n) ≤ 1
once p a zero = omega arith
once p a (suc n) = once_by p a n (eqb p a) refl (once p (a + 1) n)

-- of the numbers that follow one another and that a test and a list have, there are no more than the test has of the list
module _ (test : ℕ → Bool) (a n : ℕ) where
  covered : (m p : ℕ) (ms : List ℕ) (b : Bool) → eqb m p ≡ b → num (test p && (eqb m p || has ms p)) ≤ num (test m && eqb m p) + num (test p && has ms p)
  covered m p ms true is =
      let same : m ≡ p = grind (arith, nat_tests) in
      let here : test p ≡ test m = ap test (sym same) in
      subst (λ (b : Bool). num (test p && (b || has ms p)) ≤ num (test m && b) + num (test p && has ms p)) (sym is)
      (subst (λ (b : Bool). num (b && true) ≤ num (test m && true) + num (b && has ms p)) (sym here) (omega arith))
  covered m p ms false is =
      subst (λ (b : Bool). num (test p && (b || has ms p)) ≤ num (test m && b) + num (test p && has ms p)) (sym is) (omega arith)

  once_where : (m : ℕ) (b : Bool) → count_by (λ p. b && eqb m p) (range_with_len a n) ≤ num b
  once_where m true = once m a n
  once_where m false = omega (arith, count-none (λ p. false) (range_with_len a n) (λ p. refl))

  count-among : (ms : List ℕ) → count_by (λ p. test p && has ms p) (range_with_len a n) ≤ count_by test ms
  count-among [] = omega (arith, count-none (λ p. test p && false) (range_with_len a n) (λ p. and_false (test p)))
  count-among (m ∷ ms) =
      omega (
        arith,
        count-covered (λ p. test p && has (m ∷ ms) p) (λ p. test m && eqb m p) (λ p. test p && has ms p) (range_with_len a n) (λ p. covered m p ms (eqb m p) refl),
        once_where m (test m),
        count-among ms,
        counted_first test m ms,
      )

-- a context whose pages are its own, and which has just the pages of these numbers
module _ (x : Context) (numbers : List ℕ) (value : ℕ → Option PageValue) (own : (p : ℕ) → x.cell (Page p) ≡ Own (value p))
    (writable : (p : ℕ) → x.right p ≡ Write) (present : (p : ℕ) → is_some (value p) ≡ has numbers p) where
  page-there : (p : ℕ) → has_page x p ≡ has numbers p
  page-there p = ap is_page (own p) ∙ present p

  alike_by : (a b : Option PageValue) → is_some a ≡ true → is_some b ≡ true → are_of_one_kind (Own a) (Own b) ≡ true
  alike_by (Some v) (Some w) p q = refl
  alike_by (Some v) None p q = cc
  alike_by None b p q = cc

  -- no range begins at a number that follows another one
  no_range_after : (m : ℕ) → has numbers m ≡ true → has numbers (suc m) ≡ true → begins_range x (suc m) ≡ false
  unfolding begins_range
  no_range_after m before here =
      let like : are_alike x m (suc m) ≡ true =
      (λ i. are_of_one_kind (own m i) (own (suc m) i) && same_right (writable m i) (writable (suc m) i))
      ∙ ap (λ b. b && true) (alike_by (value m) (value (suc m)) (present m ∙ before) (present (suc m) ∙ here)) in
      ap (λ b. has_page x (suc m) && not b) like ∙ and_false (has_page x (suc m))

  begun_by : (before : Option ℕ) (m : ℕ) (b : Bool) → begins before m ≡ b → ((k : ℕ) → before ≡ Some k → has numbers k ≡ true) → has numbers m ≡ true →
      num (begins_range x m) ≤ num b
  begun_by before m true is there here = at_most_one (begins_range x m)
  begun_by None m false is there here = cc
  begun_by (Some k) m false is there here =
      let next : m ≡ suc k = grind (arith, nat_tests) in
      let none : begins_range x (suc k) ≡ false = no_range_after k (there k refl) (ap (has numbers) (sym next) ∙ here) in
      omega (arith, ap num (ap (begins_range x) next ∙ none))

  ranges_by : (b : Bool) (n : ℕ) → num b + n ≤ cond b (n + 1) n
  ranges_by true n = omega arith
  ranges_by false n = omega arith

  itself : (m : ℕ) (ms : List ℕ) → has (m ∷ ms) m ≡ true
  itself m ms = let same : eqb m m ≡ true = grind (arith, nat_tests) in ap (λ b. b || has ms m) same

  later : (m p : ℕ) (ms : List ℕ) → has ms p ≡ true → has (m ∷ ms) p ≡ true
  later m p ms is = or_right (eqb m p) (has ms p) is

  -- of these numbers, no more begin a range than in the list
  count-begun : (before : Option ℕ) (ms : List ℕ) → ((k : ℕ) → before ≡ Some k → has numbers k ≡ true) → ((p : ℕ) → has ms p ≡ true → has numbers p ≡ true) →
      count_by (begins_range x) ms ≤ ranges_after before ms
  unfolding ranges_after
  count-begun before [] there inside = omega arith
  count-begun before (m ∷ ms) there inside =
      let here : has numbers m ≡ true = inside m (itself m ms) in
      let one = begun_by before m (begins before m) refl there here in
      let rest : count_by (begins_range x) ms ≤ ranges_after (Some m) ms =
      count-begun (Some m) ms (λ k is. let same : m ≡ k = cc in ap (has numbers) (sym same) ∙ here) (λ p is. inside p (later m p ms is)) in
      omega (arith, counted_first (begins_range x) m ms, one, rest, ranges_by (begins before m) (ranges_after (Some m) ms))

  among_by : (a b : Bool) → num (a && not b) ≤ num ((a && not b) && a) + num false
  among_by true true = omega arith
  among_by true false = omega arith
  among_by false b = omega arith

  among : (p : ℕ) → num (begins_range x p) ≤ num (begins_range x p && has numbers p) + num false
  unfolding begins_range
  among p =
      subst (λ (b : Bool). num (begins_range x p) ≤ num (begins_range x p && b) + num false) (page-there p) (among_by (has_page x p) (continues_range x p))

  -- it has no more ranges than the numbers make
  pub ranges-own : (pages : ℕ) → ranges pages x ≤ ranges_after None numbers
  unfolding ranges
  ranges-own pages =
      omega (
        arith,
        count-covered (begins_range x) (λ p. begins_range x p && has numbers p) (λ p. false) (range_with_len 0 pages) among,
        count-none (λ p. false) (range_with_len 0 pages) (λ p. refl),
        count-among (begins_range x) 0 pages numbers,
        count-begun None numbers (λ k is. cc) (λ p is. is),
      )

-- a value has one tag at most
pub one_tag : (v : Option PageValue) → length (tag_of v) ≤ num (is_some v)
one_tag None = omega arith
one_tag (Some Zero) = omega arith
one_tag (Some (Data tag bytes)) = omega arith

-- a context whose pages have tags under these numbers alone
module _ (x : Context) (numbers : List ℕ) (tagged : (p : ℕ) → length (tag_of (own_value (x.cell (Page p)))) ≤ num (has numbers p)) where
  tags_of_pages : (ps : List ℕ) → length (flat_map (λ p. tag_of (own_value (x.cell (Page p)))) ps) ≤ count_by (has numbers) ps
  tags_of_pages [] = omega arith
  tags_of_pages (p ∷ ps) =
      omega (
        arith,
        counted_first (has numbers) p ps,
        tagged p,
        tags_of_pages ps,
        length-append (tag_of (own_value (x.cell (Page p)))) (flat_map (λ q. tag_of (own_value (x.cell (Page q)))) ps),
      )

  -- it has no more tags than there are numbers
  pub tags-within : (pages : ℕ) → length (tags_of_context pages x) ≤ length numbers
  unfolding tags_of_context
  tags-within pages =
      omega (arith, tags_of_pages (range_with_len 0 pages), count-among (λ p. true) 0 pages numbers, count_by-le-length (λ p. true) numbers)

fewer_at_first : (b : Bool) (m n : ℕ) → m ≤ n → cond b (m + 1) m ≤ cond b (n + 1) n
fewer_at_first true m n less = omega arith
fewer_at_first false m n less = less

-- the first of some pages make no more ranges than all
pub ranges-take : (before : Option ℕ) (k : ℕ) (pages : List PageImage) → ranges_after before (page_numbers (take k pages)) ≤ ranges_after before (page_numbers pages)
unfolding ranges_after
ranges-take before zero pages = omega arith
ranges-take before (suc k) [] = omega arith
ranges-take before (suc k) (x ∷ pages) = fewer_at_first (begins before x.number) _ _ (ranges-take (Some x.number) k pages)

found_where : {X : Type 0} (b : Bool) (e : X) (rest : Option X) → is_some (cond b (Some e) rest) ≡ (b || is_some rest)
found_where true e rest = refl
found_where false e rest = refl

-- a page is found exactly where its number is one of theirs
pub is_some-found : (a p : ℕ) (pages : List PageImage) → is_some (find (λ e. eqb e.1.number p) (enumerate_from a pages)) ≡ has (page_numbers pages) p
is_some-found a p [] = refl
is_some-found a p (x ∷ pages) =
    found_where (eqb x.number p) (a, x) (find (λ (e : ℕ × PageImage). eqb e.1.number p) (enumerate_from (a + 1) pages))
    ∙ ap (λ b. eqb x.number p || b) (is_some-found (a + 1) p pages)
