-- The number of different tags in lists of tags.
use Rattle.std.proofs.Common.{◌≡◌, inl, inr, ℕ, zero, suc, ◌+◌, ◌≤◌, ◌<◌, refl, sym, ap, ◌∙◌, Bool, true, false, cond, eqb, ◌||◌, List, [], ◌∷◌, length, map, arith}
use Rattle.std.proofs.lemmas.Bool.{eq-eqb, eqb-true, false≢true, or_cases}
use Rattle.std.proofs.lemmas.Bool.Decides.{nat_tests}
use Rattle.std.proofs.lemmas.List.Sums.{sum_by-cons}
use Rattle.std.specs.Prelude.{not}
use Rattle.std.specs.List.{filter, list_any, range_with_len, sum_by}
use Rattle.std.specs.Ordering.{eq_by_cmp}
use Rattle.std.specs.FinSet as set
use Rattle.lwc_base.proofs.Facts.{orders}
use Rattle.lwc_base.proofs.Life.{or_left, or_right}
use Rattle.lwc_types.specs.Names.{tag_cmp}
use Rattle.lwc_types.specs.declared.name.Tag.{Tag}
use Rattle.lwc_types.proofs.Orders.{same_tag, tag-itself}
use Rattle.world_views.proofs.Counting.{is_in_list, tag_of_job}

-- the number of different tags
abbrev pub distinct : List Tag → ℕ
distinct ts = set.len (set.from_list {R = tag_cmp} ts)

-- each tag is of one of these jobs
abbrev pub OfJobs : List ℕ → List Tag → Type 0
OfJobs jobs [] = Unit {0}
OfJobs jobs (t ∷ ts) = (list_any (λ j. eqb t.job j) jobs ≡ true) × OfJobs jobs ts

pub distinct_more : (t : Tag) (ts : List Tag) → distinct (t ∷ ts) ≡ cond (list_any (eq_by_cmp tag_cmp t) ts) (distinct ts) (distinct ts + 1)
distinct_more t ts =
    set.len-insert orders.tags (set.from_list {R = tag_cmp} ts) t
    ∙ ap (λ b. cond b (distinct ts) (distinct ts + 1)) (set.contains-from_list orders.tags ts t)

any_where : (test : Tag → Bool) (t u : Tag) (rest all : Bool) (b c : Bool) → test u ≡ b → eq_by_cmp tag_cmp t u ≡ c → test t ≡ true → all ≡ rest → (c || all) ≡ cond b (c || rest) rest
any_where test t u rest all true c passes same own is = ap (λ d. c || d) is
any_where test t u rest all false true fails same own is = let clash : true ≡ false = sym own ∙ ap test (same_tag t u same) ∙ fails in cc
any_where test t u rest all false false fails other own is = is

list_any-cond : (f : Tag → Bool) (b : Bool) (u : Tag) (us : List Tag) → cond b (f u || list_any f us) (list_any f us) ≡ list_any f (cond b (u ∷ us) us)
list_any-cond f true u us = refl
list_any-cond f false u us = refl

-- a tag that passes a test stands in a list where it stands among those that pass
pub any_filter : (test : Tag → Bool) (t : Tag) (ts : List Tag) → test t ≡ true → list_any (eq_by_cmp tag_cmp t) ts ≡ list_any (eq_by_cmp tag_cmp t) (filter test ts)
any_filter test t [] own = refl
any_filter test t (u ∷ us) own =
    any_where test t u (list_any (eq_by_cmp tag_cmp t) (filter test us)) (list_any (eq_by_cmp tag_cmp t) us) (test u) _ refl refl own (any_filter test t us own)
    ∙ list_any-cond (eq_by_cmp tag_cmp t) (test u) u (filter test us)

add_first : (b : Bool) (m n : ℕ) → cond b (m + n) (m + n + 1) ≡ cond b m (m + 1) + n
add_first true m n = refl
add_first false m n = omega arith

add_second : (b : Bool) (m n : ℕ) → cond b (m + n) (m + n + 1) ≡ m + cond b n (n + 1)
add_second true m n = refl
add_second false m n = omega arith

split_where : (test : Tag → Bool) (t : Tag) (ts : List Tag) (b : Bool) → test t ≡ b → distinct ts ≡ distinct (filter test ts) + distinct (filter (λ u. not (test u)) ts) →
    distinct (t ∷ ts) ≡ distinct (cond b (t ∷ filter test ts) (filter test ts)) + distinct (cond (not b) (t ∷ filter (λ u. not (test u)) ts) (filter (λ u. not (test u)) ts))
split_where test t ts true passes rest =
    distinct_more t ts
    ∙ (λ i. cond (any_filter test t ts passes i) (rest i) (rest i + 1))
    ∙ add_first (list_any (eq_by_cmp tag_cmp t) (filter test ts)) (distinct (filter test ts)) (distinct (filter (λ u. not (test u)) ts))
    ∙ ap (λ n. n + distinct (filter (λ u. not (test u)) ts)) (sym (distinct_more t (filter test ts)))
split_where test t ts false fails rest =
    distinct_more t ts
    ∙ (λ i. cond (any_filter (λ u. not (test u)) t ts (ap not fails) i) (rest i) (rest i + 1))
    ∙ add_second (list_any (eq_by_cmp tag_cmp t) (filter (λ u. not (test u)) ts)) (distinct (filter test ts)) (distinct (filter (λ u. not (test u)) ts))
    ∙ ap (λ n. distinct (filter test ts) + n) (sym (distinct_more t (filter (λ u. not (test u)) ts)))

-- the different tags of a list are those that pass a test, and those that do not
pub distinct-split : (test : Tag → Bool) (ts : List Tag) → distinct ts ≡ distinct (filter test ts) + distinct (filter (λ u. not (test u)) ts)
distinct-split test [] = omega (arith, set.len-empty tag_cmp)
distinct-split test (t ∷ ts) = split_where test t ts (test t) refl (distinct-split test ts)

others_of : (j : ℕ) (js : List ℕ) (t : Tag) (b : Bool) → eqb t.job j ≡ b → list_any (λ i. eqb t.job i) (j ∷ js) ≡ true → not b ≡ true → list_any (λ i. eqb t.job i) js ≡ true
others_of j js t true own is other = cc
others_of j js t false apart is other = sym (ap (λ b. b || list_any (λ i. eqb t.job i) js) apart) ∙ is

of_others : (j : ℕ) (js : List ℕ) (ts : List Tag) → OfJobs (j ∷ js) ts → OfJobs js (filter (λ u. not (tag_of_job j u)) ts)
of_others j js [] all = tt
of_others j js (t ∷ ts) all =
    elim (tag_of_job j t) as (λ b. tag_of_job j t ≡ b → OfJobs js (cond (not b) (t ∷ filter (λ u. not (tag_of_job j u)) ts) (filter (λ u. not (tag_of_job j u)) ts))) [
      | true ↦ λ own. of_others j js ts all.1
      | false ↦ λ other. (others_of j js t false other all.0 refl, of_others j js ts all.1)
    ] refl

both_jobs : (i j : ℕ) (t : Tag) → eqb t.job i ≡ true → eqb t.job j ≡ true → eqb i j ≡ true
both_jobs i j t one two = eq-eqb i j (sym (eqb-true t.job i one) ∙ eqb-true t.job j two)

others_where : (i j : ℕ) (t : Tag) (fs gs : List Tag) (a b : Bool) → tag_of_job i t ≡ a → tag_of_job j t ≡ b → eqb i j ≡ false → filter (tag_of_job i) gs ≡ filter (tag_of_job i) fs →
    filter (tag_of_job i) (cond (not b) (t ∷ gs) gs) ≡ cond a (t ∷ filter (tag_of_job i) fs) (filter (tag_of_job i) fs)
others_where i j t fs gs true true is_i is_j apart rest = absurd (false≢true (sym apart ∙ both_jobs i j t is_i is_j))
others_where i j t fs gs false true is_i is_j apart rest = rest
others_where i j t fs gs a false is_i is_j apart rest = (λ e. cond (is_i e) (t ∷ rest e) (rest e))

apart_filter : (i j : ℕ) (ts : List Tag) → eqb i j ≡ false → filter (tag_of_job i) (filter (λ u. not (tag_of_job j u)) ts) ≡ filter (tag_of_job i) ts
apart_filter i j [] apart = refl
apart_filter i j (t ∷ ts) apart = others_where i j t ts (filter (λ u. not (tag_of_job j u)) ts) (tag_of_job i t) (tag_of_job j t) refl refl apart (apart_filter i j ts apart)

gone_where : (i j : ℕ) (t : Tag) (gs : List Tag) (b : Bool) → tag_of_job j t ≡ b → eqb i j ≡ true → filter (tag_of_job i) gs ≡ [] → filter (tag_of_job i) (cond (not b) (t ∷ gs) gs) ≡ []
gone_where i j t gs true is_j same rest = rest
gone_where i j t gs false is_j same rest =
    ap (λ b. cond b (t ∷ filter (tag_of_job i) gs) (filter (tag_of_job i) gs)) (ap (eqb t.job) (eqb-true i j same) ∙ is_j) ∙ rest

gone_filter : (i j : ℕ) (ts : List Tag) → eqb i j ≡ true → filter (tag_of_job i) (filter (λ u. not (tag_of_job j u)) ts) ≡ []
gone_filter i j [] same = refl
gone_filter i j (t ∷ ts) same = gone_where i j t (filter (λ u. not (tag_of_job j u)) ts) (tag_of_job j t) refl same (gone_filter i j ts same)

fewer_where : (i j : ℕ) (ts : List Tag) (b : Bool) → eqb i j ≡ b → distinct (filter (tag_of_job i) (filter (λ u. not (tag_of_job j u)) ts)) ≤ distinct (filter (tag_of_job i) ts)
fewer_where i j ts true same = let none = ap distinct (gone_filter i j ts same) ∙ set.len-empty tag_cmp in omega (arith, none)
fewer_where i j ts false apart = let all = ap distinct (apart_filter i j ts apart) in omega (arith, all)

fewer_in_all : (j : ℕ) (ts : List Tag) (jobs : List ℕ) →
    sum_by (λ i. distinct (filter (tag_of_job i) (filter (λ u. not (tag_of_job j u)) ts))) jobs ≤ sum_by (λ i. distinct (filter (tag_of_job i) ts)) jobs
fewer_in_all j ts [] = omega arith
fewer_in_all j ts (i ∷ is) =
    omega (
      arith,
      fewer_where i j ts (eqb i j) refl,
      fewer_in_all j ts is,
      sum_by-cons (λ i. distinct (filter (tag_of_job i) (filter (λ u. not (tag_of_job j u)) ts))) i is,
      sum_by-cons (λ i. distinct (filter (tag_of_job i) ts)) i is,
    )

pub distinct_of_jobs : (jobs : List ℕ) (ts : List Tag) → OfJobs jobs ts → distinct ts ≤ sum_by (λ j. distinct (filter (tag_of_job j) ts)) jobs
distinct_of_jobs [] [] all = omega (arith, set.len-empty tag_cmp)
distinct_of_jobs [] (t ∷ ts) all = absurd (false≢true all.0)
distinct_of_jobs (j ∷ js) ts all =
    omega (
      arith,
      distinct-split (tag_of_job j) ts,
      distinct_of_jobs js (filter (λ u. not (tag_of_job j u)) ts) (of_others j js ts all),
      fewer_in_all j ts js,
      sum_by-cons (λ j. distinct (filter (tag_of_job j) ts)) j js,
    )

apart_from : (x q : Tag) (xs : List Tag) → list_any (eq_by_cmp tag_cmp x) xs ≡ false → list_any (eq_by_cmp tag_cmp q) xs ≡ true → eq_by_cmp tag_cmp q x ≡ false
apart_from x q xs new there =
    elim (eq_by_cmp tag_cmp q x) as (λ b. eq_by_cmp tag_cmp q x ≡ b → b ≡ false) [
      | true ↦ λ same. absurd (false≢true (sym new ∙ ap (λ t. list_any (eq_by_cmp tag_cmp t) xs) (sym (same_tag q x same)) ∙ there))
      | false ↦ λ e. refl
    ] refl

none_filter : (t : Tag) (ts : List Tag) → list_any (eq_by_cmp tag_cmp t) ts ≡ false → filter (eq_by_cmp tag_cmp t) ts ≡ []
none_filter t [] none = refl
none_filter t (u ∷ us) none =
    elim (eq_by_cmp tag_cmp t u) as (λ b. (b || list_any (eq_by_cmp tag_cmp t) us) ≡ false → cond b (u ∷ filter (eq_by_cmp tag_cmp t) us) (filter (eq_by_cmp tag_cmp t) us) ≡ []) [
      | true ↦ λ e. absurd (false≢true (sym e))
      | false ↦ λ e. none_filter t us e
    ] none

still : (t : Tag) (ts : List Tag) → list_any (eq_by_cmp tag_cmp t) (filter (eq_by_cmp tag_cmp t) ts) ≡ list_any (eq_by_cmp tag_cmp t) ts
still t [] = refl
still t (u ∷ us) =
    elim (eq_by_cmp tag_cmp t u) as (λ b. eq_by_cmp tag_cmp t u ≡ b → list_any (eq_by_cmp tag_cmp t) (cond b (u ∷ filter (eq_by_cmp tag_cmp t) us) (filter (eq_by_cmp tag_cmp t) us)) ≡ (b || list_any (eq_by_cmp tag_cmp t) us)) [
      | true ↦ λ e. or_left _ _ e
      | false ↦ λ e. still t us
    ] refl

mutual_one : (t : Tag) (us : List Tag) (b : Bool) → list_any (eq_by_cmp tag_cmp t) us ≡ b → (b ≡ true → distinct (filter (eq_by_cmp tag_cmp t) us) ≡ 1) → distinct (t ∷ filter (eq_by_cmp tag_cmp t) us) ≡ 1
mutual_one t us true there one = distinct_more t (filter (eq_by_cmp tag_cmp t) us) ∙ ap (λ b. cond b (distinct (filter (eq_by_cmp tag_cmp t) us)) (distinct (filter (eq_by_cmp tag_cmp t) us) + 1)) (still t us ∙ there) ∙ one refl
mutual_one t us false none one =
    distinct_more t (filter (eq_by_cmp tag_cmp t) us) ∙ ap (λ b. cond b (distinct (filter (eq_by_cmp tag_cmp t) us)) (distinct (filter (eq_by_cmp tag_cmp t) us) + 1)) (still t us ∙ none)
    ∙ ap (λ ts. distinct ts + 1) (none_filter t us none) ∙ ap (λ n. n + 1) (set.len-empty tag_cmp)

-- only one tag, if one stands there
only_one : (t : Tag) (ts : List Tag) → list_any (eq_by_cmp tag_cmp t) ts ≡ true → distinct (filter (eq_by_cmp tag_cmp t) ts) ≡ 1
only_one t [] there = absurd (false≢true there)
only_one t (u ∷ us) there =
    let rest = λ (e : list_any (eq_by_cmp tag_cmp t) us ≡ true). only_one t us e in
    elim (eq_by_cmp tag_cmp t u) as (λ b. eq_by_cmp tag_cmp t u ≡ b → (b || list_any (eq_by_cmp tag_cmp t) us) ≡ true → distinct (cond b (u ∷ filter (eq_by_cmp tag_cmp t) us) (filter (eq_by_cmp tag_cmp t) us)) ≡ 1) [
      | true ↦ λ same here. ap (λ v. distinct (v ∷ filter (eq_by_cmp tag_cmp t) us)) (sym (same_tag t u same)) ∙ mutual_one t us (list_any (eq_by_cmp tag_cmp t) us) refl rest
      | false ↦ λ other later. rest later
    ] refl there

without : Tag → List Tag → List Tag
without t ts = filter (λ u. not (eq_by_cmp tag_cmp t u)) ts

one_less : (t : Tag) (ts : List Tag) → list_any (eq_by_cmp tag_cmp t) ts ≡ true → distinct ts ≡ 1 + distinct (without t ts)
unfolding without
one_less t ts there = distinct-split (eq_by_cmp tag_cmp t) ts ∙ ap (λ n. n + distinct (filter (λ u. not (eq_by_cmp tag_cmp t u)) ts)) (only_one t ts there)

kept_without : (t q : Tag) (ts : List Tag) → eq_by_cmp tag_cmp q t ≡ false → list_any (eq_by_cmp tag_cmp q) ts ≡ true → list_any (eq_by_cmp tag_cmp q) (without t ts) ≡ true
unfolding without
kept_without t q [] other there = there
kept_without t q (u ∷ us) other there =
    let rest = λ (e : list_any (eq_by_cmp tag_cmp q) us ≡ true). kept_without t q us other e in
    elim (eq_by_cmp tag_cmp t u) as (λ b. eq_by_cmp tag_cmp t u ≡ b → list_any (eq_by_cmp tag_cmp q) (cond (not b) (u ∷ filter (λ v. not (eq_by_cmp tag_cmp t v)) us) (filter (λ v. not (eq_by_cmp tag_cmp t v)) us)) ≡ true) [
      | true ↦ λ same. elim (or_cases (eq_by_cmp tag_cmp q u) (list_any (eq_by_cmp tag_cmp q) us) there) [
        | inl here ↦ absurd (false≢true (sym other ∙ ap (eq_by_cmp tag_cmp q) (same_tag t u same) ∙ here))
        | inr later ↦ rest later
      ]
      | false ↦ λ apart. elim (or_cases (eq_by_cmp tag_cmp q u) (list_any (eq_by_cmp tag_cmp q) us) there) [
        | inl here ↦ or_left _ _ here
        | inr later ↦ or_right _ _ (rest later)
      ]
    ] refl

-- each tag of one list stands in the other
pub no_fewer : (xs ys : List Tag) → ((q : Tag) → list_any (eq_by_cmp tag_cmp q) xs ≡ true → list_any (eq_by_cmp tag_cmp q) ys ≡ true) → distinct xs ≤ distinct ys
no_fewer [] ys all = omega (arith, set.len-empty tag_cmp)
no_fewer (x ∷ xs) ys all =
    let more = distinct_more x xs in
    elim (list_any (eq_by_cmp tag_cmp x) xs) as (λ b. list_any (eq_by_cmp tag_cmp x) xs ≡ b → distinct (x ∷ xs) ≤ distinct ys) [
      | true ↦ λ again.
          let same : distinct (x ∷ xs) ≡ distinct xs = more ∙ ap (λ b. cond b (distinct xs) (distinct xs + 1)) again in
          let rest = no_fewer xs ys (λ q there. all q (or_right _ _ there)) in
          omega (arith, same, rest)
      | false ↦ λ new.
          let one : distinct (x ∷ xs) ≡ distinct xs + 1 = more ∙ ap (λ b. cond b (distinct xs) (distinct xs + 1)) new in
          let less = one_less x ys (all x (or_left _ _ (tag-itself x))) in
          let rest = no_fewer xs (without x ys) (λ q there. kept_without x q ys (apart_from x q xs new there) (all q (or_right _ _ there))) in
          omega (arith, one, less, rest)
    ] refl

-- no more different tags than there are
pub few_distinct : (ts : List Tag) → distinct ts ≤ length ts
few_distinct [] = omega (arith, set.len-empty tag_cmp)
few_distinct (t ∷ ts) =
    let more = distinct_more t ts in
    let rest = few_distinct ts in
    elim (is_in_list t ts) as (λ b. is_in_list t ts ≡ b → distinct (t ∷ ts) ≤ length (t ∷ ts)) [
      | true ↦ λ again. let same : distinct (t ∷ ts) ≡ distinct ts = more ∙ ap (λ b. cond b (distinct ts) (distinct ts + 1)) again in omega (arith, same, rest)
      | false ↦ λ new. let one : distinct (t ∷ ts) ≡ distinct ts + 1 = more ∙ ap (λ b. cond b (distinct ts) (distinct ts + 1)) new in omega (arith, one, rest)
    ] refl

-- the first tags of a job
abbrev pub first_tags : ℕ → ℕ → ℕ → List Tag
first_tags job a n = map (λ k. record { job = job; k = k }) (range_with_len a n)

first_in : (job a n : ℕ) (t : Tag) → is_in_list t (first_tags job a n) ≡ true → a ≤ t.k
first_in job a zero t is = absurd (false≢true is)
first_in job a (suc n) t is =
    elim (or_cases (eq_by_cmp tag_cmp t (record { job = job; k = a })) (is_in_list t (first_tags job (a + 1) n)) is) [
      | inl here ↦ let same = ap (λ (u : Tag). u.k) (same_tag t (record { job = job; k = a }) here) in omega (arith, same)
      | inr later ↦ let rest = first_in job (a + 1) n t later in omega (arith, rest)
    ]

pub in_first : (job a n : ℕ) (t : Tag) → t.job ≡ job → a ≤ t.k → t.k < a + n → is_in_list t (first_tags job a n) ≡ true
in_first job a zero t own low high = absurd (omega (arith, low, high))
in_first job a (suc n) t own low high =
    elim (eqb t.k a) as (λ b. eqb t.k a ≡ b → is_in_list t (first_tags job a (suc n)) ≡ true) [
      | true ↦ λ same.
          let is : t ≡ record { job = job; k = a } = (λ i. record { job = own i; k = eqb-true t.k a same i }) in
          or_left _ _ (ap (eq_by_cmp tag_cmp t) (sym is) ∙ tag-itself t)
      | false ↦ λ other. or_right _ _ (in_first job (a + 1) n t own (grind (arith, nat_tests)) (omega (arith, high)))
    ] refl

-- they are all different
pub first_distinct : (job a n : ℕ) → distinct (first_tags job a n) ≡ n
first_distinct job a zero = set.len-empty tag_cmp
first_distinct job a (suc n) =
    distinct_more (record { job = job; k = a }) (first_tags job (a + 1) n)
    ∙ ap (λ b. cond b (distinct (first_tags job (a + 1) n)) (distinct (first_tags job (a + 1) n) + 1)) new
    ∙ (let rest = first_distinct job (a + 1) n in omega (arith, rest))
  where
    not_there : (b : Bool) → is_in_list (record { job = job; k = a }) (first_tags job (a + 1) n) ≡ b → b ≡ false
    not_there true is = let low = first_in job (a + 1) n (record { job = job; k = a }) is in absurd (omega (arith, low))
    not_there false is = refl

    new : is_in_list (record { job = job; k = a }) (first_tags job (a + 1) n) ≡ false
    new = not_there _ refl
