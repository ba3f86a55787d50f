-- The frames in use, by the tags of each job.
use Rattle.std.proofs.Common.{◌≡◌, ◌≢◌, inl, inr, ℕ, zero, suc, ◌+◌, ◌*◌, ◌≤◌, ◌<◌, refl, sym, ap, ◌∙◌, Bool, true, false, cond, eqb, ◌||◌, List, [], ◌∷◌, length, arith}
use Rattle.std.specs.Prelude.{not}
use Rattle.std.specs.List.{filter, flat_map, list_any, range_with_len, sum_by}
use Rattle.std.specs.Ordering.{eq_by_cmp}
use Rattle.std.proofs.Math.Nat.{suc-mul}
use Rattle.std.proofs.lemmas.Bool.{eqb-true, false≢true, or_cases}
use Rattle.std.proofs.lemmas.Bool.Decides.{nat_tests}
use Rattle.std.proofs.lemmas.List.{length-append}
use Rattle.std.proofs.lemmas.List.FromFn.{length-map-range_with_len, length-range_with_len}
use Rattle.std.proofs.lemmas.List.Sums.{sum_by-cons}
use Rattle.std.specs.FinMap as fm
use Rattle.lwc_base.specs.Frames.{own_value, tag_of, tags, tags_of_context, tags_of_group, used}
use Rattle.lwc_base.specs.World.{Context, Group, World}
use Rattle.lwc_types.specs.Names.{tag_cmp}
use Rattle.lwc_types.specs.declared.key.Key.TheVariants.{Page}
use Rattle.lwc_types.specs.declared.name.Name.{Name}
use Rattle.lwc_types.specs.declared.name.Tag.{Tag}
use Rattle.request_isolation.proofs.Taking.{names_of}
use Rattle.request_isolation.proofs.Counting.{OfJobs, any_filter, distinct, distinct-split, distinct_of_jobs, few_distinct, first_distinct, first_tags, in_first, no_fewer}
use Rattle.world_views.proofs.Counting.{is_in_list, tag_of_job}
use Rattle.lwc_base.proofs.Life.{or_right}
use Rattle.lwc_base.proofs.Tags.{one_tag}
use Rattle.lwc_types.proofs.Orders.{same_tag, tag-itself}

-- the tag of a number
abbrev new_tag : ℕ → ℕ → Tag
new_tag j k = record { job = j; k = k }

-- the frames of a job
abbrev pub used_by : ℕ → World → ℕ
used_by j w = distinct (filter (tag_of_job j) (tags w))

-- what a filter leaves
of_filter : (test : Tag → Bool) (t : Tag) (ts : List Tag) → is_in_list t (filter test ts) ≡ true → (test t ≡ true) × (is_in_list t ts ≡ true)
of_filter test t [] is = absurd (false≢true is)
of_filter test t (u ∷ us) is = by_test (test u) refl is (λ later. of_filter test t us later)
  where
    by_test : (b : Bool) → test u ≡ b → is_in_list t (cond b (u ∷ filter test us) (filter test us)) ≡ true → (is_in_list t (filter test us) ≡ true → (test t ≡ true) × (is_in_list t us ≡ true)) → (test t ≡ true) × (is_in_list t (u ∷ us) ≡ true)
    by_test true passes there rest =
        elim (or_cases (eq_by_cmp tag_cmp t u) (is_in_list t (filter test us)) there) [
          | inl here ↦ (ap test (same_tag t u here) ∙ passes, ap (λ b. b || is_in_list t us) here)
          | inr later ↦ let found = rest later in (found.0, or_right (eq_by_cmp tag_cmp t u) _ found.1)
        ]
    by_test false fails there rest = let found = rest there in (found.0, or_right (eq_by_cmp tag_cmp t u) _ found.1)

in_filter : (test : Tag → Bool) (t : Tag) (ts : List Tag) → test t ≡ true → is_in_list t ts ≡ true → is_in_list t (filter test ts) ≡ true
in_filter test t ts passes is = sym (any_filter test t ts passes) ∙ is

of_jobs : (jobs : List ℕ) (ts : List Tag) → ((t : Tag) → is_in_list t ts ≡ true → list_any (λ j. eqb t.job j) jobs ≡ true) → OfJobs jobs ts
of_jobs jobs [] all = tt
of_jobs jobs (t ∷ ts) all =
    (all t (ap (λ b. b || is_in_list t ts) (tag-itself t)), of_jobs jobs ts (λ u there. all u (or_right (eq_by_cmp tag_cmp u t) _ there)))

-- a job has no more frames where each tag of it is in another world too
pub used_by_most : (j : ℕ) (w v : World) → ((t : Tag) → t.job ≡ j → is_in_list t (tags w) ≡ true → is_in_list t (tags v) ≡ true) → used_by j w ≤ used_by j v
used_by_most j w v all =
    no_fewer (filter (tag_of_job j) (tags w)) (filter (tag_of_job j) (tags v))
    (λ t there. let found = of_filter (tag_of_job j) t (tags w) there in in_filter (tag_of_job j) t (tags v) found.0 (all t (eqb-true t.job j found.0) found.1))

-- a job that has taken this number of tags has no more frames
pub used_by_taken : (j n : ℕ) (w : World) → ((t : Tag) → t.job ≡ j → is_in_list t (tags w) ≡ true → t.k < n) → used_by j w ≤ n
used_by_taken j n w all =
    let few = no_fewer (filter (tag_of_job j) (tags w)) (first_tags j 0 n)
    (λ t there. let found = of_filter (tag_of_job j) t (tags w) there in in_first j 0 n t (eqb-true t.job j found.0) (omega arith) (let low = all t (eqb-true t.job j found.0) found.1 in omega (arith, low))) in
    let many = few_distinct (first_tags j 0 n) in
    let count : length (first_tags j 0 n) ≡ n = length-map-range_with_len (λ (k : ℕ). new_tag j k) 0 n in
    omega (arith, few, many, count)

-- beside the frames of a job, a world uses those of the image
pub used_least : (j pages : ℕ) (w : World) → j ≢ 0 → ((k : ℕ) → k < pages → is_in_list (record { job = 0; k = k }) (tags w) ≡ true) → pages + used_by j w ≤ used w
unfolding used
used_least j pages w some_job all =
    let split = distinct-split (tag_of_job 0) (tags w) in
    let image : pages ≤ distinct (filter (tag_of_job 0) (tags w)) =
    let few = no_fewer (first_tags 0 0 pages) (filter (tag_of_job 0) (tags w)) (λ t there. first_there t there) in
    let many = first_distinct 0 0 pages in omega (arith, few, many) in
    let own : used_by j w ≤ distinct (filter (λ t. not (tag_of_job 0 t)) (tags w)) =
    no_fewer (filter (tag_of_job j) (tags w)) (filter (λ t. not (tag_of_job 0 t)) (tags w))
    (λ t there. let found = of_filter (tag_of_job j) t (tags w) there in in_filter (λ t. not (tag_of_job 0 t)) t (tags w) (not_first t (eqb-true t.job j found.0)) found.1) in
    omega (arith, split, image, own)
  where
    not_first : (t : Tag) → t.job ≡ j → not (eqb t.job 0) ≡ true
    not_first t own = by_test (eqb t.job 0) refl
      where
        by_test : (b : Bool) → eqb t.job 0 ≡ b → not b ≡ true
        by_test true is = absurd (some_job (sym own ∙ eqb-true t.job 0 is))
        by_test false is = refl

    first_at : (a n : ℕ) (t : Tag) → a + n ≤ pages → is_in_list t (first_tags 0 a n) ≡ true → (t.job ≡ 0) × (is_in_list t (tags w) ≡ true)
    first_at a zero t few there = absurd (false≢true there)
    first_at a (suc n) t few there =
        elim (or_cases (eq_by_cmp tag_cmp t (record { job = 0; k = a })) (is_in_list t (first_tags 0 (a + 1) n)) there) [
          | inl here ↦
              let same = same_tag t (record { job = 0; k = a }) here in
              (ap (λ (u : Tag). u.job) same, ap (λ (u : Tag). is_in_list u (tags w)) same ∙ all a (omega (arith, few)))
          | inr later ↦ first_at (a + 1) n t (omega (arith, few)) later
        ]

    first_there : (t : Tag) → is_in_list t (first_tags 0 0 pages) ≡ true → is_in_list t (filter (tag_of_job 0) (tags w)) ≡ true
    first_there t there =
        let found = first_at 0 pages t (omega arith) there in
        in_filter (tag_of_job 0) t (tags w) (let is : eqb t.job 0 ≡ true = ap (λ j. eqb j 0) found.0 in is) found.1

sum_most : (f : ℕ → ℕ) (most : ℕ) (jobs : List ℕ) → ((j : ℕ) → list_any (eqb j) jobs ≡ true → f j ≤ most) → sum_by f jobs ≤ length jobs * most
sum_most f most [] all = omega arith
sum_most f most (j ∷ js) all =
    let first = all j (ap (λ b. b || list_any (eqb j) js) (let is : eqb j j ≡ true = grind (arith, nat_tests) in is)) in
    let rest = sum_most f most js (λ i there. all i (or_right (eqb i j) _ there)) in
    let more : suc (length js) * most ≡ length js * most + most = suc-mul (length js) most in
    omega (arith, first, rest, more, sum_by-cons f j js)

-- a world uses at most the image's frames, and for each job at most what each of them has
pub used_most : (pages most : ℕ) (jobs : List ℕ) (w : World) → ((t : Tag) → is_in_list t (tags w) ≡ true → list_any (λ j. eqb t.job j) (0 ∷ jobs) ≡ true) →
    ((t : Tag) → t.job ≡ 0 → is_in_list t (tags w) ≡ true → t.k < pages) → ((j : ℕ) → list_any (eqb j) jobs ≡ true → used_by j w ≤ most) → used w ≤ pages + length jobs * most
unfolding used
used_most pages most jobs w of_all first each =
    let sum = distinct_of_jobs (0 ∷ jobs) (tags w) (of_jobs (0 ∷ jobs) (tags w) of_all) in
    let image = used_by_taken 0 pages w first in
    let others = sum_most (λ j. used_by j w) most jobs each in
    omega (arith, sum, image, others, sum_by-cons (λ j. used_by j w) 0 jobs)

-- a world uses at most as many frames as its contexts and groups have pages
flat_few : {X : Type 0} (f : X → List Tag) (most : ℕ) → ((x : X) → length (f x) ≤ most) → (xs : List X) → length (flat_map f xs) ≤ length xs * most
flat_few f most few [] = omega arith
flat_few f most few (x ∷ xs) =
    let first = few x in
    let rest = flat_few f most few xs in
    let all = length-append (f x) (flat_map f xs) in
    let more : suc (length xs) * most ≡ length xs * most + most = suc-mul (length xs) most in
    omega (arith, first, rest, all, more)

few_pages : (f : ℕ → List Tag) (pages : ℕ) → ((p : ℕ) → length (f p) ≤ 1) → length (flat_map f (range_with_len 0 pages)) ≤ pages
few_pages f pages one = let all = flat_few f 1 one (range_with_len 0 pages) in let many = length-range_with_len 0 pages in omega (arith, all, many)

pub used_names : (w : World) → used w ≤ names_of w * w.size.pages
unfolding used tags tags_of_context tags_of_group
used_names w =
    let pages = w.size.pages in
    let few = few_distinct (tags w) in
    let contexts = flat_few (λ (e : Name × Context). tags_of_context pages e.1) pages (λ e. few_pages (λ p. tag_of (own_value (e.1.cell (Page p)))) pages (λ p. one_tag (own_value (e.1.cell (Page p))))) (fm.entries w.contexts) in
    let groups = flat_few (λ (e : Name × Group). tags_of_group pages e.1) pages (λ e. few_pages (λ p. tag_of (e.1.value (Page p))) pages (λ p. one_tag (e.1.value (Page p)))) (fm.entries w.groups) in
    let all = length-append (flat_map (λ (e : Name × Context). tags_of_context pages e.1) (fm.entries w.contexts)) (flat_map (λ (e : Name × Group). tags_of_group pages e.1) (fm.entries w.groups)) in
    let both : names_of w * pages ≡ length (fm.entries w.contexts) * pages + length (fm.entries w.groups) * pages =
    ap (λ (n : ℕ). n * pages) (λ i. fm.len-entries w.contexts i + fm.len-entries w.groups i) ∙ times_sum (length (fm.entries w.contexts)) (length (fm.entries w.groups)) pages in
    omega (arith, few, contexts, groups, all, both)
  where
    times_sum : (a b c : ℕ) → (a + b) * c ≡ a * c + b * c
    times_sum zero b c = omega arith
    times_sum (suc a) b c = let rest = times_sum a b c in let left = suc-mul (a + b) c in let right = suc-mul a c in let same : suc a + b ≡ suc (a + b) = omega arith in let moved : (suc a + b) * c ≡ suc (a + b) * c = ap (λ (n : ℕ). n * c) same in omega (arith, rest, left, right, moved)
