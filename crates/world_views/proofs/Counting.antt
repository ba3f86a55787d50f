-- How many different tags a list has, and how many of them are of each job.
use Rattle.std.proofs.Common.{◌≡◌, ◌≢◌, ℕ, zero, suc, ◌+◌, ◌<◌, ◌≤◌, refl, sym, ap, ◌∙◌, Bool, true, false, cond, eqb, ◌||◌, List, [], ◌∷◌, length, arith}
use Rattle.std.proofs.lemmas.Bool.{eq-eqb, eqb-true}
use Rattle.std.proofs.lemmas.List.Sums.{sum_by-cons}
use Rattle.std.specs.FinSet as set
use Rattle.std.specs.List.{AllByRecursion, Contains, filter, list_any, sum_by}
use Rattle.std.specs.Prelude.{slice_index_or}
use Rattle.std.specs.Ordering.{eq_by_cmp}
use Rattle.lwc_base.proofs.Facts.{orders}
use Rattle.lwc_types.specs.Names.{tag_cmp}
use Rattle.lwc_types.specs.declared.name.Tag.{Tag}
use Rattle.lwc_types.proofs.Orders.{same_tag}
use Rattle.world_views.specs.JobFrames.{different}

-- whether a tag is of a job
abbrev pub tag_of_job : ℕ → Tag → Bool
tag_of_job job tag = eqb tag.job job

-- whether a tag is in a list
abbrev pub is_in_list : Tag → List Tag → Bool
is_in_list tag ts = list_any (eq_by_cmp tag_cmp tag) ts

-- lists with the same tags have as many different ones
pub same_different : (ts us : List Tag) → ((q : Tag) → is_in_list q ts ≡ is_in_list q us) → different ts ≡ different us
unfolding different
same_different ts us same =
    ap set.len (set.same_set orders.tags orders.one_tag (set.from_list ts) (set.from_list us)
    (λ q. set.contains-from_list orders.tags ts q ∙ same q ∙ sym (set.contains-from_list orders.tags us q)))

-- one tag more is a different one, unless it is in the list
different-more : (t : Tag) (ts : List Tag) → different (t ∷ ts) ≡ cond (is_in_list t ts) (different ts) (different ts + 1)
unfolding different
different-more t ts =
    set.len-insert orders.tags (set.from_list {R = tag_cmp} ts) t
    ∙ ap (λ b. cond b (set.len (set.from_list {R = tag_cmp} ts)) (set.len (set.from_list {R = tag_cmp} ts) + 1)) (set.contains-from_list orders.tags ts t)

different-none : different [] ≡ 0
unfolding different
different-none = set.len-empty tag_cmp

-- a tag of a job is in a list where it is among those of the job
pub in_filter : (job : ℕ) (q : Tag) (ts : List Tag) → is_in_list q (filter (tag_of_job job) ts) ≡ cond (tag_of_job job q) (is_in_list q ts) false
in_filter job q [] = by_job (tag_of_job job q)
  where
    by_job : (b : Bool) → false ≡ cond b false false
    by_job true = refl
    by_job false = refl
in_filter job q (t ∷ ts) = by_first (in_filter job q ts) (tag_of_job job t) refl (eq_by_cmp tag_cmp q t) refl
  where
    other_job : (a c : Bool) → a ≡ false → cond a c false ≡ cond a true false
    other_job a c is = (λ i. cond (is i) c false) ∙ sym (λ i. cond (is i) true false)

    by_first : is_in_list q (filter (tag_of_job job) ts) ≡ cond (tag_of_job job q) (is_in_list q ts) false → (b : Bool) → tag_of_job job t ≡ b → (c : Bool) → eq_by_cmp tag_cmp q t ≡ c →
        is_in_list q (cond b (t ∷ filter (tag_of_job job) ts) (filter (tag_of_job job) ts)) ≡ cond (tag_of_job job q) (c || is_in_list q ts) false
    by_first rest true own true same =
        ap (λ c. c || is_in_list q (filter (tag_of_job job) ts)) same ∙ sym (ap (λ b. cond b true false) (ap (tag_of_job job) (same_tag q t same) ∙ own))
    by_first rest true own false other = ap (λ c. c || is_in_list q (filter (tag_of_job job) ts)) other ∙ rest
    by_first rest false apart true same = rest ∙ other_job (tag_of_job job q) (is_in_list q ts) (ap (tag_of_job job) (same_tag q t same) ∙ apart)
    by_first rest false apart false other = rest

-- what one tag more adds to the different ones, and to those of a job
adds : Tag → List Tag → ℕ
adds t ts = cond (is_in_list t ts) 0 1

add_all : (t : Tag) (ts : List Tag) → different (t ∷ ts) ≡ different ts + adds t ts
unfolding adds
add_all t ts = different-more t ts ∙ by_there (is_in_list t ts)
  where
    by_there : (b : Bool) → cond b (different ts) (different ts + 1) ≡ different ts + cond b 0 1
    by_there true = omega arith
    by_there false = refl

add_own : (job : ℕ) (t : Tag) (ts : List Tag) → different (filter (tag_of_job job) (t ∷ ts)) ≡ different (filter (tag_of_job job) ts) + cond (tag_of_job job t) (adds t ts) 0
unfolding adds
add_own job t ts = by_job (tag_of_job job t) refl
  where
    by_job : (b : Bool) → tag_of_job job t ≡ b → different (cond b (t ∷ filter (tag_of_job job) ts) (filter (tag_of_job job) ts)) ≡ different (filter (tag_of_job job) ts) + cond b (cond (is_in_list t ts) 0 1) 0
    by_job true own =
        add_all t (filter (tag_of_job job) ts)
        ∙ ap (λ b. different (filter (tag_of_job job) ts) + cond b 0 1) (in_filter job t ts ∙ ap (λ b. cond b (is_in_list t ts) false) own)
    by_job false apart = omega arith

-- two jobs have no more different tags than there are
pub two_jobs : (i j : ℕ) → i ≢ j → (ts : List Tag) → different (filter (tag_of_job i) ts) + different (filter (tag_of_job j) ts) ≤ different ts
two_jobs i j apart [] = omega (arith, different-none)
two_jobs i j apart (t ∷ ts) =
    let most = at_most_one (adds t ts) (tag_of_job i t) refl (tag_of_job j t) refl in
    omega (arith, two_jobs i j apart ts, add_all t ts, add_own i t ts, add_own j t ts, most)
  where
    at_most_one : (n : ℕ) (a : Bool) → tag_of_job i t ≡ a → (b : Bool) → tag_of_job j t ≡ b → cond a n 0 + cond b n 0 ≤ n
    at_most_one n true one true two = absurd (apart (sym (eqb-true t.job i one) ∙ eqb-true t.job j two))
    at_most_one n true one false two = omega arith
    at_most_one n false one true two = omega arith
    at_most_one n false one false two = omega arith

-- all jobs together have as many as there are, where each tag is of one of them
add_each : (t : Tag) (ts : List Tag) (jobs : List ℕ) →
    sum_by (λ j. different (filter (tag_of_job j) (t ∷ ts))) jobs ≡ sum_by (λ j. different (filter (tag_of_job j) ts)) jobs + sum_by (λ j. cond (tag_of_job j t) (adds t ts) 0) jobs
add_each t ts [] = refl
add_each t ts (j ∷ js) =
    omega (
      arith,
      add_each t ts js,
      add_own j t ts,
      sum_by-cons (λ j. different (filter (tag_of_job j) (t ∷ ts))) j js,
      sum_by-cons (λ j. different (filter (tag_of_job j) ts)) j js,
      sum_by-cons (λ j. cond (tag_of_job j t) (adds t ts) 0) j js,
    )

in_one : (t : Tag) (n : ℕ) (jobs : List ℕ) (k : ℕ) → k < length jobs → slice_index_or jobs k t.job ≡ t.job → n ≤ sum_by (λ j. cond (tag_of_job j t) n 0) jobs
in_one t n [] k small is = absurd (omega (arith, small))
in_one t n (j ∷ js) zero small is =
    let here : cond (tag_of_job j t) n 0 ≡ n = ap (λ b. cond b n 0) (eq-eqb t.job j (sym is)) in
    omega (arith, here, sum_by-cons (λ j. cond (tag_of_job j t) n 0) j js)
in_one t n (j ∷ js) (suc k) small is =
    let rest = in_one t n js k (omega (arith, small)) is in
    omega (arith, rest, sum_by-cons (λ j. cond (tag_of_job j t) n 0) j js)

pub all_jobs : (jobs : List ℕ) (ts : List Tag) → AllByRecursion (λ t. Contains jobs t.job) ts → different ts ≤ sum_by (λ j. different (filter (tag_of_job j) ts)) jobs
all_jobs jobs [] all = omega (arith, different-none)
all_jobs jobs (t ∷ ts) all =
    omega (arith, all_jobs jobs ts all.1, add_all t ts, add_each t ts jobs, in_one t (adds t ts) jobs all.0.0 all.0.1 all.0.2)
