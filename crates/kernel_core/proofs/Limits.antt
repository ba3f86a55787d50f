-- Where there is a place for one more context or group, and what keeps a world within its limits.
use Rattle.std.proofs.Common.{◌≡◌, ℕ, zero, suc, ◌+◌, ◌*◌, ◌≤◌, ◌<◌, refl, sym, ap, ◌∙◌, Bool, true, false, cond, eqb, ◌||◌, List, [], ◌∷◌, length, get_or, arith}
use Rattle.std.specs.FinMap as fm
use Rattle.std.specs.List.{Contains, list_any, sum_by}
use Rattle.std.specs.Ordering.{eq_by_cmp}
use Rattle.std.specs.Prelude.{count_by}
use Rattle.std.proofs.lemmas.Bool.Decides.{nat_tests}
use Rattle.std.proofs.lemmas.List.{length-map}
use Rattle.std.proofs.lemmas.List.Sums.{sum_by-cons}
use Rattle.guest_image.specs.declared.image.Form.{Form}
use Rattle.kernel_core.specs.Ready.{IsWithinLimits}
use Rattle.kernel_core.specs.Start.{world_size}
use Rattle.lwc_base.specs.World.{World, groups_of, live_of}
use Rattle.lwc_types.specs.Names.{name_cmp}
use Rattle.lwc_types.specs.declared.name.Name.{Name}
use Rattle.lwc_create.specs.Create.{HasPlaces}
use Rattle.world_face.specs.Calls.{HasPlace}
use Rattle.lwc_base.proofs.Life.{or_right}
use Rattle.lwc_types.proofs.Orders.{name-itself}

abbrev num : Bool → ℕ
num b = cond b 1 0

-- the number of names that bear a job
abbrev borne : List Name → ℕ → ℕ
borne names job = count_by (λ c. eqb c.job job) names

counted_first : (job : ℕ) (c : Name) (names : List Name) → borne (c ∷ names) job ≡ num (eqb c.job job) + borne names job
counted_first job c names = sum_by-cons (λ x. num (eqb x.job job)) c names

no_fewer : (c : Name) (names : List Name) (jobs : List ℕ) → sum_by (borne names) jobs ≤ sum_by (borne (c ∷ names)) jobs
no_fewer c names [] = omega arith
no_fewer c names (j ∷ jobs) =
    omega (arith, sum_by-cons (borne names) j jobs, sum_by-cons (borne (c ∷ names)) j jobs, counted_first j c names, no_fewer c names jobs)

-- a name that bears one of the jobs counts
one_more : (c : Name) (names : List Name) (jobs : List ℕ) (k : ℕ) → k < length jobs → get_or jobs k c.job ≡ c.job →
    sum_by (borne names) jobs + 1 ≤ sum_by (borne (c ∷ names)) jobs
one_more c names [] k within is = absurd (omega arith)
one_more c names (j ∷ jobs) zero within is =
    let same : num (eqb c.job j) ≡ 1 = grind (arith, nat_tests) in
    omega (arith, sum_by-cons (borne names) j jobs, sum_by-cons (borne (c ∷ names)) j jobs, counted_first j c names, same, no_fewer c names jobs)
one_more c names (j ∷ jobs) (suc k) within is =
    omega (arith, sum_by-cons (borne names) j jobs, sum_by-cons (borne (c ∷ names)) j jobs, counted_first j c names, one_more c names jobs k (omega arith) is)

-- names that each bear one of the jobs are no more than the jobs have
few_names : (names : List Name) (jobs : List ℕ) →
    ((q : Name) → list_any (eq_by_cmp name_cmp q) names ≡ true → Contains jobs q.job) → length names ≤ sum_by (borne names) jobs
few_names [] jobs each = omega arith
few_names (c ∷ names) jobs each =
    let here : Contains jobs c.job = each c (ap (λ b. b || list_any (eq_by_cmp name_cmp c) names) (name-itself c)) in
    omega (arith, few_names names jobs (λ q there. each q (or_right (eq_by_cmp name_cmp q c) _ there)), one_more c names jobs here.0 here.1 here.2)

-- jobs with at most this many each
few_in_all : (f : ℕ → ℕ) (most : ℕ) (jobs : List ℕ) → ((job : ℕ) → f job ≤ most) → sum_by f jobs ≤ length jobs * most
few_in_all f most [] each = omega arith
few_in_all f most (j ∷ jobs) each = omega (arith, sum_by-cons f j jobs, each j, few_in_all f most jobs each)

-- where one of them has fewer
fewer_in_all : (f : ℕ → ℕ) (most job : ℕ) (jobs : List ℕ) (k : ℕ) → k < length jobs → get_or jobs k job ≡ job → ((j : ℕ) → f j ≤ most) → f job < most →
    sum_by f jobs < length jobs * most
fewer_in_all f most job [] k within is each fewer = absurd (omega arith)
fewer_in_all f most job (j ∷ jobs) zero within is each fewer =
    omega (arith, sum_by-cons f j jobs, ap f is, few_in_all f most jobs each)
fewer_in_all f most job (j ∷ jobs) (suc k) within is each fewer =
    omega (arith, sum_by-cons f j jobs, each j, fewer_in_all f most job jobs k (omega arith) is each fewer)

pub length_of_keys : {X : Type 0} (m : fm.FinMap name_cmp X) → fm.len m ≡ length (fm.keys m)
length_of_keys m = fm.len-entries m ∙ sym (length-map (fm.entries m) (λ e. e.0))

-- within the limits there is a place for one more context
pub has_place : (form : Form) (frames : ℕ) (w : World) (jobs : List ℕ) → w.size ≡ world_size form frames → IsWithinLimits w jobs → length jobs ≤ 16 → HasPlace w
unfolding live_of
has_place form frames w jobs size limits few =
    let names = few_names (fm.keys w.contexts) (0 ∷ jobs) (λ q live. limits.contexts q (fm.contains_key-keys w.contexts q ∙ live)) in
    omega (
      arith,
      length_of_keys w.contexts,
      names,
      sum_by-cons (borne (fm.keys w.contexts)) 0 jobs,
      limits.homes,
      few_in_all (borne (fm.keys w.contexts)) 32 jobs limits.few_contexts,
      ap (λ s. s.contexts) size,
    )

-- there are places for a job's next context and group
pub has_places : (form : Form) (frames job : ℕ) (w : World) (jobs : List ℕ) → w.size ≡ world_size form frames →
    IsWithinLimits w jobs → length jobs ≤ 16 → Contains jobs job → HasPlaces w job
unfolding groups_of
has_places form frames job w jobs size limits few there = record {
  context = λ fewer. has_place form frames w jobs size limits few;
  group = λ fewer.
      let names = few_names (fm.keys w.groups) jobs (λ q live. (limits.groups q (fm.contains_key-keys w.groups q ∙ live)).0) in
      omega (
        arith,
        length_of_keys w.groups,
        names,
        fewer_in_all (borne (fm.keys w.groups)) 64 job jobs there.0 there.1 there.2 limits.few_groups fewer,
        ap (λ s. s.groups) size,
      );
}

-- of a job that none of them bears there are none
pub none_borne : (job : ℕ) (names : List Name) → ((q : Name) → list_any (eq_by_cmp name_cmp q) names ≡ true → eqb q.job job ≡ false) → borne names job ≡ 0
none_borne job [] each = refl
none_borne job (c ∷ names) each =
    let here : eqb c.job job ≡ false = each c (ap (λ b. b || list_any (eq_by_cmp name_cmp c) names) (name-itself c)) in
    omega (arith, counted_first job c names, ap num here, none_borne job names (λ q there. each q (or_right (eq_by_cmp name_cmp q c) _ there)))
