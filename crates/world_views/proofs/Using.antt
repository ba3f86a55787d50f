-- The frames that jobs use: those of job 0, which are the home's, and those of each other job.
use Rattle.std.proofs.Common.{◌≡◌, ◌≢◌, inl, inr, ℕ, zero, suc, ◌+◌, ◌<◌, ◌≤◌, refl, sym, ap, subst, ◌∙◌, Bool, true, false, cond, eqb, ◌||◌, Option, Some, None, List, [], ◌∷◌, ◌++◌, arith}
use Rattle.std.proofs.lemmas.Bool.{eq-eqb, eqb-true, false≢true, lt-ltb}
use Rattle.std.proofs.lemmas.Bool.Decides.{nat_tests}
use Rattle.std.proofs.lemmas.Cmp.{eq_by_cmp_equiv}
use Rattle.std.proofs.lemmas.List.Sums.{sum_by-cons}
use Rattle.std.specs.FinMap as fm
use Rattle.std.specs.List.{AllByRecursion, Contains, flat_map, range_with_len, sum_by}
use Rattle.std.specs.Prelude.{count_by, is_some, nat_lt, unwrap_or}
use Rattle.std.specs.Ordering.{eq_by_cmp}
use Rattle.lwc_base.specs.Frames.{own_value, tag_of, tags, tags_of_context, tags_of_group, used}
use Rattle.lwc_base.specs.Holders.{InCell, IsGroup}
use Rattle.lwc_base.specs.World.{World, Context, Group, context, group, is_live, new_context, new_group}
use Rattle.lwc_base.specs.declared.cell.Cell.{Cell}
use Rattle.lwc_base.specs.declared.cell.Cell.TheVariants.{Own, Common}
use Rattle.lwc_base.proofs.Facts.{orders}
use Rattle.lwc_types.specs.Names.{tag_cmp}
use Rattle.lwc_types.specs.Registers.{fresh_registers}
use Rattle.lwc_types.specs.declared.key.Key.TheVariants.{Page}
use Rattle.lwc_types.specs.declared.name.Name.{Name}
use Rattle.lwc_types.specs.declared.name.Tag.{Tag}
use Rattle.lwc_types.specs.declared.page.PageValue.{PageValue}
use Rattle.lwc_types.specs.declared.page.PageValue.TheVariants.{Zero, Data}
use Rattle.lwc_types.proofs.Orders.{same_tag}
use Rattle.lwc_types.proofs.Small.{same_bool}
use Rattle.world_views.proofs.Counting.{all_jobs, in_filter, is_in_list, same_different, tag_of_job, two_jobs}
use Rattle.world_views.proofs.Entries.{each_entry, one_weighs}
use Rattle.world_views.proofs.Tags.{home_found, in_context, in_context-there, in_range, is_tag, one_tag, times, times-alike}
use Rattle.world_views.specs.ByJob.{Home, IsPageOf, KeepsJobs, by_job}
use Rattle.world_views.specs.JobFrames.{AreHomes, different, used_by}
use Rattle.world_views.specs.Views.{view}

-- what holds of each element of each list holds of those of the lists in a row
module _ {Y : Type 0} (P : Y → Type 0) where
  all_append : (xs ys : List Y) → AllByRecursion P xs → AllByRecursion P ys → AllByRecursion P (xs ++ ys)
  all_append [] ys one two = two
  all_append (x ∷ xs) ys one two = (one.0, all_append xs ys one.1 two)

  all_flat : {X : Type 0} (h : X → List Y) (xs : List X) → AllByRecursion (λ x. AllByRecursion P (h x)) xs → AllByRecursion P (flat_map h xs)
  all_flat h [] all = tt
  all_flat h (x ∷ xs) all = all_append (h x) (flat_map h xs) all.0 (all_flat h xs all.1)

  all_range : (h : ℕ → List Y) (n a : ℕ) → ((p : ℕ) → p < a + n → AllByRecursion P (h p)) → AllByRecursion P (flat_map h (range_with_len a n))
  all_range h zero a all = tt
  all_range h (suc n) a all = all_append (h a) _ (all a (omega arith)) (all_range h n (a + 1) (λ p small. all p (omega (arith, small))))

  all_weaker : {Q : Y → Type 0} → ((y : Y) → Q y → P y) → (ys : List Y) → AllByRecursion Q ys → AllByRecursion P ys
  all_weaker f [] all = tt
  all_weaker f (y ∷ ys) all = (f y all.0, all_weaker f ys all.1)

-- a tag is in a list where it is there at least once
in_list-count : (q : Tag) (ts : List Tag) → is_in_list q ts ≡ nat_lt 0 (count_by (is_tag q) ts)
in_list-count q [] = refl
in_list-count q (t ∷ ts) =
    (λ i. (eq_by_cmp_equiv orders.tags).symm q t i || in_list-count q ts i)
    ∙ by_first (is_tag q t) (count_by (is_tag q) ts) ∙ ap (nat_lt 0) (sym (sum_by-cons (λ (u : Tag). cond (is_tag q u) 1 0) t ts))
  where
    by_first : (b : Bool) (n : ℕ) → (b || nat_lt 0 n) ≡ nat_lt 0 (cond b 1 0 + n)
    by_first true n = sym (lt-ltb 0 (1 + n) (omega arith))
    by_first false n = ap (nat_lt 0) (omega arith)

there_once : (q : Tag) (ts : List Tag) → 1 ≤ count_by (is_tag q) ts → is_in_list q ts ≡ true
there_once q ts one = in_list-count q ts ∙ (let many = one in grind (arith, nat_tests))

-- what holds of each tag of a list holds of one that is in it
of_one : (P : Tag → Type 0) (q : Tag) (ts : List Tag) → AllByRecursion P ts → is_in_list q ts ≡ true → P q
of_one P q [] all is = cc
of_one P q (t ∷ ts) all is = by_first (of_one P q ts all.1) (eq_by_cmp tag_cmp q t) refl is
  where
    by_first : (is_in_list q ts ≡ true → P q) → (b : Bool) → eq_by_cmp tag_cmp q t ≡ b → (b || is_in_list q ts) ≡ true → P q
    by_first later true same there = subst P (sym (same_tag q t same)) all.0
    by_first later false other there = later there

-- each tag of a value is there once
each_there : (o : Option PageValue) → AllByRecursion (λ t. 1 ≤ count_by (is_tag t) (tag_of o)) (tag_of o)
each_there None = tt
each_there (Some Zero) = tt
each_there (Some (Data tag bytes)) = (one_tag tag (tag ∷ []) refl, tt)

-- what holds of each tag under a page of a live context, and of a live group, holds of each tag at a holder
all_tags : (P : Tag → Type 0) (w : World) →
    ((c : Name) → is_live w c ≡ true → (p : ℕ) → p < w.size.pages → AllByRecursion P (tag_of (own_value ((context w c).cell (Page p))))) →
    ((g : Name) → IsGroup w g → (p : ℕ) → p < w.size.pages → AllByRecursion P (tag_of ((group w g).value (Page p)))) → AllByRecursion P (tags w)
unfolding tags tags_of_context tags_of_group context group
all_tags P w contexts groups =
    all_append P _ _
    (all_flat P (λ (e : Name × Context). tags_of_context w.size.pages e.1) (fm.entries w.contexts)
    (each_entry (λ q x. AllByRecursion P (tags_of_context w.size.pages x)) w.contexts
    (λ q x is. all_range P _ w.size.pages 0
    (λ p small. subst (λ o. AllByRecursion P (tag_of (own_value ((unwrap_or o (new_context 0 (fresh_registers 0))).cell (Page p))))) is (contexts q (ap is_some is) p (omega (arith, small)))))))
    (all_flat P (λ (e : Name × Group). tags_of_group w.size.pages e.1) (fm.entries w.groups)
    (each_entry (λ q x. AllByRecursion P (tags_of_group w.size.pages x)) w.groups
    (λ q x is. all_range P _ w.size.pages 0
    (λ p small. subst (λ o. AllByRecursion P (tag_of ((unwrap_or o new_group).value (Page p)))) is (groups q (ap is_some is) p (omega (arith, small)))))))

module _ (home : Home) where
  -- a job's frames are the same in two worlds that it sees alike
  pub used_by-alike : (job t s : ℕ) (w v : World) → job ≢ 0 → KeepsJobs home w → KeepsJobs home v → view job t w ≡ view job s v → used_by job w ≡ used_by job v
  unfolding used_by
  used_by-alike job t s w v some keeps_w keeps_v alike =
      same_different _ _ (λ q. in_filter job q (tags w) ∙ by_job q (tag_of_job job q) refl ∙ sym (in_filter job q (tags v)))
    where
      by_job : (q : Tag) (b : Bool) → tag_of_job job q ≡ b → cond b (is_in_list q (tags w)) false ≡ cond b (is_in_list q (tags v)) false
      by_job q true own =
          let is : job ≡ q.job = sym (eqb-true q.job job own) in
          in_list-count q (tags w)
          ∙ ap (nat_lt 0) (times-alike q home (λ p u there. (keeps_w.there.tags p u there).1) (λ none. some (is ∙ none)) t s w v keeps_w.kept keeps_v.kept
          (subst (λ j. view j t w ≡ view j s v) is alike))
          ∙ sym (in_list-count q (tags v))
      by_job q false other = refl

  module _ (w : World) (keeps : KeepsJobs home w) where
    value_job : (P : Tag → Type 0) (job p : ℕ) (o : Option PageValue) → ((tag : Tag) → tag.job ≡ job → P tag) → ((tag : Tag) → home.tags p ≡ Some tag → P tag) → IsPageOf home job p o → AllByRecursion P (tag_of o)
    value_job P job p None own there is = tt
    value_job P job p (Some Zero) own there is = tt
    value_job P job p (Some (Data tag bytes)) own there (inl mine) = (own tag mine, tt)
    value_job P job p (Some (Data tag bytes)) own there (inr at_home) = (there tag at_home, tt)

    cell_job : (P : Tag → Type 0) (job p : ℕ) (cell : Cell (Option PageValue)) → ((tag : Tag) → tag.job ≡ job → P tag) → ((tag : Tag) → home.tags p ≡ Some tag → P tag) →
        InCell (by_job home) job (Page p) cell → AllByRecursion P (tag_of (own_value cell))
    cell_job P job p (Own o) own there is = value_job P job p o own there is
    cell_job P job p (Common g) own there is = tt

    -- all frames are of job 0 and of the jobs that live contexts and groups bear
    pub used-together : (jobs : List ℕ) → ((c : Name) → is_live w c ≡ true → Contains (0 ∷ jobs) c.job) → ((g : Name) → IsGroup w g → Contains (0 ∷ jobs) g.job) →
        used w ≤ used_by 0 w + sum_by (λ j. used_by j w) jobs
    unfolding used used_by different
    used-together jobs contexts groups =
        let zero_job : (tag : Tag) (p : ℕ) → home.tags p ≡ Some tag → Contains (0 ∷ jobs) tag.job =
        λ tag p there. (0, omega arith, sym (keeps.there.tags p tag there).1) in
        let all = all_jobs (0 ∷ jobs) (tags w) (all_tags (λ t. Contains (0 ∷ jobs) t.job) w
        (λ c live p small. cell_job _ c.job p ((context w c).cell (Page p)) (λ tag is. subst (Contains (0 ∷ jobs)) (sym is) (contexts c live)) (λ tag there. zero_job tag p there) (keeps.kept.contexts c live (Page p)))
        (λ g live p small. value_job _ g.job p ((group w g).value (Page p)) (λ tag is. subst (Contains (0 ∷ jobs)) (sym is) (groups g live)) (λ tag there. zero_job tag p there) (keeps.kept.groups g live (Page p)))) in
        omega (arith, all, sum_by-cons (λ j. used_by j w) 0 jobs)

    abbrev at_home : List Tag
    at_home = tags_of_context w.size.pages (context w home.name)

    home_tag : (p : ℕ) (tag : Tag) → home.tags p ≡ Some tag → 1 ≤ count_by (is_tag tag) at_home
    home_tag p tag there = let tags = keeps.there.tags p tag there in in_context-there tag w.size.pages p (context w home.name) tags.0 tags.2

    -- a tag of job 0 is at the home, where all contexts of job 0 are like it
    zero_at_home : AreHomes home.name w → AllByRecursion (λ t. t.job ≡ 0 → 1 ≤ count_by (is_tag t) at_home) (tags w)
    unfolding tags_of_context
    zero_at_home homes =
        all_tags _ w
        (λ c live p small. by_job c live p small (eqb c.job 0) refl)
        (λ g live p small. value_job _ g.job p ((group w g).value (Page p)) (λ tag is none. absurd (homes.groups g live (sym is ∙ none))) (λ tag there none. home_tag p tag there) (keeps.kept.groups g live (Page p)))
      where
        by_job : (c : Name) → is_live w c ≡ true → (p : ℕ) → p < w.size.pages → (b : Bool) → eqb c.job 0 ≡ b →
            AllByRecursion (λ t. t.job ≡ 0 → 1 ≤ count_by (is_tag t) at_home) (tag_of (own_value ((context w c).cell (Page p))))
        by_job c live p small true own =
            subst (λ cell. AllByRecursion (λ t. t.job ≡ 0 → 1 ≤ count_by (is_tag t) at_home) (tag_of (own_value cell))) (sym (homes.contexts c live (eqb-true c.job 0 own) p))
            (all_weaker _ (λ t there none. in_range (is_tag t) (λ q. tag_of (own_value ((context w home.name).cell (Page q)))) p there w.size.pages 0 (omega arith) (omega (arith, small))) _
            (each_there (own_value ((context w home.name).cell (Page p)))))
        by_job c live p small false other =
            cell_job _ c.job p ((context w c).cell (Page p)) (λ tag is none. absurd (false≢true (sym other ∙ eq-eqb c.job 0 (sym is ∙ none)))) (λ tag there none. home_tag p tag there)
            (keeps.kept.contexts c live (Page p))

    -- the tags at the home are of job 0
    home_job : AllByRecursion (λ t. t.job ≡ 0) at_home
    unfolding tags_of_context
    home_job =
        all_range _ _ w.size.pages 0
        (λ p small. cell_job _ home.name.job p ((context w home.name).cell (Page p)) (λ tag is. is ∙ keeps.there.nobody) (λ tag there. (keeps.there.tags p tag there).1)
        (keeps.kept.contexts home.name keeps.there.live (Page p)))

    home_in_world : (q : Tag) → is_in_list q at_home ≡ true → is_in_list q (tags w) ≡ true
    home_in_world q is =
        let here : 1 ≤ in_context q w.size.pages (context w home.name) = (let one = sym (in_list-count q at_home) ∙ is in grind (arith, nat_tests)) in
        let one = one_weighs (in_context q w.size.pages) w.contexts home.name _ (home_found home w keeps.there) here in
        there_once q (tags w) (let all = times q w in omega (arith, one, all))

    -- job 0 uses what the home does
    pub used_by-home : AreHomes home.name w → used_by 0 w ≡ different at_home
    unfolding used_by
    used_by-home homes =
        same_different _ _ (λ q. in_filter 0 q (tags w) ∙ by_job q (tag_of_job 0 q) refl)
      where
        by_job : (q : Tag) (b : Bool) → tag_of_job 0 q ≡ b → cond b (is_in_list q (tags w)) false ≡ is_in_list q at_home
        by_job q true own = same_bool _ _ (λ is. there_once q at_home (of_one _ q (tags w) (zero_at_home homes) is (eqb-true q.job 0 own))) (home_in_world q)
        by_job q false other = same_bool _ _ (λ is. cc) (λ is. absurd (false≢true (sym other ∙ eq-eqb q.job 0 (of_one _ q at_home home_job is))))

-- job 0 and another one use no more than there are
pub used-apart : (job : ℕ) (w : World) → job ≢ 0 → used_by 0 w + used_by job w ≤ used w
unfolding used used_by different
used-apart job w some = two_jobs 0 job (λ same. some (sym same)) (tags w)
