-- The same pages of a job part in two worlds that look alike to it: a tag of the job is at holders of the job alone, and
-- one of the home's is at the home too.
use Rattle.std.proofs.Common.{◌≡◌, ◌≢◌, ◌⊎◌, inl, inr, ℕ, zero, suc, ◌+◌, ◌<◌, ◌≤◌, refl, sym, ap, subst, ◌∙◌, Bool, true, false, cond, eqb, Option, Some, None, List, [], ◌∷◌, ◌++◌, arith}
use Rattle.std.proofs.lemmas.Bool.{eq-eqb, false≢true, lt-ltb}
use Rattle.std.proofs.lemmas.Bool.Decides.{nat_tests}
use Rattle.std.proofs.lemmas.Cmp.{tied_itself}
use Rattle.std.proofs.lemmas.List.Sums.{sum_by-append, sum_by-cons}
use Rattle.std.specs.Prelude.{count_by, is_some, nat_lt, unwrap_or}
use Rattle.std.specs.List.{flat_map, range_with_len, sum_by}
use Rattle.std.specs.Option.{option_map}
use Rattle.std.specs.Ordering.{is_eq}
use Rattle.std.specs.FinMap as fm
use Rattle.lwc_base.specs.Cells.{page_at, value_at, value_of}
use Rattle.lwc_base.specs.Frames.{is_parting, is_shared_tag, own_value, tag_of, tags, tags_of_context, tags_of_group}
use Rattle.lwc_base.specs.Holders.{InCell, InContext, InGroup, Keeps}
use Rattle.lwc_base.specs.Store.{page_value_at}
use Rattle.lwc_base.specs.World.{World, Context, Group, context, group, new_context, new_group}
use Rattle.lwc_base.specs.declared.cell.Cell.{Cell}
use Rattle.lwc_base.specs.declared.cell.Cell.TheVariants.{Own, Common}
use Rattle.lwc_base.proofs.Facts.{orders}
use Rattle.lwc_types.specs.Names.{tag_cmp}
use Rattle.lwc_types.specs.Registers.{fresh_registers}
use Rattle.lwc_types.specs.declared.key.Key.TheVariants.{Page}
use Rattle.lwc_types.specs.declared.name.Name.{Name}
use Rattle.lwc_types.specs.declared.name.Tag.{Tag}
use Rattle.lwc_types.specs.declared.page.PageValue.{PageValue}
use Rattle.lwc_types.specs.declared.page.PageValue.TheVariants.{Zero, Data}
use Rattle.world_views.proofs.Entries.{count-flat_map, job_weights, of_job, one_weighs, same_weights, sum_of_job, two_weigh}
use Rattle.world_views.proofs.JobTables.{at}
use Rattle.world_views.proofs.Keeping.{value_at-in}
use Rattle.world_views.proofs.Reading.{value-alike}
use Rattle.world_views.proofs.Views.{contexts-alike, groups-alike, pages-alike, seen}
use Rattle.world_views.specs.ByJob.{HasHome, Home, IsPageOf, LooksAlike, by_job}
use Rattle.world_views.specs.Views.{view}

-- whether a tag is this one
abbrev pub is_tag : Tag → Tag → Bool
is_tag tag u = is_eq (tag_cmp u tag)

-- how often a tag is at holders of a context, and of a group
abbrev pub in_context : Tag → ℕ → Context → ℕ
in_context tag pages x = count_by (is_tag tag) (tags_of_context pages x)

abbrev pub in_group : Tag → ℕ → Group → ℕ
in_group tag pages x = count_by (is_tag tag) (tags_of_group pages x)

-- and of a world
pub times : (tag : Tag) (w : World) → count_by (is_tag tag) (tags w)
    ≡ sum_by (λ e. in_context tag w.size.pages e.1) (fm.entries w.contexts) + sum_by (λ e. in_group tag w.size.pages e.1) (fm.entries w.groups)
unfolding tags
times tag w =
    sum_by-append (λ u. cond (is_tag tag u) 1 0) (flat_map (λ e. tags_of_context w.size.pages e.1) (fm.entries w.contexts)) (flat_map (λ e. tags_of_group w.size.pages e.1) (fm.entries w.groups))
    ∙ (λ i. count-flat_map (is_tag tag) (λ e. tags_of_context w.size.pages e.1) (fm.entries w.contexts) i + count-flat_map (is_tag tag) (λ e. tags_of_group w.size.pages e.1) (fm.entries w.groups) i)

none_in : (test : Tag → Bool) (h : ℕ → List Tag) → ((p : ℕ) → count_by test (h p) ≡ 0) → (ps : List ℕ) → count_by test (flat_map h ps) ≡ 0
none_in test h none [] = refl
none_in test h none (p ∷ ps) =
    let here = none p in let rest = none_in test h none ps in
    let split = sum_by-append (λ u. cond (test u) 1 0) (h p) (flat_map h ps) in omega (arith, here, rest, split)

pub in_range : (test : Tag → Bool) (h : ℕ → List Tag) (p : ℕ) → 1 ≤ count_by test (h p) → (n a : ℕ) → a ≤ p → p < a + n → 1 ≤ count_by test (flat_map h (range_with_len a n))
in_range test h p one zero a low high = absurd (omega arith)
in_range test h p one (suc n) a low high =
    let split = sum_by-append (λ u. cond (test u) 1 0) (h a) (flat_map h (range_with_len (a + 1) n)) in
    by_first split (λ past. in_range test h p one n (a + 1) past (omega arith)) (eqb a p) refl
  where
    by_first : count_by test (h a ++ flat_map h (range_with_len (a + 1) n)) ≡ count_by test (h a) + count_by test (flat_map h (range_with_len (a + 1) n)) → (a + 1 ≤ p → 1 ≤ count_by test (flat_map h (range_with_len (a + 1) n))) → (b : Bool) → eqb a p ≡ b →
        1 ≤ count_by test (h a ++ flat_map h (range_with_len (a + 1) n))
    by_first split later true same = let here : 1 ≤ count_by test (h a) = subst (λ q. 1 ≤ count_by test (h q)) (sym (grind (arith, nat_tests))) one in omega (arith, here, split)
    by_first split later false other =
        let past : a + 1 ≤ p = grind (arith, nat_tests) in
        let rest = later past in
        omega (arith, rest, split)

module _ (tag : Tag) where
  pub one_tag : (ts : List Tag) → ts ≡ tag ∷ [] → 1 ≤ count_by (is_tag tag) ts
  one_tag ts is =
      let one : count_by (is_tag tag) (tag ∷ []) ≡ 1 =
      sum_by-cons (λ (u : Tag). cond (is_tag tag u) 1 0) tag [] ∙ ap {B = ℕ} (λ o. cond (is_eq o) 1 0 + count_by (is_tag tag) []) (tied_itself orders.tags tag) in
      subst (λ us. 1 ≤ count_by (is_tag tag) us) (sym is) (omega (arith, one))

  pub in_context-there : (pages p : ℕ) (x : Context) → p < pages → tag_of (own_value (x.cell (Page p))) ≡ tag ∷ [] → 1 ≤ in_context tag pages x
  unfolding tags_of_context
  in_context-there pages p x small is = in_range (is_tag tag) (λ q. tag_of (own_value (x.cell (Page q)))) p (one_tag _ is) pages 0 (omega arith) (omega arith)

  in_group-there : (pages p : ℕ) (x : Group) → p < pages → tag_of (x.value (Page p)) ≡ tag ∷ [] → 1 ≤ in_group tag pages x
  unfolding tags_of_group
  in_group-there pages p x small is = in_range (is_tag tag) (λ q. tag_of (x.value (Page q))) p (one_tag _ is) pages 0 (omega arith) (omega arith)

  module _ (home : Home) (zero_tags : (p : ℕ) (u : Tag) → home.tags p ≡ Some u → u.job ≡ 0) (some_job : tag.job ≢ 0) where
    other_tag : (u : Tag) → u.job ≢ tag.job → count_by (is_tag tag) (u ∷ []) ≡ 0
    other_tag u other = sum_by-cons (λ (z : Tag). cond (is_tag tag z) 1 0) u [] ∙ ap (λ (n : ℕ). n + count_by (is_tag tag) []) (by_tie (is_tag tag u) refl)
      where
        by_tie : (b : Bool) → is_tag tag u ≡ b → ◌≡◌ {A = ℕ} (cond b 1 0) 0
        by_tie true same = let one = orders.one_tag u tag in let tie : u ≡ tag = grind arith in absurd (other (ap (λ (z : Tag). z.job) tie))
        by_tie false differs = refl

    other_value : (i p : ℕ) (o : Option PageValue) → i ≢ tag.job → IsPageOf home i p o → count_by (is_tag tag) (tag_of o) ≡ 0
    other_value i p None other is = refl
    other_value i p (Some Zero) other is = refl
    other_value i p (Some (Data u bytes)) other (inl own) = other_tag u (λ same. other (sym own ∙ same))
    other_value i p (Some (Data u bytes)) other (inr there) = other_tag u (λ same. some_job (sym same ∙ zero_tags p u there))

    other_cell : (i p : ℕ) (cell : Cell (Option PageValue)) → i ≢ tag.job → InCell (by_job home) i (Page p) cell → count_by (is_tag tag) (tag_of (own_value cell)) ≡ 0
    other_cell i p (Own o) other is = other_value i p o other is
    other_cell i p (Common g) other is = refl

    other_context : (i pages : ℕ) (x : Context) → i ≢ tag.job → InContext (by_job home) i x → in_context tag pages x ≡ 0
    unfolding tags_of_context
    other_context i pages x other within = none_in (is_tag tag) _ (λ p. other_cell i p (x.cell (Page p)) other (within (Page p))) (range_with_len 0 pages)

    other_group : (i pages : ℕ) (x : Group) → i ≢ tag.job → InGroup (by_job home) i x → in_group tag pages x ≡ 0
    unfolding tags_of_group
    other_group i pages x other within = none_in (is_tag tag) _ (λ p. other_value i p (x.value (Page p)) other (within (Page p))) (range_with_len 0 pages)

    differs : (q : Name) → of_job tag.job q ≡ false → q.job ≢ tag.job
    differs q other same = false≢true (sym other ∙ eq-eqb q.job tag.job same)

    -- a tag of a job is at holders of that job alone
    times_of_job : (w : World) → Keeps (by_job home) w → count_by (is_tag tag) (tags w)
        ≡ sum_by (λ e. e.1) (job_weights tag.job (in_context tag w.size.pages) w.contexts) + sum_by (λ e. e.1) (job_weights tag.job (in_group tag w.size.pages) w.groups)
    unfolding context group
    times_of_job w keeps =
        times tag w
        ∙ (λ i. sum_of_job tag.job (in_context tag w.size.pages) w.contexts (λ q x is other. other_context q.job w.size.pages x (differs q other) (context_found q x is)) i
        + sum_of_job tag.job (in_group tag w.size.pages) w.groups (λ q x is other. other_group q.job w.size.pages x (differs q other) (group_found q x is)) i)
      where
        context_found : (q : Name) (x : Context) → fm.get w.contexts q ≡ Some x → InContext (by_job home) q.job x
        context_found q x is = subst (λ o. InContext (by_job home) q.job (unwrap_or o (new_context 0 (fresh_registers 0)))) is (keeps.contexts q (ap is_some is))

        group_found : (q : Name) (x : Group) → fm.get w.groups q ≡ Some x → InGroup (by_job home) q.job x
        group_found q x is = subst (λ o. InGroup (by_job home) q.job (unwrap_or o new_group)) is (keeps.groups q (ap is_some is))

    weighs_seen : (t pages : ℕ) (o : Option Context) → option_map (in_context tag pages) (seen t o) ≡ option_map (in_context tag pages) o
    unfolding tags_of_context
    weighs_seen t pages None = refl
    weighs_seen t pages (Some x) = refl

    -- so it is as often at holders in two worlds that look alike to the job
    pub times-alike : (t s : ℕ) (w v : World) → Keeps (by_job home) w → Keeps (by_job home) v → view tag.job t w ≡ view tag.job s v →
        count_by (is_tag tag) (tags w) ≡ count_by (is_tag tag) (tags v)
    times-alike t s w v keeps_w keeps_v alike =
        let pages = pages-alike tag.job t s w v alike in
        let contexts = same_weights tag.job (in_context tag w.size.pages) (in_context tag v.size.pages) w.contexts v.contexts
        (λ k. sym (weighs_seen t w.size.pages (fm.get w.contexts (at tag.job k)))
        ∙ (λ i. option_map (in_context tag (pages i)) (contexts-alike tag.job t s w v alike k i))
        ∙ weighs_seen s v.size.pages (fm.get v.contexts (at tag.job k))) in
        let groups = same_weights tag.job (in_group tag w.size.pages) (in_group tag v.size.pages) w.groups v.groups
        (λ k i. option_map (in_group tag (pages i)) (groups-alike tag.job t s w v alike k i)) in
        times_of_job w keeps_w
        ∙ (λ i. sum_by (λ e. e.1) (contexts i) + sum_by (λ e. e.1) (groups i))
        ∙ sym (times_of_job v keeps_v)

found_or_new : {X : Type 0} (o : Option X) (d : X) → (o ≡ Some (unwrap_or o d)) ⊎ (unwrap_or o d ≡ d)
found_or_new None d = inr refl
found_or_new (Some x) d = inl refl

module _ (home : Home) (w : World) (has : HasHome home w) where
  pub home_found : fm.get w.contexts home.name ≡ Some (context w home.name)
  unfolding context
  home_found = by_entry (fm.get w.contexts home.name) has.live
    where
      by_entry : (o : Option Context) → is_some o ≡ true → o ≡ Some (unwrap_or o (new_context 0 (fresh_registers 0)))
      by_entry None is = cc
      by_entry (Some x) is = refl

  -- a tag of the home's that is under its page in a context of another job is shared, with the home
  shared_twice : (c : Name) (p : ℕ) (tag : Tag) (bytes : List ℕ) (cell : Cell (Option PageValue)) → c.job ≢ 0 → home.tags p ≡ Some tag → (context w c).cell (Page p) ≡ cell →
      value_of w (Page p) cell ≡ Some (Data tag bytes) → 2 ≤ count_by (is_tag tag) (tags w)
  unfolding context group
  shared_twice c p tag bytes (Own o) some_job there is value =
      let at_home = has.tags p tag there in
      let all = times tag w in
      let mine : tag_of (own_value ((context w c).cell (Page p))) ≡ tag ∷ [] = ap (λ (x : Cell (Option PageValue)). tag_of (own_value x)) is ∙ ap tag_of value in
      elim (found_or_new (fm.get w.contexts c) (new_context 0 (fresh_registers 0))) [
        | inl found ↦
            let two = two_weigh (in_context tag w.size.pages) w.contexts home.name c _ _ (λ same. some_job (sym (ap (λ (n : Name). n.job) same) ∙ has.nobody)) home_found found
            (in_context-there tag w.size.pages p _ at_home.0 at_home.2) (in_context-there tag w.size.pages p _ at_home.0 mine) in
            omega (arith, two, all)
        | inr new ↦ let none : Own o ≡ Own None = sym is ∙ ap (λ (x : Context). x.cell (Page p)) new in cc
      ]
  shared_twice c p tag bytes (Common g) some_job there is value =
      let at_home = has.tags p tag there in
      let all = times tag w in
      let one = one_weighs (in_context tag w.size.pages) w.contexts home.name _ home_found (in_context-there tag w.size.pages p _ at_home.0 at_home.2) in
      let other = in_its_group g value at_home.0 in
      omega (arith, one, other, all)
    where
      in_its_group : (g : Name) → (group w g).value (Page p) ≡ Some (Data tag bytes) → p < w.size.pages → 1 ≤ sum_by (λ e. in_group tag w.size.pages e.1) (fm.entries w.groups)
      in_its_group g value small = elim (found_or_new (fm.get w.groups g) new_group) [
        | inl found ↦ one_weighs (in_group tag w.size.pages) w.groups g _ found (in_group-there tag w.size.pages p _ small (ap tag_of value))
        | inr new ↦ let none : None ≡ Some (Data tag bytes) = sym (ap (λ (x : Group). x.value (Page p)) new) ∙ value in cc
      ]

  is_shared : (c : Name) (p : ℕ) (tag : Tag) (bytes : List ℕ) → c.job ≢ 0 → home.tags p ≡ Some tag → page_at w c p ≡ Some (Data tag bytes) → is_shared_tag w tag ≡ true
  unfolding value_at
  is_shared c p tag bytes some_job there value = lt-ltb 1 (count_by (is_tag tag) (tags w)) (shared_twice c p tag bytes _ some_job there refl value)

module _ (home : Home) (t s : ℕ) (c : Name) (w v : World) (alike : LooksAlike home c.job t s w v) where
  parts_by : (p : ℕ) (value : Option PageValue) → page_at w c p ≡ value → page_at v c p ≡ value → IsPageOf home c.job p value → is_parting w (unwrap_or value Zero) ≡ is_parting v (unwrap_or value Zero)
  unfolding is_parting
  parts_by p None is_w is_v fits = refl
  parts_by p (Some Zero) is_w is_v fits = refl
  parts_by p (Some (Data tag bytes)) is_w is_v (inl own) =
      ap (nat_lt 1) (times-alike tag home (λ q u there. (alike.first.there.tags q u there).1) (λ same. alike.some_job (sym own ∙ same)) t s w v alike.first.kept alike.second.kept
      (subst (λ j. view j t w ≡ view j s v) (sym own) alike.seen))
  parts_by p (Some (Data tag bytes)) is_w is_v (inr there) =
      is_shared home w alike.first.there c p tag bytes alike.some_job there is_w ∙ sym (is_shared home v alike.second.there c p tag bytes alike.some_job there is_v)

  -- the same pages part
  pub parts-alike : (p : ℕ) → is_parting w (page_value_at w c p) ≡ is_parting v (page_value_at v c p)
  parts-alike p =
      let reads = value-alike t s c w v alike.seen home alike.first.kept (Page p) in
      parts_by p (page_at w c p) refl (sym reads) (value_at-in home w alike.first.kept c (Page p)) ∙ ap (λ o. is_parting v (unwrap_or o Zero)) reads
