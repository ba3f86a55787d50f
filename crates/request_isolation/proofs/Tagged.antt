-- Where a tag is: at a page of a live context's own, or of a live group.
use Rattle.std.proofs.Common.{◌≡◌, inl, inr, ℕ, zero, suc, ◌+◌, ◌≤◌, ◌<◌, refl, sym, ap, subst, ◌∙◌, Bool, true, false, cond, eqb, ◌||◌, Option, Some, None, List, [], ◌∷◌, arith}
use Rattle.std.specs.Prelude.{T, is_some, unwrap_or}
use Rattle.std.specs.FinMap as fm
use Rattle.std.specs.FinMap.Entries.{below_all, find, is_sorted}
use Rattle.std.specs.List.{flat_map, range_with_len}
use Rattle.std.specs.Option.{option_map}
use Rattle.std.specs.Ordering.{eq_by_cmp}
use Rattle.std.proofs.lemmas.Bool.{eqb-true, false≢true, or_cases}
use Rattle.std.proofs.lemmas.Bool.Decides.{nat_tests}
use Rattle.std.proofs.lemmas.List.Folds.{list_any-append}
use Rattle.lwc_base.specs.Frames.{own_value, tag_of, tags, tags_of_context, tags_of_group}
use Rattle.lwc_base.specs.Holders.{IsGroup}
use Rattle.lwc_base.specs.World.{Context, Group, World, context, group, is_live, new_group}
use Rattle.lwc_base.specs.declared.cell.Cell.{Cell}
use Rattle.lwc_base.specs.declared.cell.Cell.TheVariants.{Own, Common}
use Rattle.lwc_base.proofs.Life.{or_left, or_right}
use Rattle.lwc_base.proofs.Reaped.{there_of}
use Rattle.lwc_types.specs.Names.{name_cmp, tag_cmp}
use Rattle.lwc_types.specs.declared.key.Key.TheVariants.{Page}
use Rattle.lwc_types.specs.declared.name.Name.{Name}
use Rattle.lwc_types.specs.declared.name.Tag.{Tag}
use Rattle.lwc_types.specs.declared.page.PageValue.{PageValue}
use Rattle.lwc_types.specs.declared.page.PageValue.TheVariants.{Zero, Data}
use Rattle.lwc_types.proofs.Orders.{name-itself, same_name, same_tag, tag-itself}
use Rattle.world_views.proofs.Counting.{is_in_list}
use Rattle.world_views.specs.Views.{JobView, seen_by, view}

-- a holder of a tag
pub data Holder (w : World) (t : Tag) : Type 0 where
  AtContext : (c : Name) → is_live w c ≡ true → (p : ℕ) → p < w.size.pages → (bytes : List ℕ) → (context w c).cell (Page p) ≡ Own (Some (Data t bytes)) → Holder w t
  AtGroup : (g : Name) → IsGroup w g → (p : ℕ) → p < w.size.pages → (bytes : List ℕ) → (group w g).value (Page p) ≡ Some (Data t bytes) → Holder w t

-- a list of lists, one for each of some numbers
module _ (t : Tag) (f : ℕ → List Tag) where
  in_numbers : (n a : ℕ) → is_in_list t (flat_map f (range_with_len a n)) ≡ true → (p : ℕ) × (p < a + n) × (is_in_list t (f p) ≡ true)
  in_numbers zero a is = absurd (false≢true is)
  in_numbers (suc n) a is =
      elim (or_cases (is_in_list t (f a)) (is_in_list t (flat_map f (range_with_len (a + 1) n))) (sym (list_any-append (eq_by_cmp tag_cmp t) (f a) (flat_map f (range_with_len (a + 1) n))) ∙ is)) [
        | inl here ↦ (a, omega arith, here)
        | inr later ↦ let rest = in_numbers n (a + 1) later in (rest.0, omega (arith, rest.1), rest.2)
      ]

  numbers_in : (n a p : ℕ) → a ≤ p → p < a + n → is_in_list t (f p) ≡ true → is_in_list t (flat_map f (range_with_len a n)) ≡ true
  numbers_in zero a p low high is = absurd (omega (arith, low, high))
  numbers_in (suc n) a p low high is =
      list_any-append (eq_by_cmp tag_cmp t) (f a) (flat_map f (range_with_len (a + 1) n))
      ∙ elim (eqb a p) as (λ b. eqb a p ≡ b → (is_in_list t (f a) || is_in_list t (flat_map f (range_with_len (a + 1) n))) ≡ true) [
        | true ↦ λ same. or_left _ _ (ap (λ q. is_in_list t (f q)) (eqb-true a p same) ∙ is)
        | false ↦ λ other. or_right _ _ (numbers_in n (a + 1) p (grind (arith, nat_tests)) (omega (arith, high)) is)
      ] refl

-- a list of lists, one for each row of a table
module _ {X : Type 0} (t : Tag) (h : X → List Tag) where
  abbrev row : Name × X → List Tag
  row e = h e.1

  below : (k : Name) (es : List (Name × X)) → T (below_all name_cmp k es) → find name_cmp k es ≡ None
  below k [] all = refl
  below k (e ∷ es) all = let rest = below k es in grind arith

  in_rows : (es : List (Name × X)) → T (is_sorted name_cmp es) → is_in_list t (flat_map row es) ≡ true → (q : Name) × (x : X) × (find name_cmp q es ≡ Some x) × (is_in_list t (h x) ≡ true)
  in_rows [] sorted is = absurd (false≢true is)
  in_rows (e ∷ es) sorted is =
      elim (or_cases (is_in_list t (h e.1)) (is_in_list t (flat_map row es)) (sym (list_any-append (eq_by_cmp tag_cmp t) (h e.1) (flat_map row es)) ∙ is)) [
        | inl here ↦ (e.0, e.1, ap (λ b. cond b (Some e.1) (find name_cmp e.0 es)) (name-itself e.0), here)
        | inr later ↦
            let rest = in_rows es (grind arith) later in
            (rest.0, rest.1, past rest.0 rest.1 (eq_by_cmp name_cmp rest.0 e.0) refl rest.2 (below e.0 es (grind arith)), rest.3)
      ]
    where
      past : (q : Name) (x : X) (b : Bool) → eq_by_cmp name_cmp q e.0 ≡ b → find name_cmp q es ≡ Some x → find name_cmp e.0 es ≡ None → find name_cmp q (e ∷ es) ≡ Some x
      past q x true same found none = let clash : None ≡ Some x = sym none ∙ ap (λ k. find name_cmp k es) (sym (same_name q e.0 same)) ∙ found in cc
      past q x false other found none = ap (λ b. cond b (Some e.1) (find name_cmp q es)) other ∙ found

  rows_in : (es : List (Name × X)) (q : Name) (x : X) → find name_cmp q es ≡ Some x → is_in_list t (h x) ≡ true → is_in_list t (flat_map row es) ≡ true
  rows_in [] q x found is = cc
  rows_in (e ∷ es) q x found is =
      list_any-append (eq_by_cmp tag_cmp t) (h e.1) (flat_map row es)
      ∙ by_test (eq_by_cmp name_cmp q e.0) found (λ later. rows_in es q x later is)
    where
      by_test : (b : Bool) → cond b (Some e.1) (find name_cmp q es) ≡ Some x → (find name_cmp q es ≡ Some x → is_in_list t (flat_map row es) ≡ true) → (is_in_list t (h e.1) || is_in_list t (flat_map row es)) ≡ true
      by_test true same rest = let here : e.1 ≡ x = cc in or_left _ _ (ap (λ y. is_in_list t (h y)) here ∙ is)
      by_test false same rest = or_right _ _ (rest same)

-- the tag of a value
of_value : (t : Tag) (value : Option PageValue) → is_in_list t (tag_of value) ≡ true → (bytes : List ℕ) × (value ≡ Some (Data t bytes))
of_value t None is = absurd (false≢true is)
of_value t (Some Zero) is = absurd (false≢true is)
of_value t (Some (Data u bytes)) is =
    elim (or_cases (eq_by_cmp tag_cmp t u) false is) [
      | inl here ↦ (bytes, ap (λ v. Some (Data v bytes)) (sym (same_tag t u here)))
      | inr never ↦ absurd (false≢true never)
    ]

value_of_tag : (t : Tag) (bytes : List ℕ) → is_in_list t (tag_of (Some (Data t bytes))) ≡ true
value_of_tag t bytes = or_left _ _ (tag-itself t)

of_cell : (t : Tag) (cell : Cell (Option PageValue)) → is_in_list t (tag_of (own_value cell)) ≡ true → (bytes : List ℕ) × (cell ≡ Own (Some (Data t bytes)))
of_cell t (Own value) is = let found = of_value t value is in (found.0, ap Own found.1)
of_cell t (Common g) is = absurd (false≢true is)

some_is : {X : Type 0} (o : Option X) (x d : X) → o ≡ Some x → (is_some o ≡ true) × (unwrap_or o d ≡ x)
some_is o x d is = (ap is_some is, ap (λ q. unwrap_or q d) is)

-- a tag that is counted has a holder
pub holder_of : (w : World) (t : Tag) → is_in_list t (tags w) ≡ true → Holder w t
unfolding tags tags_of_context tags_of_group context group
holder_of w t is =
    elim (or_cases (is_in_list t (flat_map (λ (e : Name × Context). tags_of_context w.size.pages e.1) (fm.entries w.contexts))) (is_in_list t (flat_map (λ (e : Name × Group). tags_of_group w.size.pages e.1) (fm.entries w.groups)))
    (sym (list_any-append (eq_by_cmp tag_cmp t) (flat_map (λ (e : Name × Context). tags_of_context w.size.pages e.1) (fm.entries w.contexts)) (flat_map (λ (e : Name × Group). tags_of_group w.size.pages e.1) (fm.entries w.groups))) ∙ is)) [
      | inl own ↦
          let found = in_rows t (tags_of_context w.size.pages) (fm.entries w.contexts) (fm.entries_sorted w.contexts) own in
          let got : fm.get w.contexts found.0 ≡ Some found.1 = fm.get-entries w.contexts found.0 ∙ found.2 in
          let at = in_numbers t (λ p. tag_of (own_value (found.1.cell (Page p)))) w.size.pages 0 found.3 in
          let cell = of_cell t (found.1.cell (Page at.0)) at.2 in
          let there = some_is (fm.get w.contexts found.0) found.1 _ got in
          AtContext found.0 there.0 at.0 (omega (arith, at.1)) cell.0 (ap (λ (x : Context). x.cell (Page at.0)) there.1 ∙ cell.1)
      | inr shared ↦
          let found = in_rows t (tags_of_group w.size.pages) (fm.entries w.groups) (fm.entries_sorted w.groups) shared in
          let got : fm.get w.groups found.0 ≡ Some found.1 = fm.get-entries w.groups found.0 ∙ found.2 in
          let at = in_numbers t (λ p. tag_of (found.1.value (Page p))) w.size.pages 0 found.3 in
          let value = of_value t (found.1.value (Page at.0)) at.2 in
          let there = some_is (fm.get w.groups found.0) found.1 _ got in
          AtGroup found.0 there.0 at.0 (omega (arith, at.1)) value.0 (ap (λ (x : Group). x.value (Page at.0)) there.1 ∙ value.1)
    ]

-- and a tag with a holder is counted
pub held_in : (w : World) (t : Tag) → Holder w t → is_in_list t (tags w) ≡ true
unfolding tags tags_of_context tags_of_group context group
held_in w t (AtContext c live p small bytes is) =
    list_any-append (eq_by_cmp tag_cmp t) (flat_map (λ (e : Name × Context). tags_of_context w.size.pages e.1) (fm.entries w.contexts)) (flat_map (λ (e : Name × Group). tags_of_group w.size.pages e.1) (fm.entries w.groups))
    ∙ or_left _ _ (rows_in t (tags_of_context w.size.pages) (fm.entries w.contexts) c (context w c) (sym (fm.get-entries w.contexts c) ∙ there_of (fm.get w.contexts c) _ live)
    (numbers_in t (λ q. tag_of (own_value ((context w c).cell (Page q)))) w.size.pages 0 p (omega arith) (omega (arith, small))
    (ap (λ cell. is_in_list t (tag_of (own_value cell))) is ∙ value_of_tag t bytes)))
held_in w t (AtGroup g live p small bytes is) =
    list_any-append (eq_by_cmp tag_cmp t) (flat_map (λ (e : Name × Context). tags_of_context w.size.pages e.1) (fm.entries w.contexts)) (flat_map (λ (e : Name × Group). tags_of_group w.size.pages e.1) (fm.entries w.groups))
    ∙ or_right _ _ (rows_in t (tags_of_group w.size.pages) (fm.entries w.groups) g (group w g) (sym (fm.get-entries w.groups g) ∙ there_of (fm.get w.groups g) _ live)
    (numbers_in t (λ q. tag_of ((group w g).value (Page q))) w.size.pages 0 p (omega arith) (omega (arith, small))
    (ap (λ value. is_in_list t (tag_of value)) is ∙ value_of_tag t bytes)))

-- the job of a holder
abbrev pub job_of : (w : World) (t : Tag) → Holder w t → ℕ
job_of w t (AtContext c live p small bytes is) = c.job
job_of w t (AtGroup g live p small bytes is) = g.job

seen_context : (t s : ℕ) (o p : Option Context) (d : Context) (x : Context) → o ≡ Some x → option_map (seen_by t) o ≡ option_map (seen_by s) p → (is_some p ≡ true) × ((unwrap_or p d).cell ≡ x.cell)
seen_context t s o None d x is same = let clash : Some (seen_by t x) ≡ None = ap (option_map (seen_by t)) (sym is) ∙ same in cc
seen_context t s o (Some y) d x is same =
    let both : Some (seen_by t x) ≡ Some (seen_by s y) = ap (option_map (seen_by t)) (sym is) ∙ same in
    (refl, sym (ap (λ (q : Option Context). (unwrap_or q d).cell) both))

-- a holder of a job is there in each world that looks alike to the job
pub held_alike : (w v : World) (j u s : ℕ) (t : Tag) → view j u w ≡ view j s v → (holder : Holder w t) → job_of w t holder ≡ j → Holder v t
unfolding view context group
held_alike w v j u s t same (AtContext c live p small bytes is) own =
    let one : view c.job u w ≡ view c.job s v = subst (λ i. view i u w ≡ view i s v) (sym own) same in
    let pages : w.size.pages ≡ v.size.pages = ap (λ (x : JobView). x.pages) one in
    let found = seen_context u s (fm.get w.contexts c) (fm.get v.contexts c) _ (context w c) (there_of (fm.get w.contexts c) _ live) (ap (λ (x : JobView). x.contexts c.k) one) in
    AtContext c found.0 p (subst (λ n. p < n) pages small) bytes (ap (λ cell. cell (Page p)) found.1 ∙ is)
held_alike w v j u s t same (AtGroup g live p small bytes is) own =
    let one : view g.job u w ≡ view g.job s v = subst (λ i. view i u w ≡ view i s v) (sym own) same in
    let pages : w.size.pages ≡ v.size.pages = ap (λ (x : JobView). x.pages) one in
    let found : fm.get w.groups g ≡ fm.get v.groups g = ap (λ (x : JobView). x.groups g.k) one in
    AtGroup g (ap is_some (sym found) ∙ live) p (subst (λ n. p < n) pages small) bytes (ap (λ (o : Option Group). (unwrap_or o new_group).value (Page p)) (sym found) ∙ is)

-- and its job is the same
pub held_job : (w v : World) (j u s : ℕ) (t : Tag) (same : view j u w ≡ view j s v) → (holder : Holder w t) (own : job_of w t holder ≡ j) → job_of v t (held_alike w v j u s t same holder own) ≡ j
unfolding held_alike
held_job w v j u s t same (AtContext c live p small bytes is) own = own
held_job w v j u s t same (AtGroup g live p small bytes is) own = own
