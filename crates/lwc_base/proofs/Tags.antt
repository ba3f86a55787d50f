-- How often a tag is at holders: one holder gives up its tag for another when a value is put under a page.
use Rattle.std.proofs.Common.{◌≡◌, ◌≢◌, ℕ, zero, suc, ◌+◌, ◌≤◌, ◌<◌, refl, sym, ap, ◌∙◌, true, cond, ltb, ◌||◌, Option, Some, None, List, [], ◌∷◌, length, arith}
use Rattle.std.proofs.lemmas.Bool.Decides.{nat_tests}
use Rattle.std.proofs.lemmas.List.Sums.{sum_by-append, sum_by-cons}
use Rattle.std.specs.Prelude.{T, count_by, unwrap_or, ◌++◌}
use Rattle.std.specs.List.{flat_map, list_any, range_with_len}
use Rattle.std.specs.Ordering.{eq_by_cmp, is_eq}
use Rattle.std.specs.FinMap as fm
use Rattle.std.specs.FinMap.Entries.{below_all, find, is_sorted, length-put, put}
use Rattle.std.specs.FinSet as set
use Rattle.lwc_base.specs.declared.cell.Cell.TheVariants.{Own, Common}
use Rattle.lwc_base.specs.Cells.{page_at, put_page, with_cell, with_value}
use Rattle.lwc_base.specs.Frames.{own_value, tag_of, tags, tags_of_context, tags_of_group, used}
use Rattle.lwc_base.specs.World.{World, Context, Group, context, group, is_live, new_context, new_group, change_context, change_group}
use Rattle.lwc_base.proofs.Common.{value_at-cell}
use Rattle.lwc_base.proofs.Lookups.{after_change_context, after_change_group, context-dead, group-dead}
use Rattle.lwc_base.proofs.Puts.{after_put_at}
use Rattle.lwc_types.specs.declared.key.Key.TheVariants.{Page}
use Rattle.lwc_types.specs.declared.name.Name.{Name}
use Rattle.lwc_types.specs.declared.name.Tag.{Tag}
use Rattle.lwc_types.specs.declared.page.PageValue.{PageValue}
use Rattle.lwc_types.specs.declared.page.PageValue.TheVariants.{Zero, Data}
use Rattle.lwc_types.specs.Names.{name_cmp, tag_cmp}
use Rattle.lwc_types.specs.Registers.{fresh_registers}
use Rattle.lwc_types.proofs.Orders.{name-itself, name_cmp-total, same_name, same_tag, tag-itself, tag_cmp-IsAntisymmetric, tag_cmp-total}

-- a page has one tag at most
pub one_tag : (value : Option PageValue) → length (tag_of value) ≤ 1
one_tag None = omega arith
one_tag (Some Zero) = omega arith
one_tag (Some (Data tag bytes)) = omega arith

-- how often a tag is in a list
abbrev pub times : Tag → List Tag → ℕ
times t ts = count_by (λ u. is_eq (tag_cmp u t)) ts

times-append : (t : Tag) (xs ys : List Tag) → times t (xs ++ ys) ≡ times t xs + times t ys
times-append t xs ys = sum_by-append (λ u. cond (is_eq (tag_cmp u t)) 1 0) xs ys

pub times-itself : (t : Tag) → times t (t ∷ []) ≡ 1
times-itself t = grind (arith, tag-itself)

pub times-other : (t u : Tag) → u ≢ t → times t (u ∷ []) ≡ 0
times-other t u other = grind (arith, same_tag)

pub times-none : {X : Type 0} (t : Tag) (f : X → List Tag) → ((x : X) → times t (f x) ≡ 0) → (xs : List X) → times t (flat_map f xs) ≡ 0
times-none t f none [] = refl
times-none t f none (x ∷ xs) = omega (arith, none x, times-none t f none xs, times-append t (f x) (flat_map f xs))

-- the tags of a range of places of which one has changed
module _ (t : Tag) (F G : ℕ → List Tag) (p : ℕ) (same : (q : ℕ) → q ≢ p → G q ≡ F q) where
  times-past : (n a : ℕ) → p < a → flat_map G (range_with_len a n) ≡ flat_map F (range_with_len a n)
  times-past zero a past = refl
  times-past (suc n) a past = grind (arith, same a, times-past n (a + 1))

  times-place : (n a : ℕ) → a ≤ p → p < a + n → times t (flat_map G (range_with_len a n)) + times t (F p) ≡ times t (flat_map F (range_with_len a n)) + times t (G p)
  times-place zero a low high = absurd (omega (arith, low, high))
  times-place (suc n) a low high =
      let rest = times-place n (a + 1) in
      grind (arith, same a, times-past n (a + 1), times-append t (G a) (flat_map G (range_with_len (a + 1) n)), times-append t (F a) (flat_map F (range_with_len (a + 1) n)))

-- the tags of the rows of a table
module _ {X : Type 0} (t : Tag) (H : X → List Tag) where
  abbrev row : Name × X → List Tag
  row e = H e.1

  times-put : (k : Name) (v old : X) (es : List (Name × X)) → T (is_sorted name_cmp es) → find name_cmp k es ≡ Some old →
      times t (flat_map row (put name_cmp k v es)) + times t (H old) ≡ times t (flat_map row es) + times t (H v)
  times-put k v old [] sorted found = cc
  times-put k v old (e ∷ es) sorted found =
      let as_many = length-put name_cmp name_cmp-total k v (e ∷ es) sorted in
      let rest = times-put k v old es in
      grind (arith, times-append t (H e.1) (flat_map row es), times-append t (H v) (flat_map row es), times-append t (H e.1) (flat_map row (put name_cmp k v es)))

  times-nowhere : (es : List (Name × X)) → T (is_sorted name_cmp es) → ((q : Name) (x : X) → find name_cmp q es ≡ Some x → times t (H x) ≡ 0) → times t (flat_map row es) ≡ 0
  times-nowhere [] sorted none = refl
  times-nowhere (e ∷ es) sorted none =
      let gone = below e.0 es in
      let rest = times-nowhere es (grind arith) (λ q x found. let here = none q x in grind (arith, same_name q e.0)) in
      grind (arith, none e.0 e.1, name-itself, times-append t (H e.1) (flat_map row es))
    where
      below : (x : Name) (fs : List (Name × X)) → T (below_all name_cmp x fs) → find name_cmp x fs ≡ None
      below x [] all = refl
      below x (f ∷ fs) all = let rest = below x fs in grind arith

  module _ (m : fm.FinMap name_cmp X) (d : X) where
    times-insert : (c : Name) (y : X) → fm.contains_key m c ≡ true →
        times t (flat_map row (fm.entries (fm.insert m c y))) + times t (H (unwrap_or (fm.get m c) d)) ≡ times t (flat_map row (fm.entries m)) + times t (H y)
    times-insert c y live =
        let place = times-put c y (unwrap_or (fm.get m c) d) (fm.entries m) (fm.entries_sorted m) (grind (arith, fm.get-entries m c)) in
        omega (arith, place, ap (λ es. times t (flat_map row es)) (fm.entries-insert name_cmp-total m c y))

    times-table : ((q : Name) → fm.contains_key m q ≡ true → times t (H (unwrap_or (fm.get m q) d)) ≡ 0) → times t (flat_map row (fm.entries m)) ≡ 0
    times-table none = times-nowhere (fm.entries m) (fm.entries_sorted m) (λ q x found. let here = none q in grind (arith, fm.get-entries m q))

module _ (t : Tag) where
  times-tags : (w : World) → times t (tags w) ≡
      times t (flat_map (λ e. tags_of_context w.size.pages e.1) (fm.entries w.contexts)) + times t (flat_map (λ e. tags_of_group w.size.pages e.1) (fm.entries w.groups))
  unfolding tags
  times-tags w = times-append t (flat_map (λ e. tags_of_context w.size.pages e.1) (fm.entries w.contexts)) (flat_map (λ e. tags_of_group w.size.pages e.1) (fm.entries w.groups))

  -- a tag that no live context and no group has
  pub times-nothing : (w : World) → ((c : Name) → is_live w c ≡ true → (p : ℕ) → times t (tag_of (own_value ((context w c).cell (Page p)))) ≡ 0) →
      ((g : Name) → fm.contains_key w.groups g ≡ true → (p : ℕ) → times t (tag_of ((group w g).value (Page p))) ≡ 0) → times t (tags w) ≡ 0
  unfolding tags_of_context tags_of_group context group
  times-nothing w contexts groups =
      let pages : List ℕ = range_with_len 0 w.size.pages in
      omega (
        arith,
        times-tags w,
        times-table t (tags_of_context w.size.pages) w.contexts (new_context 0 (fresh_registers 0)) (λ c live. times-none t (λ p. tag_of (own_value ((context w c).cell (Page p)))) (contexts c live) pages),
        times-table t (tags_of_group w.size.pages) w.groups new_group (λ g live. times-none t (λ p. tag_of ((group w g).value (Page p))) (groups g live) pages),
      )

  module _ (w : World) (c : Name) (p : ℕ) (value old : PageValue) (within : p < w.size.pages) (is_old : page_at w c p ≡ Some old) where
    Changed : World → Type 0
    Changed v = times t (tags v) + times t (tag_of (Some old)) ≡ times t (tags w) + times t (tag_of (Some value))

    own_changed : (mine : Option PageValue) → (context w c).cell (Page p) ≡ Own mine → Changed (change_context w c (with_cell (Page p) (Own (Some value))))
    unfolding Changed context tags_of_context
    own_changed mine is =
        let same : mine ≡ Some old = sym (value_at-cell w c (Page p) (Own mine) is) ∙ is_old in
        after_change_context Changed w c (with_cell (Page p) (Own (Some value)))
        (λ live.
        let y : Context = with_cell (Page p) (Own (Some value)) (context w c) in
        let v : World = record w { contexts = fm.insert w.contexts c y } in
        let put = times-insert t (tags_of_context w.size.pages) w.contexts (new_context 0 (fresh_registers 0)) c y live in
        let place = times-place t (λ q. tag_of (own_value ((context w c).cell (Page q)))) (λ q. tag_of (own_value (y.cell (Page q)))) p (λ q other. grind (arith, nat_tests)) w.size.pages 0 in
        grind (arith, nat_tests, times-tags w, times-tags v))
        (λ dead. let none = context-dead w c dead in grind (arith, none))

    group_changed : (g : Name) → (context w c).cell (Page p) ≡ Common g → Changed (change_group w g (with_value (Page p) (Some value)))
    unfolding Changed group tags_of_group
    group_changed g is =
        let same : (group w g).value (Page p) ≡ Some old = sym (value_at-cell w c (Page p) (Common g) is) ∙ is_old in
        after_change_group Changed w g (with_value (Page p) (Some value))
        (λ live.
        let y : Group = with_value (Page p) (Some value) (group w g) in
        let v : World = record w { groups = fm.insert w.groups g y } in
        let put = times-insert t (tags_of_group w.size.pages) w.groups new_group g y live in
        let place = times-place t (λ q. tag_of ((group w g).value (Page q))) (λ q. tag_of (y.value (Page q))) p (λ q other. grind (arith, nat_tests)) w.size.pages 0 in
        grind (arith, nat_tests, same, times-tags w, times-tags v))
        (λ dead. let none = group-dead w g dead in grind (arith, none))

    -- one holder gives up its tag for another
    pub times-put_page : times t (tags (put_page w c p value)) + times t (tag_of (Some old)) ≡ times t (tags w) + times t (tag_of (Some value))
    unfolding Changed
    times-put_page =
        after_put_at Changed w c (Page p) (Some value) (λ mine is absent. let here = value_at-cell w c (Page p) (Own mine) is in grind (arith, here)) (λ mine is _. own_changed mine is) group_changed

-- whether a tag is in a list
pub among : (t : Tag) (ts : List Tag) → list_any (eq_by_cmp tag_cmp t) ts ≡ ltb 0 (times t ts)
among t [] = refl
among t (u ∷ us) = grind (arith, nat_tests, among t us, same_tag, tag-itself t, sum_by-cons (λ (s : Tag). cond (is_eq (tag_cmp s t)) 1 0) u us)

-- as many frames are used where the same tags are at holders
pub used-same : (w v : World) → ((t : Tag) → ltb 0 (times t (tags v)) ≡ ltb 0 (times t (tags w))) → used v ≡ used w
unfolding used
used-same w v same =
    ap set.len (set.same_set tag_cmp-total tag_cmp-IsAntisymmetric (set.from_list (tags v)) (set.from_list (tags w))
    (λ t. grind (arith, set.contains-from_list, tag_cmp-total, among t (tags v), among t (tags w), same t)))

-- and one more where a new tag is there too
pub used-more : (w v : World) (new : Tag) → times new (tags w) ≡ 0 → ((t : Tag) → ltb 0 (times t (tags v)) ≡ (eq_by_cmp tag_cmp t new || ltb 0 (times t (tags w)))) → used v ≡ used w + 1
unfolding used
used-more w v new none same =
    ap set.len (set.same_set tag_cmp-total tag_cmp-IsAntisymmetric (set.from_list (tags v)) (set.from_list (new ∷ tags w))
    (λ t. grind (arith, set.contains-from_list tag_cmp-total (tags v) t, set.contains-from_list tag_cmp-total (new ∷ tags w) t, among t (tags v), among t (tags w), same t)))
    ∙ grind (arith, set.len-insert tag_cmp-total (set.from_list (tags w)) new, set.contains-from_list tag_cmp-total (tags w) new, among new (tags w))
