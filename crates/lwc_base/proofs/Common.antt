-- What two contexts have apart and in common, and what is read in each, after puts, stores, mappings, sharings and clones.
use Rattle.std.proofs.Common.{◌≡◌, ◌≢◌, ◌⊎◌, inl, inr, ℕ, false, refl, ap, subst, ◌∙◌, true, Option, Some, None, List, [], ◌∷◌, length, arith, rules}
use Rattle.std.proofs.lemmas.Bool.Decides.{nat_tests}
use Rattle.std.specs.FinMap as fm
use Rattle.lwc_base.specs.declared.cell.Cell.{Cell}
use Rattle.lwc_base.specs.declared.cell.Cell.TheVariants.{Own, Common}
use Rattle.lwc_base.specs.Cells.{value_of, value_at, put_at, put_page, with_cell, with_value}
use Rattle.lwc_base.specs.Clones.{AreApart, HaveInCommon, IsOutside}
use Rattle.lwc_base.specs.Facts.{ChangesContext, ChangesGroup}
use Rattle.lwc_base.specs.Keys.{ValueOf, is_there, with_key}
use Rattle.lwc_base.specs.Mapping.{on_pages, with_pages, map_pages, unmap_pages}
use Rattle.lwc_base.specs.Memory.{touched}
use Rattle.lwc_base.specs.Sound.{HasItsGroups, HasValue, live_groups}
use Rattle.lwc_base.specs.Holders.{InCell, IsGroup}
use Rattle.lwc_base.specs.Store.{Piece, after_store, stored_pages, put_pages}
use Rattle.lwc_base.specs.World.{World, Context, context, group, is_live, change_context, change_group, change_counters}
use Rattle.lwc_base.proofs.Keys.{with_key-cases, with_key-itself, with_key-other, on_pages-cases}
use Rattle.lwc_base.proofs.Lookups.{changes-change_context, changes-change_group}
use Rattle.lwc_base.proofs.Sharing.{value_of-same}
use Rattle.lwc_base.proofs.Puts.{after_put_at, live_of_common, names-put_at, takes-after_store}
use Rattle.lwc_types.specs.declared.key.Key.{Key}
use Rattle.lwc_types.specs.declared.key.Key.TheVariants.{Page, Slot, Cred}
use Rattle.lwc_types.specs.declared.name.Name.{Name}
use Rattle.lwc_types.specs.declared.page.PageValue.{PageValue}
use Rattle.lwc_types.specs.declared.page.PageValue.TheVariants.{Zero}
use Rattle.lwc_types.proofs.Orders.{cases_name}

-- a context reads the same under a key in two worlds where its cell is the same, and so is the value of the group that it names
pub value_at-same : (v w : World) (a : Name) (k : Key) → (context v a).cell k ≡ (context w a).cell k →
    ((g : Name) → (context w a).cell k ≡ Common g → (group v g).value k ≡ (group w g).value k) → value_at v a k ≡ value_at w a k
unfolding value_at
value_at-same v w a k same groups = ap (value_of v k) same ∙ value_of-same v w k ((context w a).cell k) groups

-- what is under a key whose cell is known
pub value_at-cell : (w : World) (a : Name) (k : Key) (cell : Cell (ValueOf k)) → (context w a).cell k ≡ cell → value_at w a k ≡ value_of w k cell
unfolding value_at
value_at-cell w a k cell is = ap (value_of w k) is

-- a group that a cell names is live in a world that has the groups that its cells name
pub group_of_cell : (w : World) → HasItsGroups w → (c : Name) (k : Key) (g : Name) → (context w c).cell k ≡ Common g → IsGroup w g
group_of_cell w groups c k g common =
    let has : HasValue w k g = subst (InCell (live_groups w) c.job k) common (groups.contexts c (live_of_common w c k g common) k) in has.live

-- a change of a context's own cell
own_changes : (w : World) (c : Name) (k : Key) (value : ValueOf k) → ChangesContext w c (with_cell k (Own value)) (change_context w c (with_cell k (Own value)))
own_changes w c k value = changes-change_context w c (with_cell k (Own value))

-- a change of the value that a group has
group_changes : (w : World) (g : Name) (k : Key) (value : ValueOf k) → ChangesGroup w g (with_value k value) (change_group w g (with_value k value))
group_changes w g k value = changes-change_group w g (with_value k value)

module _ (w : World) (c : Name) (k : Key) (value : ValueOf k) where
  -- nothing else is read under another key, in any context
  pub put-other_key : (a : Name) (q : Key) → q ≢ k → value_at (put_at w c k value) a q ≡ value_at w a q
  unfolding value_at
  put-other_key a q other =
      after_put_at (λ v. value_at v a q ≡ value_at w a q) w c k value (λ _ _ _. refl)
      (λ old is there. let changes = own_changes w c k value in let same = with_key-other Cell k (Own value) (context w c).cell q other in grind (arith, cases_name))
      (λ g is. let changes = group_changes w g k value in let same = with_key-other (λ T. T) k value (group w g).value q other in grind (arith, changes.contexts a))

  -- a context that is apart reads what it did
  pub put-apart : (a : Name) → AreApart w c a k → value_at (put_at w c k value) a k ≡ value_at w a k
  unfolding value_at
  put-apart a apart =
      after_put_at (λ v. value_at v a k ≡ value_at w a k) w c k value (λ _ _ _. refl)
      (λ old is there. let changes = own_changes w c k value in grind (arith, apart.differ, changes.others a))
      (λ g is. let changes = group_changes w g k value in grind (arith, apart.no_group g, changes.contexts a))

  -- a context that has the group in common reads what is put
  pub put-common : (a : Name) → HaveInCommon w c a k → value_at (put_at w c k value) a k ≡ value
  unfolding value_at
  put-common a both =
      after_put_at (λ v. value_at v a k ≡ value) w c k value (λ old is _. grind (arith, both.first)) (λ old is _. grind (arith, both.first))
      (λ g is.
      let changes = group_changes w g k value in
      let put = with_key-itself (λ T. T) k value (group w g).value in
      grind (arith, both.live, both.first, both.second, changes.changed, changes.contexts a))

  -- and so does the context itself, where something is there, and the group that its cell names is live
  pub put-there : is_live w c ≡ true → ((g : Name) → (context w c).cell k ≡ Common g → IsGroup w g) → is_there k (value_at w c k) ≡ true →
      value_at (put_at w c k value) c k ≡ value
  unfolding value_at
  put-there live groups there =
      after_put_at (λ v. value_at v c k ≡ value) w c k value (λ old own absent. grind arith)
      (λ old own _. let changes = own_changes w c k value in let put = with_key-itself Cell k (Own value) (context w c).cell in grind (arith, changes.changed live))
      (λ g common.
      let changes = group_changes w g k value in
      let put = with_key-itself (λ T. T) k value (group w g).value in
      grind (arith, groups g common, changes.changed, changes.contexts c))

  pub put-itself : is_live w c ≡ true → HasItsGroups w → is_there k (value_at w c k) ≡ true → value_at (put_at w c k value) c k ≡ value
  put-itself live groups there = put-there live (group_of_cell w groups c k) there

  -- under the key itself each context reads what it did, or what is put
  pub put-old_or_new : (a : Name) → (value_at (put_at w c k value) a k ≡ value_at w a k) ⊎ (value_at (put_at w c k value) a k ≡ value)
  unfolding value_at
  put-old_or_new a =
      after_put_at (λ v. (value_at v a k ≡ value_at w a k) ⊎ (value_at v a k ≡ value)) w c k value (λ _ _ _. inl refl)
      (λ old is there.
      let changes = own_changes w c k value in
      let put = with_key-itself Cell k (Own value) (context w c).cell in
      cases_name a c
      (λ same. elim (is_live w c) as (λ b. is_live w c ≡ b → (value_at (change_context w c (with_cell k (Own value))) a k ≡ value_at w a k)
      ⊎ (value_at (change_context w c (with_cell k (Own value))) a k ≡ value)) [
        | true ↦ λ live. inr (let now = changes.changed live in grind arith)
        | false ↦ λ dead. inl (let still = changes.same dead in grind arith)
      ] refl)
      (λ other. inl (let still = changes.others a other in grind (arith, value_of-same))))
      (λ g is.
      let changes = group_changes w g k value in
      let put = with_key-itself (λ T. T) k value (group w g).value in
      grind (arith, changes.changed, changes.same, changes.others, changes.contexts a, cases_name))

  -- each other context stays
  pub put-others : (a : Name) → a ≢ c → context (put_at w c k value) a ≡ context w a
  put-others a other =
      after_put_at (λ v. context v a ≡ context w a) w c k value (λ _ _ _. refl)
      (λ _ _ _. (own_changes w c k value).others a other) (λ g _. (group_changes w g k value).contexts a)

  -- and so does each cell but the one
  pub put-other_cell : (a : Name) (q : Key) → (a ≡ c → q ≢ k) → (context (put_at w c k value) a).cell q ≡ (context w a).cell q
  put-other_cell a q other =
      after_put_at (λ v. (context v a).cell q ≡ (context w a).cell q) w c k value (λ _ _ _. refl)
      (λ _ _ _.
      let changes = own_changes w c k value in
      cases_name a c
      (λ same. let rest = with_key-other Cell k (Own value) (context w c).cell q (other same) in grind (arith, changes.changed, changes.same))
      (λ differ. ap (λ x. x.cell q) (changes.others a differ)))
      (λ g _. ap (λ x. x.cell q) ((group_changes w g k value).contexts a))

-- the same cells name the same groups
pub record NamesSame (w v : World) : Type 0 where
  pub there : (a : Name) (k : Key) (g : Name) → (context w a).cell k ≡ Common g → (context v a).cell k ≡ Common g
  pub back : (a : Name) (k : Key) (g : Name) → (context v a).cell k ≡ Common g → (context w a).cell k ≡ Common g

names_same-itself : (w : World) → NamesSame w w
names_same-itself w = search rules

names_same-then : (u v w : World) → NamesSame u v → NamesSame v w → NamesSame u w
names_same-then u v w first second = search rules

-- a cell that is common once one of the context's own is put was so before, and the other way round
common-with_key : (k : Key) (old value : ValueOf k) (cells : (r : Key) → Cell (ValueOf r)) (q : Key) (g : Name) → cells k ≡ Own old →
    (cells q ≡ Common g → with_key Cell k (Own value) cells q ≡ Common g) × (with_key Cell k (Own value) cells q ≡ Common g → cells q ≡ Common g)
common-with_key k old value cells q g is =
    with_key-cases Cell k (Own value) cells (λ r x. (cells r ≡ Common g → x ≡ Common g) × (x ≡ Common g → cells r ≡ Common g)) ((λ e. grind arith), (λ e. grind arith)) q (λ _. ((λ e. e), (λ e. e)))

pub names_same-put_at : (w : World) (c : Name) (k : Key) (value : ValueOf k) → NamesSame w (put_at w c k value)
names_same-put_at w c k value =
    after_put_at (NamesSame w) w c k value (λ _ _ _. names_same-itself w)
    (λ old is _. let changes = own_changes w c k value in record {
      there = λ a q h names. let cell = common-with_key k old value (context w c).cell q h is in grind (arith, cases_name);
      back = λ a q h names. let cell = common-with_key k old value (context w c).cell q h is in grind (arith, cases_name);
    })
    (λ g _. let changes = group_changes w g k value in record { there = λ a q h is. grind (arith, changes.contexts a); back = λ a q h is. grind (arith, changes.contexts a) })

names_same-put_pages : (w : World) (c : Name) (values : List (ℕ × PageValue)) → NamesSame w (put_pages w c values)
names_same-put_pages w c [] = names_same-itself w
names_same-put_pages w c (v ∷ vs) =
    names_same-then w (put_page w c v.0 v.1) _ (names_same-put_at w c (Page v.0) (Some v.1)) (names_same-put_pages (put_page w c v.0 v.1) c vs)

pub names_same-after_store : (w : World) (c : Name) (job : ℕ) (piece : Piece) → NamesSame w (after_store w c job piece)
unfolding after_store change_counters context
names_same-after_store w c job piece =
    let same = names_same-put_pages w c (stored_pages w c job piece (w.next job).tags (touched piece.at (length piece.bytes))) in record { there = same.there; back = same.back }

module _ (w v : World) (a b : Name) (k : Key) (same : NamesSame w v) where
  -- what is apart is so where the same cells name the same groups
  apart-same : AreApart w a b k → AreApart v a b k
  apart-same apart = search rules

  -- and so is what is in common, where the groups live
  common-same : ((g : Name) → fm.contains_key v.groups g ≡ fm.contains_key w.groups g) → HaveInCommon w a b k → HaveInCommon v a b k
  common-same live both = search rules

pub apart-put_at : (w : World) (c : Name) (q : Key) (value : ValueOf q) (a b : Name) (k : Key) → AreApart w a b k → AreApart (put_at w c q value) a b k
apart-put_at w c q value a b k = apart-same w _ a b k (names_same-put_at w c q value)

pub common-put_at : (w : World) (c : Name) (q : Key) (value : ValueOf q) (a b : Name) (k : Key) → HaveInCommon w a b k → HaveInCommon (put_at w c q value) a b k
common-put_at w c q value a b k = common-same w _ a b k (names_same-put_at w c q value) (names-put_at w c q value).groups

pub apart-after_store : (w : World) (c : Name) (job : ℕ) (piece : Piece) (a b : Name) (k : Key) → AreApart w a b k → AreApart (after_store w c job piece) a b k
apart-after_store w c job piece a b k = apart-same w _ a b k (names_same-after_store w c job piece)

pub common-after_store : (w : World) (c : Name) (job : ℕ) (piece : Piece) (a b : Name) (k : Key) → HaveInCommon w a b k → HaveInCommon (after_store w c job piece) a b k
common-after_store w c job piece a b k = common-same w _ a b k (names_same-after_store w c job piece) (takes-after_store w c job piece).groups

-- a range of pages of one context gets another cell of its own
module _ (w : World) (c : Name) (from to : ℕ) (value : Option PageValue) (a b : Name) (k : Key) where
  abbrev paged : Context → Context
  paged = with_pages from to value

  apart-pages : AreApart w a b k → AreApart (change_context w c paged) a b k
  apart-pages apart = record {
    differ = apart.differ;
    no_group = λ g one two.
        let changes = changes-change_context w c paged in
        let back = on_pages-cases from to (Own value) (context w c).cell (λ q x. x ≡ Common g → (context w c).cell q ≡ Common g) (λ p _ is. grind arith) k (λ is. is) in
        grind (arith, cases_name, apart.differ, apart.no_group g);
  }

  outside : (q : Key) (old : (r : Key) → Cell (ValueOf r)) → IsOutside from to q → on_pages from to (Own value) old q ≡ old q
  outside (Page p) old is = grind (arith, nat_tests)
  outside (Slot n) old is = refl
  outside Cred old is = refl

  common-pages : IsOutside from to k ⊎ ((c ≢ a) × (c ≢ b)) → HaveInCommon w a b k → HaveInCommon (change_context w c paged) a b k
  common-pages stays both = search (rules, changes-change_context, outside, cases_name)

pub apart-map_pages : (w : World) (c : Name) (from to : ℕ) (a b : Name) (k : Key) → AreApart w a b k → AreApart (map_pages w c from to) a b k
unfolding map_pages
apart-map_pages w c from to a b k = apart-pages w c from to (Some Zero) a b k

pub apart-unmap_pages : (w : World) (c : Name) (from to : ℕ) (a b : Name) (k : Key) → AreApart w a b k → AreApart (unmap_pages w c from to) a b k
unfolding unmap_pages
apart-unmap_pages w c from to a b k = apart-pages w c from to None a b k

pub common-map_pages : (w : World) (c : Name) (from to : ℕ) (a b : Name) (k : Key) → IsOutside from to k ⊎ ((c ≢ a) × (c ≢ b)) → HaveInCommon w a b k →
    HaveInCommon (map_pages w c from to) a b k
unfolding map_pages
common-map_pages w c from to a b k = common-pages w c from to (Some Zero) a b k

pub common-unmap_pages : (w : World) (c : Name) (from to : ℕ) (a b : Name) (k : Key) → IsOutside from to k ⊎ ((c ≢ a) × (c ≢ b)) → HaveInCommon w a b k →
    HaveInCommon (unmap_pages w c from to) a b k
unfolding unmap_pages
common-unmap_pages w c from to a b k = common-pages w c from to None a b k

-- two contexts that have a group in common read the same
pub value_at-common : (w : World) (a b : Name) (k : Key) → HaveInCommon w a b k → value_at w a k ≡ value_at w b k
unfolding value_at
value_at-common w a b k both = grind (arith, both.first, both.second)

pub put-apart_first : (w : World) (a b : Name) (k : Key) → AreApart w a b k → (value : ValueOf k) → value_at (put_at w b k value) a k ≡ value_at w a k
put-apart_first w a b k apart value = search (rules, put-apart)

pub ruleset apart = (put-itself, put-other_key, put-apart, put-apart_first)

pub ruleset in_common = (value_at-common, put-common, common-put_at, common-after_store, common-map_pages, common-unmap_pages)
