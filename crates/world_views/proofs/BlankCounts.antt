-- What is counted of a world, and what is dropped of it, is the same where one context is blank.
use Rattle.std.proofs.Common.{◌≡◌, ℕ, zero, suc, refl, sym, ap, ◌∙◌, Bool, true, false, cond, ltb, ◌&&◌, ◌||◌, Option, Some, None, List, [], ◌∷◌, ◌++◌, map}
use Rattle.std.specs.Prelude.{count_by}
use Rattle.std.specs.FinSet as set
use Rattle.std.specs.List.{flat_map, list_any, range_with_len}
use Rattle.std.specs.Option.{option_map}
use Rattle.std.specs.Ordering.{eq_by_cmp, is_eq}
use Rattle.std.specs.FinMap as fm
use Rattle.lwc_base.specs.Frames.{is_parting, own_value, tag_of, tags, tags_of_context, tags_of_group, used}
use Rattle.lwc_base.specs.Keys.{ValueOf}
use Rattle.lwc_base.specs.Life.{is_in, is_of, is_reached, links, names_group, reached_in, reap}
use Rattle.lwc_base.specs.Sharing.{any_key}
use Rattle.lwc_base.specs.World.{World, Context, groups_of, live_of}
use Rattle.lwc_base.specs.declared.cell.Cell.{Cell}
use Rattle.lwc_base.specs.declared.cell.Cell.TheVariants.{Own, Common}
use Rattle.lwc_types.specs.Names.{name_cmp, tag_cmp}
use Rattle.lwc_types.specs.declared.key.TheConstants.{SLOTS}
use Rattle.lwc_types.specs.declared.key.Key.{Key}
use Rattle.lwc_types.specs.declared.key.Key.TheVariants.{Page}
use Rattle.lwc_types.specs.declared.name.Name.{Name}
use Rattle.lwc_types.specs.declared.name.Tag.{Tag}
use Rattle.lwc_types.specs.declared.page.PageValue.{PageValue}
use Rattle.lwc_types.specs.declared.page.PageValue.TheVariants.{Zero, Data}
use Rattle.lwc_types.proofs.Orders.{name_cmp-IsAntisymmetric, name_cmp-total}
use Rattle.world_views.proofs.BlankAsked.{blanked, get-blank, slot-blank}
use Rattle.world_views.proofs.BlankTables.{flat_map-map, len-changed, map-changed}
use Rattle.world_views.specs.Blank.{blank, blank_cell, blank_context, blank_contexts, blank_page}

tag_of-blank : (o : Option PageValue) → tag_of (blank_page o) ≡ tag_of o
tag_of-blank None = refl
tag_of-blank (Some Zero) = refl
tag_of-blank (Some (Data tag bytes)) = refl

own_tag-blank : (p : ℕ) (cell : Cell (Option PageValue)) → tag_of (own_value (blank_cell (Page p) cell)) ≡ tag_of (own_value cell)
own_tag-blank p (Own value) = tag_of-blank value
own_tag-blank p (Common g) = refl

-- a blank context has the tags that it had
context_tags-blank : (keep : Bool) (pages : ℕ) (x : Context) → tags_of_context pages (blank_context keep x) ≡ tags_of_context pages x
unfolding tags_of_context blank_context
context_tags-blank keep pages x = λ i. flat_map (λ p. own_tag-blank p (x.cell (Page p)) i) (range_with_len 0 pages)

is_in-blank : (g : Name) (k : Key) (cell : Cell (ValueOf k)) → is_in g (blank_cell k cell) ≡ is_in g cell
is_in-blank g k (Own value) = refl
is_in-blank g k (Common h) = refl

-- and names the groups that it named
names_group-blank : (keep : Bool) (pages : ℕ) (g : Name) (x : Context) → names_group pages g (blank_context keep x) ≡ names_group pages g x
unfolding names_group blank_context
names_group-blank keep pages g x = λ i. any_key pages (λ k. is_in-blank g k (x.cell k) i)

any-map : {X Y : Type 0} (test : Y → Bool) (h : X → Y) (xs : List X) → list_any test (map h xs) ≡ list_any (λ x. test (h x)) xs
any-map test h [] = refl
any-map test h (x ∷ xs) = ap (λ b. test (h x) || b) (any-map test h xs)

any_row : {X : Type 0} (test : X → Bool) (xs : List X) → list_any test xs ≡ list_any (λ b. b) (map test xs)
any_row test [] = refl
any_row test (x ∷ xs) = ap (λ b. test x || b) (any_row test xs)

module _ (keep : Bool) (v : Name) where
  -- a row that does not tell a context from a blank one is the same in each place
  rows-blank : {Y : Type 0} (row : Name × Context → Y) → ((q : Name) (x : Context) → row (q, blank_context keep x) ≡ row (q, x)) → (m : fm.FinMap name_cmp Context) →
      map row (fm.entries (blank_contexts keep v m)) ≡ map row (fm.entries m)
  unfolding blank_contexts
  rows-blank row same m = ap (λ n. map row (fm.entries n)) (blanked keep v m (fm.get m v)) ∙ map-changed row (blank_context keep) same m v

  pub keys-blank : (m : fm.FinMap name_cmp Context) → fm.keys (blank_contexts keep v m) ≡ fm.keys m
  keys-blank m = rows-blank (λ e. e.0) (λ q x. refl) m

  len-blank : (m : fm.FinMap name_cmp Context) → fm.len (blank_contexts keep v m) ≡ fm.len m
  unfolding blank_contexts
  len-blank m = ap fm.len (blanked keep v m (fm.get m v)) ∙ len-changed m v (blank_context keep)

  -- a test of values that does not tell a context from a blank one
  any_value-blank : (test : Context → Bool) → ((x : Context) → test (blank_context keep x) ≡ test x) → (m : fm.FinMap name_cmp Context) →
      list_any test (fm.values (blank_contexts keep v m)) ≡ list_any test (fm.values m)
  any_value-blank test same m =
      any-map test (λ (e : Name × Context). e.1) (fm.entries (blank_contexts keep v m)) ∙ any_row (λ (e : Name × Context). test e.1) (fm.entries (blank_contexts keep v m))
      ∙ ap (list_any (λ b. b)) (rows-blank (λ e. test e.1) (λ q x. same x) m)
      ∙ sym (any-map test (λ (e : Name × Context). e.1) (fm.entries m) ∙ any_row (λ (e : Name × Context). test e.1) (fm.entries m))

  module _ (w : World) where
    pub live_of-blank : (job : ℕ) → live_of (blank keep v w) job ≡ live_of w job
    unfolding live_of
    live_of-blank job = ap (count_by _) (keys-blank w.contexts)

    pub groups_of-blank : (job : ℕ) → groups_of (blank keep v w) job ≡ groups_of w job
    unfolding groups_of
    groups_of-blank job = refl

    pub tags-blank : tags (blank keep v w) ≡ tags w
    unfolding tags
    tags-blank = ap (λ ts. ts ++ flat_map (λ e. tags_of_group w.size.pages e.1) (fm.entries w.groups))
        (sym (flat_map-map (λ (ts : List Tag). ts) (λ (e : Name × Context). tags_of_context w.size.pages e.1) (fm.entries (blank_contexts keep v w.contexts)))
        ∙ ap (flat_map (λ (ts : List Tag). ts)) (rows-blank (λ e. tags_of_context w.size.pages e.1) (λ q x. context_tags-blank keep w.size.pages x) w.contexts)
        ∙ flat_map-map (λ (ts : List Tag). ts) (λ (e : Name × Context). tags_of_context w.size.pages e.1) (fm.entries w.contexts))

    pub used-blank : used (blank keep v w) ≡ used w
    unfolding used
    used-blank = ap (λ ts. set.len (set.from_list {R = tag_cmp} ts)) tags-blank

    pub parting-blank : (value : PageValue) → is_parting (blank keep v w) value ≡ is_parting w value
    unfolding is_parting
    parting-blank Zero = refl
    parting-blank (Data tag bytes) = ap (λ ts. ltb 1 (count_by (λ t. is_eq (tag_cmp t tag)) ts)) tags-blank

    links-blank : (d c : Name) → links (blank keep v w) d c ≡ links w d c
    unfolding links
    links-blank d c = λ i. list_any (λ n. is_of c (slot-blank keep v w d n i)) (range_with_len 0 SLOTS)

    reached_in-blank : (roots : List Name) (k : ℕ) (c : Name) → reached_in (blank keep v w) roots k c ≡ reached_in w roots k c
    reached_in-blank roots zero c = refl
    reached_in-blank roots (suc k) c =
        λ i. reached_in-blank roots k c i || list_any (λ d. reached_in-blank roots k d i && links-blank d c i) (keys-blank w.contexts i)

    reached-blank : (roots : List Name) (c : Name) → is_reached (blank keep v w) roots c ≡ is_reached w roots c
    unfolding is_reached
    reached-blank roots c = reached_in-blank roots (fm.len (blank_contexts keep v w.contexts)) c ∙ ap (λ n. reached_in w roots n c) (len-blank w.contexts)

    get-kept : (m : fm.FinMap name_cmp Context) (p : Name → Bool) (q : Name) → fm.get (fm.retain_keys m p) q ≡ cond (p q) (fm.get m q) None
    get-kept m p q = fm.get-retain_keys m p q (λ x tie. ap p (sym (name_cmp-IsAntisymmetric q x tie)))

    either_order : (kept same : Bool) (o : Option Context) →
        cond kept (cond same (option_map (blank_context keep) o) o) None ≡ cond same (option_map (blank_context keep) (cond kept o None)) (cond kept o None)
    either_order true same o = refl
    either_order false true o = refl
    either_order false false o = refl

    kept-blank : (p : Name → Bool) → fm.retain_keys (blank_contexts keep v w.contexts) p ≡ blank_contexts keep v (fm.retain_keys w.contexts p)
    kept-blank p = fm.same_map name_cmp-total name_cmp-IsAntisymmetric _ _ (λ q.
        get-kept (blank_contexts keep v w.contexts) p q ∙ ap (λ o. cond (p q) o None) (get-blank keep v w.contexts q)
        ∙ either_order (p q) (eq_by_cmp name_cmp q v) (fm.get w.contexts q)
        ∙ ap (λ o. cond (eq_by_cmp name_cmp q v) (option_map (blank_context keep) o) o) (sym (get-kept w.contexts p q))
        ∙ sym (get-blank keep v (fm.retain_keys w.contexts p) q))

    pub reap-blank : (roots : List Name) → reap (blank keep v w) roots ≡ blank keep v (reap w roots)
    unfolding reap
    reap-blank roots =
        let kept = ap (fm.retain_keys (blank_contexts keep v w.contexts)) (λ i c. reached-blank roots c i) ∙ kept-blank (is_reached w roots) in
        λ i. record w {
          contexts = kept i;
          groups = fm.retain_keys w.groups (λ g. (ap (λ (m : fm.FinMap name_cmp Context). list_any (names_group w.size.pages g) (fm.values m)) kept
              ∙ any_value-blank (names_group w.size.pages g) (names_group-blank keep w.size.pages g) (fm.retain_keys w.contexts (is_reached w roots))) i);
        }
