-- What a reaped world has, and what it has kept.
use Rattle.std.proofs.Common.{subst, T, ◌&&◌, ◌≡◌, inl, inr, ℕ, zero, suc, ◌+◌, ◌≤◌, ◌<◌, refl, sym, ap, ◌∙◌, Bool, true, false, cond, ◌||◌, Option, Some, None, List, [], ◌∷◌, map, arith}
use Rattle.std.proofs.lemmas.Bool.{false≢true}
use Rattle.std.specs.Prelude.{is_some, unwrap_or}
use Rattle.std.specs.List.{list_any, range_with_len}
use Rattle.std.specs.Ordering.{eq_by_cmp}
use Rattle.std.specs.FinMap as fm
use Rattle.std.specs.FinMap.Entries.{below_all, find, is_sorted}
use Rattle.lwc_base.specs.declared.cell.Cell.{Cell}
use Rattle.lwc_base.specs.declared.cell.Cell.TheVariants.{Own, Common}
use Rattle.lwc_base.specs.Cells.{slot_at, value_at, value_of}
use Rattle.lwc_base.specs.Clones.{AreApart, HaveInCommon}
use Rattle.lwc_base.specs.Keys.{ValueOf}
use Rattle.lwc_base.specs.Life.{IsReaped, is_of, links, is_reached, is_in, names_group, reap, Reaches, Root, Link}
use Rattle.lwc_base.specs.Modes.{IsKey}
use Rattle.lwc_base.specs.Sharing.{any_key}
use Rattle.lwc_base.specs.World.{World, Context, Group, is_live, context, group, new_context, new_group}
use Rattle.lwc_base.proofs.Life.{or_cases, or_left, or_right, reached_by_way, way_of_reached}
use Rattle.lwc_base.proofs.Needs.{any_key-some, some_in_range}
use Rattle.lwc_types.specs.declared.key.TheConstants.{SLOTS}
use Rattle.lwc_types.specs.declared.key.Key.{Key}
use Rattle.lwc_types.specs.declared.key.Key.TheVariants.{Page, Slot, Cred}
use Rattle.lwc_types.specs.declared.name.Name.{Name}
use Rattle.lwc_types.specs.Names.{name_cmp}
use Rattle.lwc_types.specs.Registers.{fresh_registers}
use Rattle.lwc_types.proofs.Orders.{name_cmp-total, name_cmp-IsAntisymmetric, name-itself, same_name}
use Rattle.std.proofs.lemmas.Cmp.{tied_itself}
use Rattle.std.specs.Ordering.{is_eq, is_lt}
use Rattle.std.specs.declared.cmp.Ordering.{Ordering}
use Rattle.std.specs.declared.cmp.Ordering.TheVariants.{Less, Equal, Greater}

pub number_in : (test : ℕ → Bool) (n a : ℕ) → list_any test (range_with_len a n) ≡ true → (p : ℕ) × (a ≤ p) × (p < a + n) × (test p ≡ true)
number_in test zero a e = absurd (false≢true e)
number_in test (suc n) a e =
    elim (or_cases (test a) (list_any test (range_with_len (a + 1) n)) e) [
      | inl here ↦ (a, omega arith, omega arith, here)
      | inr later ↦ let found = number_in test n (a + 1) later in (found.0, omega (arith, found.1), omega (arith, found.2), found.3)
    ]

pub any_entry : {X : Type 0} (test : X → Bool) (es : List (Name × X)) (q : Name) (x : X) → find name_cmp q es ≡ Some x → test x ≡ true → list_any test (map (λ (e : Name × X). e.1) es) ≡ true
any_entry test [] q x there passes = cc
any_entry {X} test (e ∷ es) q x there passes =
    elim (eq_by_cmp name_cmp q e.0) as (λ c. cond c (Some e.1) (find name_cmp q es) ≡ Some x → (test e.1 || list_any test (map (λ (f : Name × X). f.1) es)) ≡ true) [
      | true ↦ λ is. or_left _ _ (ap (λ o. test (unwrap_or o x)) is ∙ passes)
      | false ↦ λ is. or_right _ _ (any_entry test es q x is passes)
    ] there

pub any_value : {X : Type 0} (test : X → Bool) (m : fm.FinMap name_cmp X) (q : Name) (x : X) → fm.get m q ≡ Some x → test x ≡ true → list_any test (fm.values m) ≡ true
any_value test m q x there passes = any_entry test (fm.entries m) q x (sym (fm.get-entries m q) ∙ there) passes

get-kept : {X : Type 0} (m : fm.FinMap name_cmp X) (p : Name → Bool) (q : Name) → fm.get (fm.retain_keys m p) q ≡ cond (p q) (fm.get m q) None
get-kept m p q = fm.get-retain_keys m p q (λ x tie. ap p (sym (name_cmp-IsAntisymmetric q x tie)))

pub there_of : {X : Type 0} (o : Option X) (d : X) → is_some o ≡ true → o ≡ Some (unwrap_or o d)
there_of None d e = absurd (false≢true e)
there_of (Some x) d e = refl

there : (w : World) (c : Name) → is_live w c ≡ true → fm.get w.contexts c ≡ Some (context w c)
unfolding context
there w c live = there_of (fm.get w.contexts c) _ live

kept_twice : {X : Type 0} (a b : Bool) (o p : Option X) → p ≡ cond a o None → (is_some o ≡ true → a ≡ true → b ≡ true) → cond b p None ≡ p
kept_twice a true o p is tests = refl
kept_twice true false None p is tests = sym is
kept_twice true false (Some x) p is tests = absurd (false≢true (tests refl refl))
kept_twice false false o p is tests = sym is

was_reached : {X : Type 0} (b : Bool) (o : Option X) → is_some (cond b o None) ≡ true → b ≡ true
was_reached true o e = refl
was_reached false o e = absurd (false≢true e)

was_there : {X : Type 0} (b : Bool) (o : Option X) → is_some (cond b o None) ≡ true → is_some o ≡ true
was_there true o e = e
was_there false o e = absurd (false≢true e)

retained : {X : Type 0} (m : fm.FinMap name_cmp X) (p q : Name → Bool) → ((k : Name) → p k ≡ true → q k ≡ true) → fm.retain_keys (fm.retain_keys m p) q ≡ fm.retain_keys m p
retained m p q also = fm.same_map name_cmp-total name_cmp-IsAntisymmetric _ _ (λ k. get-kept (fm.retain_keys m p) q k ∙ kept_twice (p k) (q k) (fm.get m k) (fm.get (fm.retain_keys m p) k) (get-kept m p k) (λ here e. also k e))

module _ (w : World) (roots : List Name) where
  get-context : (c : Name) → fm.get (reap w roots).contexts c ≡ cond (is_reached w roots c) (fm.get w.contexts c) None
  unfolding reap
  get-context c = get-kept w.contexts (is_reached w roots) c

  named : Name → Bool
  named g = list_any (names_group w.size.pages g) (fm.values (fm.retain_keys w.contexts (is_reached w roots)))

  get-group : (g : Name) → fm.get (reap w roots).groups g ≡ cond (named g) (fm.get w.groups g) None
  unfolding reap named
  get-group g = get-kept w.groups _ g

  kept-context : (c : Name) → is_reached w roots c ≡ true → fm.get (reap w roots).contexts c ≡ fm.get w.contexts c
  kept-context c e = get-context c ∙ ap (λ b. cond b (fm.get w.contexts c) None) e

  -- exactly the live contexts that are reached are live afterwards
  pub live-kept : (c : Name) → is_live w c ≡ true → is_reached w roots c ≡ true → is_live (reap w roots) c ≡ true
  live-kept c live e = ap is_some (kept-context c e) ∙ live

  pub live-was_reached : (c : Name) → is_live (reap w roots) c ≡ true → is_reached w roots c ≡ true
  live-was_reached c live = was_reached (is_reached w roots c) (fm.get w.contexts c) (sym (ap is_some (get-context c)) ∙ live)

  pub live-was_live : (c : Name) → is_live (reap w roots) c ≡ true → is_live w c ≡ true
  live-was_live c live = was_there (is_reached w roots c) (fm.get w.contexts c) (sym (ap is_some (get-context c)) ∙ live)

  same-context : (c : Name) → is_reached w roots c ≡ true → context (reap w roots) c ≡ context w c
  unfolding context
  same-context c e = ap (λ o. unwrap_or o (new_context 0 (fresh_registers 0))) (kept-context c e)

  -- a group that a cell of a kept context names is kept
  named-kept : (c g : Name) (k : Key) → IsKey w.size.pages k → is_live w c ≡ true → is_reached w roots c ≡ true → (context w c).cell k ≡ Common g → named g ≡ true
  unfolding named names_group
  named-kept c g k within live e is =
      any_value (names_group w.size.pages g) (fm.retain_keys w.contexts (is_reached w roots)) c (context w c)
      (get-kept w.contexts (is_reached w roots) c ∙ ap (λ b. cond b (fm.get w.contexts c) None) e ∙ there w c live)
      (any_key-some w.size.pages (λ q. is_in g ((context w c).cell q)) k within (ap (is_in g) is ∙ name-itself g))

  -- a group that is left was there
  pub was_group-reap : (g : Name) → fm.contains_key (reap w roots).groups g ≡ true → fm.contains_key w.groups g ≡ true
  was_group-reap g live = was_there (named g) (fm.get w.groups g) (sym (ap is_some (get-group g)) ∙ live)

  -- a group is left that a cell of a context that is left names
  pub group-left : (c g : Name) (k : Key) → IsKey w.size.pages k → is_live (reap w roots) c ≡ true → (context w c).cell k ≡ Common g → fm.contains_key w.groups g ≡ true →
      fm.contains_key (reap w roots).groups g ≡ true
  group-left c g k within live is there = ap is_some (get-group g ∙ ap (λ b. cond b (fm.get w.groups g) None) (named-kept c g k within (live-was_live c live) (live-was_reached c live) is)) ∙ there

  same-group : (g : Name) → named g ≡ true → group (reap w roots) g ≡ group w g
  unfolding group
  same-group g e = ap (λ o. unwrap_or o new_group) (get-group g ∙ ap (λ b. cond b (fm.get w.groups g) None) e)

  value_of-kept : (c : Name) (k : Key) (cell : Cell (ValueOf k)) → IsKey w.size.pages k → is_live w c ≡ true → is_reached w roots c ≡ true →
      (context w c).cell k ≡ cell → value_of (reap w roots) k cell ≡ value_of w k cell
  value_of-kept c k (Own value) within live e is = refl
  value_of-kept c k (Common g) within live e is = ap (λ (x : Group). x.value k) (same-group g (named-kept c g k within live e is))

  -- a context that lives keeps every value
  pub value_at-kept : (c : Name) (k : Key) → IsKey w.size.pages k → is_live (reap w roots) c ≡ true → value_at (reap w roots) c k ≡ value_at w c k
  unfolding value_at
  value_at-kept c k within live =
      let e = live-was_reached c live in
      ap (λ (x : Context). value_of (reap w roots) k (x.cell k)) (same-context c e)
      ∙ value_of-kept c k ((context w c).cell k) within (live-was_live c live) e refl

  pub context-kept : (c : Name) → is_live (reap w roots) c ≡ true → context (reap w roots) c ≡ context w c
  context-kept c live = same-context c (live-was_reached c live)

  -- what contexts that are left have apart and in common stays
  pub reap-apart : (a b : Name) (k : Key) → is_live (reap w roots) a ≡ true → is_live (reap w roots) b ≡ true → AreApart w a b k → AreApart (reap w roots) a b k
  reap-apart a b k live_a live_b apart = record {
    differ = apart.differ;
    no_group = λ g one two. apart.no_group g (ap (λ (x : Context). x.cell k) (sym (context-kept a live_a)) ∙ one) (ap (λ (x : Context). x.cell k) (sym (context-kept b live_b)) ∙ two);
  }

  pub reap-common : (a b : Name) (k : Key) → IsKey w.size.pages k → is_live (reap w roots) a ≡ true → is_live (reap w roots) b ≡ true → HaveInCommon w a b k →
      HaveInCommon (reap w roots) a b k
  reap-common a b k within live_a live_b both = record {
    group = both.group;
    live = group-left a both.group k within live_a both.first both.live;
    first = ap (λ (x : Context). x.cell k) (context-kept a live_a) ∙ both.first;
    second = ap (λ (x : Context). x.cell k) (context-kept b live_b) ∙ both.second;
  }

  pub group-kept : (g : Name) → fm.contains_key (reap w roots).groups g ≡ true → group (reap w roots) g ≡ group w g
  group-kept g live = same-group g (was_reached (named g) (fm.get w.groups g) (sym (ap is_some (get-group g)) ∙ live))

  links-kept : (d c : Name) → is_live (reap w roots) d ≡ true → links w d c ≡ true → links (reap w roots) d c ≡ true
  unfolding links
  links-kept d c live link =
      let found = number_in (λ n. is_of c (slot_at w d n)) SLOTS 0 link in
      some_in_range (λ n. is_of c (slot_at (reap w roots) d n)) SLOTS 0 found.0 found.1 found.2
      (ap (is_of c) (value_at-kept d (Slot found.0) (omega (arith, found.2)) live) ∙ found.3)

  pub links-were : (d c : Name) → is_live (reap w roots) d ≡ true → links (reap w roots) d c ≡ true → links w d c ≡ true
  unfolding links
  links-were d c live link =
      let found = number_in (λ n. is_of c (slot_at (reap w roots) d n)) SLOTS 0 link in
      some_in_range (λ n. is_of c (slot_at w d n)) SLOTS 0 found.0 found.1 found.2
      (ap (is_of c) (sym (value_at-kept d (Slot found.0) (omega (arith, found.2)) live)) ∙ found.3)

  -- a live context is kept exactly where a chain of live contexts leads to it
  pub kept-by_way : (c : Name) → is_live w c ≡ true → Reaches w roots c → is_live (reap w roots) c ≡ true
  kept-by_way c live way = live-kept c live (reached_by_way w roots c way live)

  pub way-of_kept : (c : Name) → is_live (reap w roots) c ≡ true → Reaches w roots c
  way-of_kept c live = way_of_reached w roots c (live-was_reached c live)

  way-kept : (c : Name) → Reaches w roots c → Reaches (reap w roots) roots c
  way-kept _ (Root c e) = Root c e
  way-kept _ (Link d c before live link) =
      let kept = kept-by_way d live before in
      Link d c (way-kept d before) kept (links-kept d c kept link)

  -- what is dropped is named by nothing that is left
  dropped : (d c : Name) (b : Bool) → links (reap w roots) d c ≡ b → is_live w c ≡ true → is_live (reap w roots) c ≡ false → is_live (reap w roots) d ≡ true → b ≡ false
  dropped d c false link was gone live = refl
  dropped d c true link was gone live =
      sym (kept-by_way c was (Link d c (way-of_kept d live) (live-was_live d live) (links-were d c live link))) ∙ gone

  pub dropped-unnamed : (d c : Name) → is_live w c ≡ true → is_live (reap w roots) c ≡ false → is_live (reap w roots) d ≡ true → links (reap w roots) d c ≡ false
  dropped-unnamed d c was gone live = dropped d c _ refl was gone live

  contexts-twice : (c : Name) → fm.get (reap (reap w roots) roots).contexts c ≡ fm.get (reap w roots).contexts c
  unfolding reap
  contexts-twice c =
      get-kept (fm.retain_keys w.contexts (is_reached w roots)) (is_reached (reap w roots) roots) c
      ∙ kept_twice (is_reached w roots c) (is_reached (reap w roots) roots c) (fm.get w.contexts c) (fm.get (fm.retain_keys w.contexts (is_reached w roots)) c)
      (get-kept w.contexts (is_reached w roots) c)
      (λ here e. reached_by_way (reap w roots) roots c (way-kept c (way_of_reached w roots c e)) (live-kept c here e))

  -- nothing is dropped a second time
  pub reap-twice : reap (reap w roots) roots ≡ reap w roots
  unfolding reap
  reap-twice =
      let contexts = fm.same_map name_cmp-total name_cmp-IsAntisymmetric _ _ contexts-twice in
      λ i. record (reap w roots) {
        contexts = contexts i;
        groups = retained w.groups (λ g. list_any (names_group w.size.pages g) (fm.values (fm.retain_keys w.contexts (is_reached w roots))))
            (λ g. list_any (names_group w.size.pages g) (fm.values (fm.retain_keys (fm.retain_keys w.contexts (is_reached w roots)) (is_reached (reap w roots) roots))))
            (λ g e. ap (λ (m : fm.FinMap name_cmp Context). list_any (names_group w.size.pages g) (fm.values m)) contexts ∙ e) i;
      }

tail_of : (a b : Bool) → T (a && b) → T b
tail_of true b h = h
tail_of false b h = absurd h

head_of : (a b : Bool) → T (a && b) → T a
head_of true b h = tt
head_of false b h = absurd h

pub not_tied : (o : Ordering) → T (is_lt o) → is_eq o ≡ false
not_tied Less h = refl
not_tied Equal h = absurd h
not_tied Greater h = absurd h

-- of each entry of a list
abbrev AllEntries : {X : Type 0} → (Name → X → Type 0) → List (Name × X) → Type 0
AllEntries P [] = Unit {0}
AllEntries P (e ∷ es) = P e.0 e.1 × AllEntries P es

-- of a value that was found
abbrev OfSome : {X : Type 0} → (X → Type 0) → Option X → Type 0
OfSome P None = Unit {0}
OfSome P (Some x) = P x

module _ {X : Type 0} where
  pub none_below : (x : Name) (es : List (Name × X)) → T (below_all name_cmp x es) → find name_cmp x es ≡ None
  none_below x [] h = refl
  none_below x (e ∷ es) h = ap (λ b. cond b (Some e.1) (find name_cmp x es)) (not_tied (name_cmp x e.0) (head_of _ _ h)) ∙ none_below x es (tail_of _ _ h)

  later_entry : (P : Name → X → Type 0) (q : Name) (e : Name × X) (es : List (Name × X)) (b : Bool) → eq_by_cmp name_cmp q e.0 ≡ b → T (below_all name_cmp e.0 es) →
      OfSome (P q) (cond b (Some e.1) (find name_cmp q es)) → OfSome (P q) (find name_cmp q es)
  later_entry P q e es false other below is = is
  later_entry P q e es true same below is = subst (OfSome (P q)) (sym (ap (λ n. find name_cmp n es) (same_name q e.0 same) ∙ none_below e.0 es below)) tt

  -- what holds of each value that is found holds of each entry
  each_entry : (P : Name → X → Type 0) (es : List (Name × X)) → T (is_sorted name_cmp es) → ((q : Name) → OfSome (P q) (find name_cmp q es)) → AllEntries P es
  each_entry P [] sorted all = tt
  each_entry P (e ∷ es) sorted all = (
    subst (λ b. OfSome (P e.0) (cond b (Some e.1) (find name_cmp e.0 es))) (ap is_eq (tied_itself name_cmp-total e.0)) (all e.0),
    each_entry P es (tail_of _ _ sorted) (λ q. later_entry P q e es _ refl (head_of _ _ sorted) (all q)),
  )

  itself : (o : Option X) → OfSome (λ x. o ≡ Some x) o
  itself None = tt
  itself (Some x) = refl

  some_entry : (P : Name → X → Type 0) (test : X → Bool) (es : List (Name × X)) → AllEntries P es → list_any test (map (λ (e : Name × X). e.1) es) ≡ true → (q : Name) × (x : X) × P q x × (test x ≡ true)
  some_entry P test [] all e = absurd (false≢true e)
  some_entry P test (e ∷ es) all passes =
      elim (or_cases (test e.1) (list_any test (map (λ (f : Name × X). f.1) es)) passes) [ inl here ↦ (e.0, e.1, all.0, here) | inr later ↦ some_entry P test es all.1 later ]

  -- a test passes at some value of a map
  pub some_value : (test : X → Bool) (m : fm.FinMap name_cmp X) → list_any test (fm.values m) ≡ true → (q : Name) × (x : X) × (fm.get m q ≡ Some x) × (test x ≡ true)
  some_value test m passes =
      some_entry (λ q x. fm.get m q ≡ Some x) test (fm.entries m)
      (each_entry (λ q x. fm.get m q ≡ Some x) (fm.entries m) (fm.entries_sorted m) (λ q. subst (λ o. OfSome (λ x. fm.get m q ≡ Some x) o) (fm.get-entries m q) (itself (fm.get m q)))) passes

-- some key of those that there are passes a test
pub some_key : (pages : ℕ) (test : Key → Bool) → any_key pages test ≡ true → (k : Key) × IsKey pages k × (test k ≡ true)
unfolding any_key
some_key pages test e =
    elim (or_cases (list_any (λ p. test (Page p)) (range_with_len 0 pages) || list_any (λ n. test (Slot n)) (range_with_len 0 SLOTS)) (test Cred) e) [
      | inl front ↦
          elim (or_cases (list_any (λ p. test (Page p)) (range_with_len 0 pages)) (list_any (λ n. test (Slot n)) (range_with_len 0 SLOTS)) front) [
            | inl page ↦ let found = number_in (λ p. test (Page p)) pages 0 page in (Page found.0, omega (arith, found.2), found.3)
            | inr slot ↦ let found = number_in (λ n. test (Slot n)) SLOTS 0 slot in (Slot found.0, omega (arith, found.2), found.3)
          ]
      | inr cred ↦ (Cred, omega arith, cred)
    ]

named_by : {T : Type 0} (g : Name) (cell : Cell T) → is_in g cell ≡ true → cell ≡ Common g
named_by g (Own value) e = cc
named_by g (Common h) e = ap Common (same_name h g e)

found_in : (w : World) (roots : List Name) (c : Name) (x : Context) → fm.get (fm.retain_keys w.contexts (is_reached w roots)) c ≡ Some x →
    (is_live (reap w roots) c ≡ true) × (context (reap w roots) c ≡ x)
unfolding reap context
found_in w roots c x e = (ap is_some e, ap (λ o. unwrap_or o (new_context 0 (fresh_registers 0))) e)

-- a group that is left is named by a cell of a context that is left
pub group-named : (w : World) (roots : List Name) (g : Name) → fm.contains_key (reap w roots).groups g ≡ true →
    (c : Name) × (k : Key) × IsKey w.size.pages k × (is_live (reap w roots) c ≡ true) × ((context (reap w roots) c).cell k ≡ Common g)
unfolding names_group named
group-named w roots g live =
    let some = some_value (names_group w.size.pages g) (fm.retain_keys w.contexts (is_reached w roots)) (was_reached (named w roots g) (fm.get w.groups g) (sym (ap is_some (get-group w roots g)) ∙ live)) in
    let key = some_key w.size.pages (λ k. is_in g (some.1.cell k)) some.3 in
    let found = found_in w roots some.0 some.1 some.2 in
    (some.0, key.0, key.1, found.0, ap (λ (x : Context). x.cell key.0) found.1 ∙ named_by g (some.1.cell key.0) key.2)

kept_or_gone : {X : Type 0} (b : Bool) (o : Option X) → (is_some o ≡ true → b ≡ true) → cond b o None ≡ o
kept_or_gone true o kept = refl
kept_or_gone false None kept = refl
kept_or_gone false (Some x) kept = absurd (false≢true (kept refl))

-- a world in which nothing is left to drop is as it is once it is reaped
pub reap-reaped : (w : World) (roots : List Name) → IsReaped w roots → reap w roots ≡ w
unfolding reap names_group named
reap-reaped w roots reaped =
    let contexts : fm.retain_keys w.contexts (is_reached w roots) ≡ w.contexts =
    fm.same_map name_cmp-total name_cmp-IsAntisymmetric _ _
    (λ c. get-kept w.contexts (is_reached w roots) c ∙ kept_or_gone (is_reached w roots c) (fm.get w.contexts c) (λ live. reached_by_way w roots c (reaped.contexts c live) live)) in
    let groups : fm.retain_keys w.groups (named w roots) ≡ w.groups =
    fm.same_map name_cmp-total name_cmp-IsAntisymmetric _ _
    (λ g. get-kept w.groups (named w roots) g ∙ kept_or_gone (named w roots g) (fm.get w.groups g)
    (λ live. let by = reaped.groups g live in
    named-kept w roots by.0 g by.1 by.2 by.3 (reached_by_way w roots by.0 (reaped.contexts by.0 by.3) by.3) by.4)) in
    λ i. record w { contexts = contexts i; groups = groups i }

-- nothing is left to drop in a reaped world
pub reaped-reap : (w : World) (roots : List Name) → IsReaped (reap w roots) roots
unfolding reap
reaped-reap w roots = record { contexts = λ c live. way-kept w roots c (way-of_kept w roots c live); groups = λ g live. group-named w roots g live }

-- the size stays, and so does what jobs have counted
pub reap-stays : (w : World) (roots : List Name) → ((reap w roots).size ≡ w.size) × ((reap w roots).next ≡ w.next)
unfolding reap
reap-stays w roots = (refl, refl)
