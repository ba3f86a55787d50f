-- Tables by name whose values are all changed by one function.
use Rattle.std.proofs.Common.{◌≡◌, ◌∙◌, refl, sym, ap, subst, suc, Bool, true, false, cond, ◌&&◌, ◌||◌, Option, Some, None, List, [], ◌∷◌, ◌++◌, map, length}
use Rattle.std.specs.Prelude.{T, is_some}
use Rattle.std.specs.List.{AllByRecursion, flat_map, list_any}
use Rattle.std.specs.Option.{option_map}
use Rattle.std.specs.Ordering.{eq_by_cmp, is_lt}
use Rattle.std.specs.FinMap as fm
use Rattle.std.specs.FinMap.Entries.{below_all, find, is_sorted}
use Rattle.lwc_base.proofs.Facts.{orders}
use Rattle.lwc_types.specs.Names.{name_cmp}
use Rattle.lwc_types.specs.declared.name.Name.{Name}

pub map-map : {X Y Z : Type 0} (g : Y → Z) (f : X → Y) (xs : List X) → map g (map f xs) ≡ map (λ x. g (f x)) xs
map-map g f [] = refl
map-map g f (x ∷ xs) = ap (λ zs. g (f x) ∷ zs) (map-map g f xs)

length-mapped : {X Y : Type 0} (f : X → Y) (xs : List X) → length (map f xs) ≡ length xs
length-mapped f [] = refl
length-mapped f (x ∷ xs) = ap suc (length-mapped f xs)

chosen : {X Y : Type 0} (f : X → Y) (b : Bool) (x : X) (o : Option X) → cond b (Some (f x)) (option_map f o) ≡ option_map f (cond b (Some x) o)
chosen f true x o = refl
chosen f false x o = refl

kept_or_not : {X Y : Type 0} (f : X → Y) (b : Bool) (o : Option X) → cond b (option_map f o) None ≡ option_map f (cond b o None)
kept_or_not f true o = refl
kept_or_not f false o = refl

pub get-kept : {Z : Type 0} (m : fm.FinMap name_cmp Z) (p : Name → Bool) (q : Name) → fm.get (fm.retain_keys m p) q ≡ cond (p q) (fm.get m q) None
get-kept m p q = fm.get-retain_keys m p q (λ x tie. ap p (sym (orders.one_name q x tie)))

module _ {X Y : Type 0} (f : X → Y) where
  -- entries with their values changed
  abbrev pub mapped : List (Name × X) → List (Name × Y)
  mapped es = map (λ e. (e.0, f e.1)) es

  find-mapped : (q : Name) (es : List (Name × X)) → find name_cmp q (mapped es) ≡ option_map f (find name_cmp q es)
  find-mapped q [] = refl
  find-mapped q (e ∷ es) = ap (cond (eq_by_cmp name_cmp q e.0) (Some (f e.1))) (find-mapped q es) ∙ chosen f (eq_by_cmp name_cmp q e.0) e.1 (find name_cmp q es)

  below-mapped : (x : Name) (es : List (Name × X)) → below_all name_cmp x (mapped es) ≡ below_all name_cmp x es
  below-mapped x [] = refl
  below-mapped x (e ∷ es) = ap (λ b. is_lt (name_cmp x e.0) && b) (below-mapped x es)

  sorted-mapped : (es : List (Name × X)) → is_sorted name_cmp (mapped es) ≡ is_sorted name_cmp es
  sorted-mapped [] = refl
  sorted-mapped (e ∷ es) = λ i. below-mapped e.0 es i && sorted-mapped es i

  -- the table with its values changed
  unfoldable pub with_values : fm.FinMap name_cmp X → fm.FinMap name_cmp Y
  with_values m = fm.from_sorted (mapped (fm.entries m))

  still_sorted : (m : fm.FinMap name_cmp X) → T (is_sorted name_cmp (mapped (fm.entries m)))
  still_sorted m = subst T (sym (sorted-mapped (fm.entries m))) (fm.entries_sorted m)

  pub entries-with : (m : fm.FinMap name_cmp X) → fm.entries (with_values m) ≡ mapped (fm.entries m)
  unfolding with_values
  entries-with m = fm.entries-from_sorted name_cmp (mapped (fm.entries m)) (still_sorted m)

  pub get-with : (m : fm.FinMap name_cmp X) (q : Name) → fm.get (with_values m) q ≡ option_map f (fm.get m q)
  unfolding with_values
  get-with m q =
      fm.get-from_sorted name_cmp (mapped (fm.entries m)) q (still_sorted m) ∙ find-mapped q (fm.entries m) ∙ ap (option_map f) (sym (fm.get-entries m q))

  some-mapped : (o : Option X) → is_some (option_map f o) ≡ is_some o
  some-mapped None = refl
  some-mapped (Some x) = refl

  pub has-with : (m : fm.FinMap name_cmp X) (q : Name) → fm.contains_key (with_values m) q ≡ fm.contains_key m q
  has-with m q = ap is_some (get-with m q) ∙ some-mapped (fm.get m q)

  pub keys-with : (m : fm.FinMap name_cmp X) → fm.keys (with_values m) ≡ fm.keys m
  keys-with m = ap (map (λ (e : Name × Y). e.0)) (entries-with m) ∙ map-map (λ (e : Name × Y). e.0) (λ (e : Name × X). (e.0, f e.1)) (fm.entries m)

  pub values-with : (m : fm.FinMap name_cmp X) → fm.values (with_values m) ≡ map f (fm.values m)
  values-with m =
      ap (map (λ (e : Name × Y). e.1)) (entries-with m) ∙ map-map (λ (e : Name × Y). e.1) (λ (e : Name × X). (e.0, f e.1)) (fm.entries m)
      ∙ sym (map-map f (λ (e : Name × X). e.1) (fm.entries m))

  pub len-with : (m : fm.FinMap name_cmp X) → fm.len (with_values m) ≡ fm.len m
  len-with m = fm.len-entries (with_values m) ∙ ap length (entries-with m) ∙ length-mapped (λ (e : Name × X). (e.0, f e.1)) (fm.entries m) ∙ sym (fm.len-entries m)

  pub empty-with : with_values fm.empty ≡ fm.empty
  empty-with = fm.same_map orders.names orders.one_name (with_values fm.empty) fm.empty (λ q.
      get-with fm.empty q ∙ ap (option_map f) (fm.get-empty name_cmp q) ∙ sym (fm.get-empty name_cmp q))

  pub insert-with : (m : fm.FinMap name_cmp X) (k : Name) (x : X) → fm.insert (with_values m) k (f x) ≡ with_values (fm.insert m k x)
  insert-with m k x = fm.same_map orders.names orders.one_name (fm.insert (with_values m) k (f x)) (with_values (fm.insert m k x)) (λ q.
      fm.get-insert orders.names (with_values m) k (f x) q
      ∙ ap (cond (eq_by_cmp name_cmp q k) (Some (f x))) (get-with m q)
      ∙ chosen f (eq_by_cmp name_cmp q k) x (fm.get m q)
      ∙ ap (option_map f) (sym (fm.get-insert orders.names m k x q))
      ∙ sym (get-with (fm.insert m k x) q))

  pub retain-with : (m : fm.FinMap name_cmp X) (p : Name → Bool) → fm.retain_keys (with_values m) p ≡ with_values (fm.retain_keys m p)
  retain-with m p = fm.same_map orders.names orders.one_name (fm.retain_keys (with_values m) p) (with_values (fm.retain_keys m p)) (λ q.
      get-kept (with_values m) p q ∙ ap (λ o. cond (p q) o None) (get-with m q) ∙ kept_or_not f (p q) (fm.get m q)
      ∙ ap (option_map f) (sym (get-kept m p q)) ∙ sym (get-with (fm.retain_keys m p) q))

-- rows that are the same for each entry
pub flat_map-entries : {X Z : Type 0} (g h : Name × X → List Z) (es : List (Name × X)) → AllByRecursion (λ (e : Name × X). g e ≡ h e) es → flat_map g es ≡ flat_map h es
flat_map-entries g h [] all = refl
flat_map-entries g h (e ∷ es) all = λ i. all.0 i ++ flat_map-entries g h es all.1 i

-- a test that is the same for each entry
pub any-entries : {X : Type 0} (g h : Name × X → Bool) (es : List (Name × X)) → AllByRecursion (λ (e : Name × X). g e ≡ h e) es → list_any g es ≡ list_any h es
any-entries g h [] all = refl
any-entries g h (e ∷ es) all = λ i. all.0 i || any-entries g h es all.1 i

pub any-map : {X Y : Type 0} (test : Y → Bool) (f : X → Y) (xs : List X) → list_any test (map f xs) ≡ list_any (λ x. test (f x)) xs
any-map test f [] = refl
any-map test f (x ∷ xs) = ap (λ b. test (f x) || b) (any-map test f xs)

pub flat_map-map : {X Y Z : Type 0} (g : Y → List Z) (f : X → Y) (xs : List X) → flat_map g (map f xs) ≡ flat_map (λ x. g (f x)) xs
flat_map-map g f [] = refl
flat_map-map g f (x ∷ xs) = ap (λ zs. g (f x) ++ zs) (flat_map-map g f xs)
