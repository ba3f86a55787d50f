-- A map of names to what is at their places, where names or places change.
use Rattle.std.proofs.Common.{◌≡◌, ◌≢◌, ℕ, List, [], ◌∷◌, length, refl, sym, ap, subst, ◌∙◌, Bool, true, false, cond, Option, Some, None, map}
use Rattle.std.specs.Prelude.{T, ◌&&◌, is_some}
use Rattle.std.specs.Option.{option_map}
use Rattle.std.specs.Ordering.{eq_by_cmp, is_eq, is_lt}
use Rattle.std.specs.Cmp.{eq_by_cmp_equiv}
use Rattle.std.specs.FinMap as fm
use Rattle.std.specs.FinMap.Entries.{below_all}
use Rattle.std.proofs.lemmas.List.{length-map}
use Rattle.lwc_types.specs.declared.name.Name.{Name}
use Rattle.lwc_types.specs.Names.{name_cmp}
use Rattle.lazy_world.specs.Mapped.{mapped}
use Rattle.lwc_base.proofs.Facts.{orders}
use Rattle.lwc_types.proofs.Orders.{same_name}
use Rattle.lwc_types.proofs.Small.{mapped_choice}

mapped_none : {A B : Type 0} (f : A → B) (b : Bool) (o : Option A) → option_map f (cond b None o) ≡ cond b None (option_map f o)
mapped_none f true o = refl
mapped_none f false o = refl

module _ {X : Type 0} (at : ℕ → X) where
  abbrev entries_of : List (Name × ℕ) → List (Name × X)
  entries_of rows = map (λ e. (e.0, at e.1)) rows

  find-entries : (c : Name) (rows : List (Name × ℕ)) → fm.find name_cmp c (entries_of rows) ≡ option_map at (fm.find name_cmp c rows)
  find-entries c [] = refl
  find-entries c (e ∷ es) =
      ap (cond (is_eq (name_cmp c e.0)) (Some (at e.1))) (find-entries c es)
      ∙ sym (mapped_choice at (is_eq (name_cmp c e.0)) e.1 (fm.find name_cmp c es))

  below-entries : (k : Name) (rows : List (Name × ℕ)) → below_all name_cmp k (entries_of rows) ≡ below_all name_cmp k rows
  below-entries k [] = refl
  below-entries k (e ∷ es) = ap (λ b. is_lt (name_cmp k e.0) && b) (below-entries k es)

  sorted-entries : (rows : List (Name × ℕ)) → fm.is_sorted name_cmp (entries_of rows) ≡ fm.is_sorted name_cmp rows
  sorted-entries [] = refl
  sorted-entries (e ∷ es) = λ i. below-entries e.0 es i && sorted-entries es i

  -- the entries, in the order of names
  pub mapped-entries : (m : fm.FinMap name_cmp ℕ) → fm.entries (mapped at m) ≡ map (λ e. (e.0, at e.1)) (fm.entries m)
  unfolding mapped
  mapped-entries m = fm.entries-from_sorted name_cmp (entries_of (fm.entries m)) (subst T (sym (sorted-entries (fm.entries m))) (fm.entries_sorted m))

  -- what a name has is at its place
  pub mapped-get : (m : fm.FinMap name_cmp ℕ) (c : Name) → fm.get (mapped at m) c ≡ option_map at (fm.get m c)
  mapped-get m c =
      fm.get-entries (mapped at m) c ∙ ap (fm.find name_cmp c) (mapped-entries m) ∙ find-entries c (fm.entries m) ∙ ap (option_map at) (sym (fm.get-entries m c))

  pub mapped-len : (m : fm.FinMap name_cmp ℕ) → fm.len (mapped at m) ≡ fm.len m
  mapped-len m = fm.len-entries (mapped at m) ∙ ap length (mapped-entries m) ∙ length-map (fm.entries m) (λ e. (e.0, at e.1)) ∙ sym (fm.len-entries m)

  names : (rows : List (Name × ℕ)) → map (λ (e : Name × X). e.0) (entries_of rows) ≡ map (λ (e : Name × ℕ). e.0) rows
  names [] = refl
  names (e ∷ es) = ap (λ l. e.0 ∷ l) (names es)

  pub mapped-keys : (m : fm.FinMap name_cmp ℕ) → fm.keys (mapped at m) ≡ fm.keys m
  mapped-keys m = ap (map (λ (e : Name × X). e.0)) (mapped-entries m) ∙ names (fm.entries m)

  pub mapped-empty : mapped at fm.empty ≡ fm.empty
  mapped-empty = fm.empty_of_len (mapped at fm.empty) (mapped-len fm.empty ∙ fm.len-empty name_cmp ℕ)

  -- a name that has a place
  pub mapped-live : (m : fm.FinMap name_cmp ℕ) (c : Name) → fm.contains_key (mapped at m) c ≡ fm.contains_key m c
  mapped-live m c = ap is_some (mapped-get m c) ∙ kept_there (fm.get m c)
    where
      kept_there : (o : Option ℕ) → is_some (option_map at o) ≡ is_some o
      kept_there None = refl
      kept_there (Some p) = refl

module _ {X : Type 0} (at : ℕ → X) where
  -- a name is put at a place
  pub mapped-insert : (m : fm.FinMap name_cmp ℕ) (c : Name) (p : ℕ) → mapped at (fm.insert m c p) ≡ fm.insert (mapped at m) c (at p)
  mapped-insert m c p =
      fm.same_map orders.names orders.one_name _ _
      (λ q.
      mapped-get at (fm.insert m c p) q ∙ ap (option_map at) (fm.get-insert orders.names m c p q)
      ∙ mapped_choice at (eq_by_cmp name_cmp q c) p (fm.get m q)
      ∙ ap (cond (eq_by_cmp name_cmp q c) (Some (at p))) (sym (mapped-get at m q))
      ∙ sym (fm.get-insert orders.names (mapped at m) c (at p) q))

  pub mapped-remove : (m : fm.FinMap name_cmp ℕ) (c : Name) → mapped at (fm.remove m c) ≡ fm.remove (mapped at m) c
  mapped-remove m c =
      fm.same_map orders.names orders.one_name _ _
      (λ q.
      mapped-get at (fm.remove m c) q ∙ ap (option_map at) (fm.get-remove orders.names m c q)
      ∙ mapped_none at (eq_by_cmp name_cmp q c) (fm.get m q)
      ∙ ap (cond (eq_by_cmp name_cmp q c) None) (sym (mapped-get at m q))
      ∙ sym (fm.get-remove orders.names (mapped at m) c q))

  -- nothing changes at the places of names
  pub mapped-same : (m : fm.FinMap name_cmp ℕ) (new : ℕ → X) → ((d : Name) (q : ℕ) → fm.get m d ≡ Some q → new q ≡ at q) → mapped new m ≡ mapped at m
  mapped-same m new same =
      fm.same_map orders.names orders.one_name _ _
      (λ d. mapped-get new m d ∙ each d (fm.get m d) refl ∙ sym (mapped-get at m d))
    where
      each : (d : Name) (o : Option ℕ) → fm.get m d ≡ o → option_map new o ≡ option_map at o
      each d None found = refl
      each d (Some q) found = ap Some (same d q found)

  -- something changes at the place of one name
  pub mapped-change : (m : fm.FinMap name_cmp ℕ) (new : ℕ → X) (c : Name) (p : ℕ) → fm.get m c ≡ Some p →
      ((d : Name) (q : ℕ) → fm.get m d ≡ Some q → d ≢ c → new q ≡ at q) → mapped new m ≡ fm.insert (mapped at m) c (new p)
  mapped-change m new c p found same =
      fm.same_map orders.names orders.one_name _ _
      (λ d.
      mapped-get new m d ∙ each d (eq_by_cmp name_cmp d c) refl (fm.get m d) refl
      ∙ ap (cond (eq_by_cmp name_cmp d c) (Some (new p))) (sym (mapped-get at m d))
      ∙ sym (fm.get-insert orders.names (mapped at m) c (new p) d))
    where
      each : (d : Name) (b : Bool) → eq_by_cmp name_cmp d c ≡ b → (o : Option ℕ) → fm.get m d ≡ o → option_map new o ≡ cond b (Some (new p)) (option_map at o)
      each d true tied o is = ap (option_map new) (sym is ∙ ap (fm.get m) (same_name d c tied) ∙ found)
      each d false differ None is = refl
      each d false differ (Some q) is = ap Some (same d q is (λ (e : d ≡ c). let itself = (eq_by_cmp_equiv orders.names).refl d in cc))
