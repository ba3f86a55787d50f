-- Tables by name: what a change of one entry leaves of the list of entries.
use Rattle.std.proofs.Common.{◌≡◌, ◌+◌, refl, sym, ap, ◌∙◌, false, cond, Option, Some, None, List, [], ◌∷◌, ◌++◌, map, arith}
use Rattle.std.specs.Prelude.{T, is_some, unwrap_or}
use Rattle.std.specs.List.{flat_map}
use Rattle.std.specs.Ordering.{is_eq}
use Rattle.std.specs.declared.cmp.Ordering.{Ordering}
use Rattle.std.specs.declared.cmp.Ordering.TheVariants.{Less, Equal, Greater}
use Rattle.std.specs.FinMap as fm
use Rattle.std.specs.FinMap.Entries.{by_order, find, is_sorted, length-put, put}
use Rattle.lwc_types.specs.Names.{name_cmp}
use Rattle.lwc_types.specs.declared.name.Name.{Name}
use Rattle.lwc_types.proofs.Orders.{name_cmp-total}
use Rattle.world_views.proofs.JobTables.{changed_entry}

-- a list of rows in a row, row by row
pub flat_map-map : {X Y Z : Type 0} (f : Y → List Z) (h : X → Y) (xs : List X) → flat_map f (map h xs) ≡ flat_map (λ x. f (h x)) xs
flat_map-map f h [] = refl
flat_map-map f h (x ∷ xs) = ap (λ zs. f (h x) ++ zs) (flat_map-map f h xs)

-- a list of entries of which one gets another value that a row does not tell from the old one
module _ {X Y : Type 0} (row : Name × X → Y) (k : Name) (v x : X) (same : (q : Name) → row (q, v) ≡ row (q, x)) where
  map-put : (es : List (Name × X)) → T (is_sorted name_cmp es) → find name_cmp k es ≡ Some x → map row (put name_cmp k v es) ≡ map row es
  map-put [] sorted found = cc
  map-put (e ∷ es) sorted found = by (λ sorted is. map-put es sorted is) (name_cmp k e.0) refl
    where
      rest : is_eq (name_cmp k e.0) ≡ false → find name_cmp k es ≡ Some x
      rest apart = ap (λ b. cond b (Some e.1) (find name_cmp k es)) (sym apart) ∙ found

      tail_sorted : T (is_sorted name_cmp es)
      tail_sorted = grind arith

      by : (T (is_sorted name_cmp es) → find name_cmp k es ≡ Some x → map row (put name_cmp k v es) ≡ map row es) → (o : Ordering) → name_cmp k e.0 ≡ o → map row (by_order o ((k, v) ∷ e ∷ es) ((e.0, v) ∷ es) (e ∷ put name_cmp k v es)) ≡ map row (e ∷ es)
      by later Less is =
          let as_many = length-put name_cmp name_cmp-total k v (e ∷ es) sorted in
          absurd (grind arith)
      by later Equal is =
          let here : e.1 ≡ x = ap (λ o. unwrap_or o x) (ap (λ (o : Ordering). cond (is_eq o) (Some e.1) (find name_cmp k es)) (sym is) ∙ found) in
          ap (λ y. y ∷ map row es) (same e.0 ∙ ap (λ z. row (e.0, z)) (sym here))
      by later Greater is = ap (λ ys. row e ∷ ys) (later tail_sorted (rest (ap is_eq is)))

-- the same of a table with a change of one entry
pub map-changed : {X Y : Type 0} (row : Name × X → Y) (f : X → X) → ((q : Name) (x : X) → row (q, f x) ≡ row (q, x)) → (m : fm.FinMap name_cmp X) (c : Name) →
    map row (fm.entries (changed_entry m c f (fm.get m c))) ≡ map row (fm.entries m)
map-changed {X} row f same m c = by (fm.get m c) refl
  where
    by : (o : Option X) → fm.get m c ≡ o → map row (fm.entries (changed_entry m c f o)) ≡ map row (fm.entries m)
    by None is = refl
    by (Some x) is =
        ap (map row) (fm.entries-insert name_cmp-total m c (f x))
        ∙ map-put row c (f x) x (λ q. same q x) (fm.entries m) (fm.entries_sorted m) (sym (fm.get-entries m c) ∙ is)

pub len-changed : {X : Type 0} (m : fm.FinMap name_cmp X) (c : Name) (f : X → X) → fm.len (changed_entry m c f (fm.get m c)) ≡ fm.len m
len-changed {X} m c f = by (fm.get m c) refl
  where
    by : (o : Option X) → fm.get m c ≡ o → fm.len (changed_entry m c f o) ≡ fm.len m
    by None is = refl
    by (Some x) is = fm.len-insert name_cmp-total m c (f x) ∙ ap (λ o. cond (is_some o) (fm.len m) (fm.len m + 1)) is
