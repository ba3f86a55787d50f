-- Maps that have the same names have them in the same order.
use Rattle.std.proofs.Common.{◌≡◌, ◌∙◌, Bool, true, false, cond, List, [], ◌∷◌, map, Option, Some, None, refl, sym, ap, subst}
use Rattle.std.specs.Prelude.{T, ◌&&◌, is_some}
use Rattle.std.specs.FinMap as fm
use Rattle.std.specs.FinMap.Entries.{below_all}
use Rattle.std.specs.Option.{option_map}
use Rattle.std.specs.Ordering.{eq_by_cmp, is_lt}
use Rattle.lwc_types.specs.declared.name.Name.{Name}
use Rattle.lwc_types.specs.Names.{name_cmp}
use Rattle.lwc_types.proofs.Orders.{name_cmp-IsAntisymmetric, name_cmp-total}

module _ {A : Type 0} where
  -- the names alone
  abbrev bare : List (Name × A) → List (Name × Bool)
  bare es = map (λ e. (e.0, true)) es

  marked : (b : Bool) (x : A) (o : Option A) → cond b (Some true) (option_map (λ _. true) o) ≡ option_map (λ _. true) (cond b (Some x) o)
  marked true x o = refl
  marked false x o = refl

  find-bare : (q : Name) (es : List (Name × A)) → fm.find name_cmp q (bare es) ≡ option_map (λ _. true) (fm.find name_cmp q es)
  find-bare q [] = refl
  find-bare q (e ∷ es) =
      ap (λ (o : Option Bool). cond (eq_by_cmp name_cmp q e.0) (Some true) o) (find-bare q es) ∙ marked (eq_by_cmp name_cmp q e.0) e.1 (fm.find name_cmp q es)

  below-bare : (k : Name) (es : List (Name × A)) → below_all name_cmp k (bare es) ≡ below_all name_cmp k es
  below-bare k [] = refl
  below-bare k (e ∷ es) = ap (λ (b : Bool). is_lt (name_cmp k e.0) && b) (below-bare k es)

  sorted-bare : (es : List (Name × A)) → fm.is_sorted name_cmp (bare es) ≡ fm.is_sorted name_cmp es
  sorted-bare [] = refl
  sorted-bare (e ∷ es) = λ i. below-bare e.0 es i && sorted-bare es i

  names-bare : (es : List (Name × A)) → map (λ e. e.0) (bare es) ≡ map (λ e. e.0) es
  names-bare [] = refl
  names-bare (e ∷ es) = ap (λ (l : List Name). e.0 ∷ l) (names-bare es)

  get-bare : (m : fm.FinMap name_cmp A) (q : Name) → fm.get (fm.from_sorted {R = name_cmp} (bare (fm.entries m))) q ≡ option_map (λ _. true) (fm.get m q)
  get-bare m q =
      fm.get-from_sorted name_cmp (bare (fm.entries m)) q (subst T (sym (sorted-bare (fm.entries m))) (fm.entries_sorted m))
      ∙ find-bare q (fm.entries m) ∙ ap (option_map (λ _. true)) (sym (fm.get-entries m q))

  entries-bare : (m : fm.FinMap name_cmp A) → fm.entries (fm.from_sorted {R = name_cmp} (bare (fm.entries m))) ≡ bare (fm.entries m)
  entries-bare m = fm.entries-from_sorted name_cmp (bare (fm.entries m)) (subst T (sym (sorted-bare (fm.entries m))) (fm.entries_sorted m))

same_marks : {A B : Type 0} (x : Option A) (y : Option B) → is_some x ≡ is_some y → option_map (λ _. true) x ≡ option_map (λ _. true) y
same_marks None None same = refl
same_marks (Some a) (Some b) same = refl
same_marks None (Some b) same = cc
same_marks (Some a) None same = cc

pub same_names : {A B : Type 0} (m : fm.FinMap name_cmp A) (n : fm.FinMap name_cmp B) →
    ((q : Name) → fm.contains_key m q ≡ fm.contains_key n q) → fm.keys m ≡ fm.keys n
same_names m n same =
    let maps = fm.same_map name_cmp-total name_cmp-IsAntisymmetric (fm.from_sorted {R = name_cmp} (bare (fm.entries m))) (fm.from_sorted {R = name_cmp} (bare (fm.entries n)))
    (λ q. get-bare m q ∙ same_marks (fm.get m q) (fm.get n q) (same q) ∙ sym (get-bare n q)) in
    sym (names-bare (fm.entries m)) ∙ ap (λ (l : List (Name × Bool)). map (λ e. e.0) l) (sym (entries-bare m) ∙ ap fm.entries maps ∙ entries-bare n) ∙ names-bare (fm.entries n)
