-- How many names live, in all and of each job, where the same names live and where there is one more.
use Rattle.std.proofs.Common.{◌≡◌, ◌≢◌, ℕ, ◌+◌, ◌≤◌, sym, ap, subst, ◌∙◌, Bool, true, false, cond, eqb, None, List, [], ◌∷◌, map, length, arith}
use Rattle.std.proofs.lemmas.List.{length-map}
use Rattle.std.proofs.lemmas.List.Sums.{sum_by-cons}
use Rattle.std.specs.Prelude.{if◌then◌else◌, is_some, count_by, T}
use Rattle.std.proofs.lemmas.Bool.Decides.{nat_tests}
use Rattle.std.specs.FinMap as fm
use Rattle.std.specs.List.{AllByRecursion}
use Rattle.std.specs.List.Sorted.{IsStrictlySortedBy}
use Rattle.std.proofs.lemmas.Map.Lookups.{btree_set_from_contains}
use Rattle.std.specs.declared.cmp.Ordering.TheVariants.{Less, Equal}
use Rattle.std.specs.FinMap.Entries.{put, find, is_sorted, below_all, where_key, is_sorted-where_key, find-where_key}
use Rattle.lwc_base.proofs.Tables.{contains_key-insert}
use Rattle.lwc_types.specs.declared.name.Name.{Name}
use Rattle.lwc_types.specs.Names.{name_cmp}
use Rattle.lwc_types.proofs.Orders.{name_cmp-total, name_cmp-IsAntisymmetric, cases_name, name-itself, other_name}

abbrev keys_of : {X : Type 0} → List (Name × X) → List Name
keys_of es = map (λ e. e.0) es

below : {X : Type 0} (x : Name) (es : List (Name × X)) → T (below_all name_cmp x es) → AllByRecursion (λ y. name_cmp x y ≡ Less) (keys_of es)
below x [] all = tt
below x (e ∷ es) all = let rest = below x es in grind arith

in_order : {X : Type 0} (es : List (Name × X)) → T (is_sorted name_cmp es) → IsStrictlySortedBy name_cmp (keys_of es)
unfolding IsStrictlySortedBy
in_order [] sorted = tt
in_order (e ∷ es) sorted = let first = below e.0 es in let rest = in_order es in grind arith

-- a count of keys, where one more is put
count_by-put : {X : Type 0} (test : Name → Bool) (k : Name) (v : X) (es : List (Name × X)) → is_some (find name_cmp k es) ≡ false →
    count_by test (keys_of (put name_cmp k v es)) ≡ cond (test k) 1 0 + count_by test (keys_of es)
count_by-put test k v [] new = sum_by-cons (λ x. cond (test x) 1 0) k []
count_by-put test k v (e ∷ es) new =
    let rest = count_by-put test k v es in
    grind (arith, sum_by-cons (λ x. cond (test x) 1 0) e.0 (keys_of es), sum_by-cons (λ x. cond (test x) 1 0) k (keys_of (e ∷ es)), sum_by-cons (λ x. cond (test x) 1 0) e.0 (keys_of (put name_cmp k v es)))

module _ {X : Type 0} (m n : fm.FinMap name_cmp X) where
  -- tables that have the same keys have them in the same order
  keys-same : ((q : Name) → fm.contains_key m q ≡ fm.contains_key n q) → fm.keys m ≡ fm.keys n
  keys-same alike =
      btree_set_from_contains name_cmp-total (record { keys = fm.keys m }) (record { keys = fm.keys n }) (in_order (fm.entries m) (fm.entries_sorted m)) (in_order (fm.entries n) (fm.entries_sorted n))
      (λ q. sym (fm.contains_key-keys m q) ∙ alike q ∙ fm.contains_key-keys n q) name_cmp-IsAntisymmetric

  pub count_by-same : ((q : Name) → fm.contains_key m q ≡ fm.contains_key n q) → (test : Name → Bool) → count_by test (fm.keys m) ≡ count_by test (fm.keys n)
  count_by-same alike test = ap (count_by test) (keys-same alike)

  pub len-alike : ((q : Name) → fm.contains_key m q ≡ fm.contains_key n q) → fm.len m ≡ fm.len n
  len-alike alike = let keys = ap length (keys-same alike) in omega (arith, keys, fm.len-entries m, fm.len-entries n, length-map (fm.entries m) (λ e. e.0), length-map (fm.entries n) (λ e. e.0))

-- there is one name more
module _ {X : Type 0} (m n : fm.FinMap name_cmp X) (c : Name) (y : X) (there : fm.contains_key m c ≡ true) (others : (q : Name) → q ≢ c → fm.contains_key m q ≡ fm.contains_key n q)
    (new : fm.contains_key n c ≡ false) where
  as_inserted : (q : Name) → fm.contains_key m q ≡ fm.contains_key (fm.insert n c y) q
  as_inserted q = let other = others q in grind (arith, cases_name, contains_key-insert, name-itself, other_name)

  pub count_by-more : (job : ℕ) → count_by (λ d. eqb d.job job) (fm.keys m) ≡ (if eqb job c.job then count_by (λ d. eqb d.job job) (fm.keys n) + 1 else count_by (λ d. eqb d.job job) (fm.keys n))
  count_by-more job =
      let more = count_by-put (λ d. eqb d.job job) c y (fm.entries n) (grind (arith, fm.get-entries n c)) in
      let same = count_by-same m (fm.insert n c y) as_inserted (λ d. eqb d.job job) ∙ ap (λ es. count_by (λ d. eqb d.job job) (keys_of es)) (fm.entries-insert name_cmp-total n c y) in
      grind (arith, nat_tests)

  pub len-more : fm.len m ≡ fm.len n + 1
  len-more = grind (arith, len-alike m (fm.insert n c y) as_inserted, fm.len-insert name_cmp-total n c y)

-- a count of keys, where some are left out
count_by-where : {X : Type 0} (kept test : Name → Bool) (es : List (Name × X)) → count_by test (keys_of (where_key name_cmp kept es)) ≤ count_by test (keys_of es)
count_by-where kept test [] = omega arith
count_by-where kept test (e ∷ es) =
    let rest = count_by-where kept test es in
    grind (arith, nat_tests, sum_by-cons (λ x. cond (test x) 1 0) e.0 (keys_of es), sum_by-cons (λ x. cond (test x) 1 0) e.0 (keys_of (where_key name_cmp kept es)))

length-where : {X : Type 0} (kept : Name → Bool) (es : List (Name × X)) → length (where_key name_cmp kept es) ≤ length es
length-where kept [] = omega arith
length-where kept (e ∷ es) = let rest = length-where kept es in grind (arith, nat_tests)

module _ {X : Type 0} (m : fm.FinMap name_cmp X) (kept : Name → Bool) where
  entries-retain_keys : fm.entries (fm.retain_keys m kept) ≡ where_key name_cmp kept (fm.entries m)
  entries-retain_keys =
      let alike = λ (q x : Name) (tie : name_cmp q x ≡ Equal). ap kept (sym (name_cmp-IsAntisymmetric q x tie)) in
      let sorted = is_sorted-where_key name_cmp kept (fm.entries m) (fm.entries_sorted m) in
      ap fm.entries (fm.same_map name_cmp-total name_cmp-IsAntisymmetric (fm.retain_keys m kept) (fm.from_sorted (where_key name_cmp kept (fm.entries m)))
      (λ q. fm.get-retain_keys m kept q (alike q) ∙ ap (λ o. cond (kept q) o None) (fm.get-entries m q)
      ∙ sym (find-where_key name_cmp kept q (alike q) (fm.entries m)) ∙ sym (fm.get-from_sorted name_cmp (where_key name_cmp kept (fm.entries m)) q sorted)))
      ∙ fm.entries-from_sorted name_cmp (where_key name_cmp kept (fm.entries m)) sorted

  -- no more names live once some are left out
  pub count_by-retain_keys : (test : Name → Bool) → count_by test (fm.keys (fm.retain_keys m kept)) ≤ count_by test (fm.keys m)
  count_by-retain_keys test = subst (λ es. count_by test (keys_of es) ≤ count_by test (fm.keys m)) (sym entries-retain_keys) (count_by-where kept test (fm.entries m))

  pub len-retain_keys : fm.len (fm.retain_keys m kept) ≤ fm.len m
  len-retain_keys =
      let few = subst (λ es. length es ≤ length (fm.entries m)) (sym entries-retain_keys) (length-where kept (fm.entries m)) in
      omega (arith, few, fm.len-entries m, fm.len-entries (fm.retain_keys m kept))
