-- Tables under other keys, which keep their order.
use Rattle.std.proofs.Common.{◌≡◌, ℕ, zero, suc, ◌+◌, refl, sym, ap, subst, ◌∙◌, Bool, true, false, cond, ◌&&◌, ◌||◌, Some, None, List, [], ◌∷◌, map, length, arith}
use Rattle.std.proofs.lemmas.Bool.Decides.{nat_tests}
use Rattle.std.proofs.lemmas.List.{length-map}
use Rattle.std.specs.Prelude.{T}
use Rattle.std.specs.Cmp.{IsTotalOrder}
use Rattle.std.specs.List.{list_any}
use Rattle.std.specs.Option.{option_map}
use Rattle.std.specs.Ordering.{eq_by_cmp, is_eq, is_lt, nat_cmp, ordering_then}
use Rattle.std.specs.declared.cmp.Ordering.{Ordering}
use Rattle.std.specs.declared.cmp.Ordering.TheVariants.{Less, Equal, Greater}
use Rattle.std.specs.FinMap as fm
use Rattle.std.specs.FinMap.Entries.{below_all, by_order, find, find-where_key, is_sorted, is_sorted-where_key, put, where_key}
use Rattle.std.specs.FinSet as set
use Rattle.lwc_types.specs.Names.{name_cmp, tag_cmp}
use Rattle.lwc_types.specs.declared.name.Name.{Name}
use Rattle.lwc_types.specs.declared.name.Tag.{Tag}
use Rattle.lwc_names.specs.Shifts.{shifted_job, shifted_name, shifted_tag}

-- other numbers keep their order
pub job_cmp-shifted : (r a b : ℕ) → nat_cmp (shifted_job r a) (shifted_job r b) ≡ nat_cmp a b
job_cmp-shifted r zero zero = refl
job_cmp-shifted r zero (suc b) = grind (arith, nat_tests)
job_cmp-shifted r (suc a) zero = grind (arith, nat_tests)
job_cmp-shifted r (suc a) (suc b) = grind (arith, nat_tests)

pub name_cmp-shifted : (r : ℕ) (a b : Name) → name_cmp (shifted_name r a) (shifted_name r b) ≡ name_cmp a b
name_cmp-shifted r a b = ap (λ o. ordering_then o (nat_cmp a.k b.k)) (job_cmp-shifted r a.job b.job)

pub tag_cmp-shifted : (r : ℕ) (a b : Tag) → tag_cmp (shifted_tag r a) (shifted_tag r b) ≡ tag_cmp a b
tag_cmp-shifted r a b = ap (λ o. ordering_then o (nat_cmp a.k b.k)) (job_cmp-shifted r a.job b.job)

module _ {K : Type 0} (R : K → K → Ordering) (s : K → K) (keeps : (a b : K) → R (s a) (s b) ≡ R a b) {X : Type 0} (f : X → X) where
  abbrev entry : K × X → K × X
  entry e = (s e.0, f e.1)

  abbrev up : List (K × X) → List (K × X)
  up = map entry

  below-shifted : (q : K) (es : List (K × X)) → below_all R (s q) (up es) ≡ below_all R q es
  below-shifted q [] = refl
  below-shifted q (e ∷ es) = λ i. is_lt (keeps q e.0 i) && below-shifted q es i

  pub sorted-shifted : (es : List (K × X)) → is_sorted R (up es) ≡ is_sorted R es
  sorted-shifted [] = refl
  sorted-shifted (e ∷ es) = λ i. below-shifted e.0 es i && sorted-shifted es i

  pub find-shifted : (q : K) (es : List (K × X)) → find R (s q) (up es) ≡ option_map f (find R q es)
  find-shifted q [] = refl
  find-shifted q (e ∷ es) =
      (λ i. cond (is_eq (keeps q e.0 i)) (Some (f e.1)) (find-shifted q es i))
      ∙ elim (eq_by_cmp R q e.0) as (λ b. cond b (Some (f e.1)) (option_map f (find R q es)) ≡ option_map f (cond b (Some e.1) (find R q es))) [ true ↦ refl | false ↦ refl ]

  pub put-shifted : (q : K) (x : X) (es : List (K × X)) → put R (s q) (f x) (up es) ≡ up (put R q x es)
  put-shifted q x [] = refl
  put-shifted q x (e ∷ es) =
      (λ i. by_order (keeps q e.0 i) ((s q, f x) ∷ up (e ∷ es)) ((s e.0, f x) ∷ up es) (entry e ∷ put-shifted q x es i))
      ∙ elim (R q e.0) as (λ o. by_order o ((s q, f x) ∷ up (e ∷ es)) ((s e.0, f x) ∷ up es) (entry e ∷ up (put R q x es)) ≡ up (by_order o ((q, x) ∷ e ∷ es) ((e.0, x) ∷ es) (e ∷ put R q x es))) [
        | Less ↦ refl
        | Equal ↦ refl
        | Greater ↦ refl
      ]

  pub where-shifted : (p q : K → Bool) → ((c : K) → p (s c) ≡ q c) → (es : List (K × X)) → where_key R p (up es) ≡ up (where_key R q es)
  where-shifted p q same [] = refl
  where-shifted p q same (e ∷ es) =
      (λ i. cond (same e.0 i) (entry e ∷ where-shifted p q same es i) (where-shifted p q same es i))
      ∙ elim (q e.0) as (λ b. cond b (entry e ∷ up (where_key R q es)) (up (where_key R q es)) ≡ up (cond b (e ∷ where_key R q es) (where_key R q es))) [ true ↦ refl | false ↦ refl ]

  -- the table under the other keys
  abbrev table : fm.FinMap R X → fm.FinMap R X
  table m = fm.from_sorted (up (fm.entries m))

  pub entries-shifted : (m : fm.FinMap R X) → fm.entries (table m) ≡ up (fm.entries m)
  entries-shifted m = fm.entries-from_sorted R (up (fm.entries m)) (subst T (sym (sorted-shifted (fm.entries m))) (fm.entries_sorted m))

  pub get-shifted : (m : fm.FinMap R X) (c : K) → fm.get (table m) (s c) ≡ option_map f (fm.get m c)
  get-shifted m c =
      fm.get-entries (table m) (s c) ∙ ap (find R (s c)) (entries-shifted m) ∙ find-shifted c (fm.entries m)
      ∙ ap (option_map f) (sym (fm.get-entries m c))

  pub len-shifted : (m : fm.FinMap R X) → fm.len (table m) ≡ fm.len m
  len-shifted m = fm.len-entries (table m) ∙ ap length (entries-shifted m) ∙ length-map (fm.entries m) entry ∙ sym (fm.len-entries m)

  pub insert-shifted : IsTotalOrder R → (m : fm.FinMap R X) (c : K) (x : X) → fm.insert (table m) (s c) (f x) ≡ table (fm.insert m c x)
  insert-shifted order m c x =
      fm.same_entries_map _ _ (fm.entries-insert order (table m) (s c) (f x) ∙ ap (put R (s c) (f x)) (entries-shifted m)
      ∙ put-shifted c x (fm.entries m) ∙ ap up (sym (fm.entries-insert order m c x)) ∙ sym (entries-shifted (fm.insert m c x)))

  -- what is kept of a table
  entries-kept : IsTotalOrder R → fm.IsAntisymmetric R → (m : fm.FinMap R X) (p : K → Bool) → fm.entries (fm.retain_keys m p) ≡ where_key R p (fm.entries m)
  entries-kept order one m p =
      let sorted = is_sorted-where_key R p (fm.entries m) (fm.entries_sorted m) in
      let alike : (q x : K) → R q x ≡ Equal → p x ≡ p q = λ q x tie. ap p (sym (one q x tie)) in
      ap fm.entries (fm.same_map order one (fm.retain_keys m p) (fm.from_sorted (where_key R p (fm.entries m)))
      (λ q. fm.get-retain_keys m p q (alike q) ∙ ap (λ o. cond (p q) o None) (fm.get-entries m q)
      ∙ sym (fm.get-from_sorted R (where_key R p (fm.entries m)) q sorted ∙ find-where_key R p q (alike q) (fm.entries m))))
      ∙ fm.entries-from_sorted R (where_key R p (fm.entries m)) sorted

  pub kept-shifted : IsTotalOrder R → fm.IsAntisymmetric R → (m : fm.FinMap R X) (p q : K → Bool) → ((c : K) → p (s c) ≡ q c) → fm.retain_keys (table m) p ≡ table (fm.retain_keys m q)
  kept-shifted order one m p q same =
      fm.same_entries_map _ _ (entries-kept order one (table m) p ∙ ap (where_key R p) (entries-shifted m) ∙ where-shifted p q same (fm.entries m)
      ∙ ap up (sym (entries-kept order one m q)) ∙ sym (entries-shifted (fm.retain_keys m q)))

-- a set has as many members under other keys
module _ {K : Type 0} (R : K → K → Ordering) (s : K → K) (keeps : (a b : K) → R (s a) (s b) ≡ R a b) (order : IsTotalOrder R) where
  among-shifted : (q : K) (ks : List K) → list_any (eq_by_cmp R (s q)) (map s ks) ≡ list_any (eq_by_cmp R q) ks
  among-shifted q [] = refl
  among-shifted q (k ∷ ks) = λ i. is_eq (keeps q k i) || among-shifted q ks i

  pub set_len-shifted : (ks : List K) → set.len (set.from_list {R = R} (map s ks)) ≡ set.len (set.from_list {R = R} ks)
  set_len-shifted [] = refl
  set_len-shifted (k ∷ ks) =
      let is : set.contains (set.from_list {R = R} (map s ks)) (s k) ≡ set.contains (set.from_list {R = R} ks) k =
      set.contains-from_list order (map s ks) (s k) ∙ among-shifted k ks ∙ sym (set.contains-from_list order ks k) in
      set.len-insert order (set.from_list {R = R} (map s ks)) (s k)
      ∙ (λ i. cond (is i) (set_len-shifted ks i) (set_len-shifted ks i + 1))
      ∙ sym (set.len-insert order (set.from_list {R = R} ks) k)
