-- Pairs of names in the order of the first ones, as a map.
use Rattle.std.proofs.Common.{◌≡◌, ◌∙◌, ℕ, suc, ◌+◌, ◌≤◌, Bool, true, false, cond, List, [], ◌∷◌, length, Option, Some, None, refl, sym, ap, subst, arith, eqb}
use Rattle.std.specs.Prelude.{T, ◌&&◌, ◌||◌, is_some, map, not, unwrap_or}
use Rattle.std.proofs.lemmas.Bool.Decides.{nat_tests}
use Rattle.std.proofs.lemmas.List.Sums.{prefix_len-le-length}
use Rattle.std.specs.FinMap as fm
use Rattle.std.specs.FinMap.Entries.{by_order, find-where_key, is_sorted-put, is_sorted-where_key, where_key}
use Rattle.std.specs.List.{find, insert, list_any, position, position_or_len}
use Rattle.std.specs.Option.{option_map}
use Rattle.std.specs.Ordering.{eq_by_cmp, is_eq, is_gt, ordering_reverse}
use Rattle.std.specs.declared.cmp.Ordering.{Ordering}
use Rattle.std.specs.declared.cmp.Ordering.TheVariants.{Less, Equal, Greater}
use Rattle.lwc_types.specs.declared.name.Name.{Name}
use Rattle.lwc_types.specs.Names.{name_cmp}
use Rattle.lwc_types.proofs.Orders.{cases_name, name-itself, name_cmp-IsAntisymmetric, name_cmp-total, other_name}
use Rattle.lwc_monitor.specs.Traps.{is_monitor}

-- the test of the code: two names have the same job and number
abbrev pub same : Name → Name → Bool
same a b = eqb a.job b.job && eqb a.k b.k

same-itself : (a : Name) → same a a ≡ true
same-itself a = grind (arith, nat_tests)

pub same-one : (a b : Name) → same a b ≡ true → a ≡ b
same-one a b is =
    let jobs : a.job ≡ b.job = grind (arith, nat_tests) in
    let numbers : a.k ≡ b.k = grind (arith, nat_tests) in
    λ i. record { job = jobs i; k = numbers i }

not_true : (b : Bool) → (b ≡ true → ⊥) → b ≡ false
not_true true never = absurd (never refl)
not_true false never = refl

-- it is whether they tie
pub alike : (a b : Name) → same b a ≡ eq_by_cmp name_cmp a b
alike a b = cases_name a b
    (λ one. subst (λ (n : Name). same n a ≡ eq_by_cmp name_cmp a n) one (same-itself a ∙ sym (name-itself a)))
    (λ two. not_true (same b a) (λ is. two (sym (same-one b a is))) ∙ sym (other_name a b two))

-- the first pair of a name has its monitor
pub found_first : {X : Type 0} (c : Name) (rows : List (Name × X)) → option_map (λ p. p.1) (find (λ p. same p.0 c) rows) ≡ fm.find name_cmp c rows
found_first c [] = refl
found_first c (e ∷ es) = by (same e.0 c) (found_first c es) ∙ ap (λ b. cond b (Some e.1) (fm.find name_cmp c es)) (alike c e.0)
  where
    by : (b : Bool) → option_map (λ p. p.1) (find (λ p. same p.0 c) es) ≡ fm.find name_cmp c es →
        option_map (λ p. p.1) (cond b (Some e) (find (λ p. same p.0 c) es)) ≡ cond b (Some e.1) (fm.find name_cmp c es)
    by true later = refl
    by false later = later

-- a pair whose second name is this one
pub any_second : (c : Name) (rows : List (Name × Name)) → list_any (λ p. same p.1 c) rows ≡ list_any (eq_by_cmp name_cmp c) (map (λ e. e.1) rows)
any_second c [] = refl
any_second c (e ∷ es) = ap (λ b. b || list_any (λ p. same p.1 c) es) (alike c e.1) ∙ ap (λ b. eq_by_cmp name_cmp c e.1 || b) (any_second c es)

pub turned : (a b : Name) (r : Ordering) → name_cmp a b ≡ r → name_cmp b a ≡ ordering_reverse r
turned a b r is = name_cmp-total.antisymm b a ∙ ap ordering_reverse is

-- where the pair of a new name goes
abbrev pub place : {X : Type 0} → Name → List (Name × X) → ℕ
place c rows = position_or_len (λ p. is_gt (name_cmp p.0 c)) rows

pub place-within : {X : Type 0} (c : Name) (rows : List (Name × X)) → place c rows ≤ length rows
place-within c rows = prefix_len-le-length _ rows

-- the place that a search answers, or the length
pub place-is : {X : Type 0} (c : Name) (rows : List (Name × X)) (o : Option ℕ) → o ≡ position (λ p. is_gt (name_cmp p.0 c)) rows → unwrap_or o (length rows) ≡ place c rows
place-is c rows o is = let le = place-within c rows in grind arith

pub put_there : {X : Type 0} (c : Name) (m : X) (rows : List (Name × X)) → fm.find name_cmp c rows ≡ None → insert rows (place c rows) (c, m) ≡ fm.put name_cmp c m rows
put_there c m [] none = refl
put_there c m (e ∷ es) none = by (name_cmp c e.0) refl (put_there c m es) none
  where
    by : (r : Ordering) → name_cmp c e.0 ≡ r → (fm.find name_cmp c es ≡ None → insert es (place c es) (c, m) ≡ fm.put name_cmp c m es) → cond (is_eq r) (Some e.1) (fm.find name_cmp c es) ≡ None →
        insert (e ∷ es) (place c (e ∷ es)) (c, m) ≡ by_order r ((c, m) ∷ e ∷ es) ((e.0, m) ∷ es) (e ∷ fm.put name_cmp c m es)
    by Less is later none =
        let greater : name_cmp e.0 c ≡ Greater = turned c e.0 Less is in
        ap (λ (r : Ordering). insert (e ∷ es) (cond (not (is_gt r)) (1 + place c es) 0) (c, m)) greater
    by Equal is later none = cc
    by Greater is later none =
        let less : name_cmp e.0 c ≡ Less = turned c e.0 Greater is in
        let next : 1 + place c es ≡ suc (place c es) = omega arith in
        ap (λ (r : Ordering). insert (e ∷ es) (cond (not (is_gt r)) (1 + place c es) 0) (c, m)) less
        ∙ ap (λ (n : ℕ). insert (e ∷ es) n (c, m)) next
        ∙ ap (λ l. e ∷ l) (later none)

module _ {X : Type 0} (rows : List (Name × X)) (sorted : T (fm.is_sorted name_cmp rows)) where
  abbrev m : fm.FinMap name_cmp X
  m = fm.from_sorted rows

  pub entries-are : fm.entries m ≡ rows
  entries-are = fm.entries-from_sorted name_cmp rows sorted

  pub get-is : (c : Name) → option_map (λ p. p.1) (find (λ p. same p.0 c) rows) ≡ fm.get m c
  get-is c = found_first c rows ∙ sym (fm.get-from_sorted name_cmp rows c sorted)

  module _ (c : Name) (d : X) (new : fm.contains_key m c ≡ false) where
    none-found : fm.find name_cmp c rows ≡ None
    none-found = sym (fm.get-from_sorted name_cmp rows c sorted) ∙ by (fm.get m c) new
      where
        by : (o : Option X) → is_some o ≡ false → o ≡ None
        by None is = refl
        by (Some x) is = cc

    put-sorted : T (fm.is_sorted name_cmp (fm.put name_cmp c d rows))
    put-sorted = is_sorted-put name_cmp name_cmp-total c d rows sorted

    pub inserted-sorted : T (fm.is_sorted name_cmp (insert rows (place c rows) (c, d)))
    inserted-sorted = subst (λ (l : List (Name × X)). T (fm.is_sorted name_cmp l)) (sym (put_there c d rows none-found)) put-sorted

    pub inserted : fm.from_sorted {R = name_cmp} (insert rows (place c rows) (c, d)) ≡ fm.insert m c d
    inserted =
        ap (λ (l : List (Name × X)). fm.from_sorted {R = name_cmp} l) (put_there c d rows none-found)
        ∙ fm.same_entries_map _ _ (fm.entries-from_sorted name_cmp (fm.put name_cmp c d rows) put-sorted ∙ ap (fm.put name_cmp c d) (sym entries-are) ∙ sym (fm.entries-insert name_cmp-total m c d))

  module _ (keep : Name → Bool) where
    pub kept-sorted : T (fm.is_sorted name_cmp (where_key name_cmp keep rows))
    kept-sorted = is_sorted-where_key name_cmp keep rows sorted

    pub kept : fm.from_sorted {R = name_cmp} (where_key name_cmp keep rows) ≡ fm.retain_keys m keep
    kept = fm.same_map name_cmp-total name_cmp-IsAntisymmetric _ _ (λ q.
        let alike_here : (x : Name) → name_cmp q x ≡ Equal → keep x ≡ keep q = λ x same. ap keep (sym (name_cmp-IsAntisymmetric q x same)) in
        fm.get-from_sorted name_cmp (where_key name_cmp keep rows) q kept-sorted
        ∙ find-where_key name_cmp keep q alike_here rows
        ∙ ap (λ (o : Option X). cond (keep q) o None) (sym (fm.get-from_sorted name_cmp rows q sorted))
        ∙ sym (fm.get-retain_keys m keep q alike_here))

-- whether a name stands second
pub monitor-is : (rows : List (Name × Name)) → T (fm.is_sorted name_cmp rows) → (c : Name) → list_any (λ p. same p.1 c) rows ≡ is_monitor (fm.from_sorted rows) c
monitor-is rows sorted c = any_second c rows ∙ ap (λ l. list_any (eq_by_cmp name_cmp c) (map (λ (e : Name × Name). e.1) l)) (sym (entries-are rows sorted))

pub no_rows : {X : Type 0} → fm.from_sorted {K = Name} {X = X} {R = name_cmp} [] ≡ fm.empty
no_rows = fm.empty_of_len _ (fm.len-entries _ ∙ ap length (fm.entries-from_sorted name_cmp [] tt))
