-- Rows in the order of their names, as a map, and the place of a name among them.
use Rattle.std.proofs.Common.{◌≡◌, ◌≢◌, ◌∙◌, ℕ, suc, ◌+◌, ◌≤◌, ◌<◌, Bool, true, false, cond, List, [], ◌∷◌, length, Option, Some, None, refl, sym, ap, subst, arith}
use Rattle.std.proofs.lemmas.Bool.{false≢true}
use Rattle.std.specs.Prelude.{T, not, slice_get, slice_set, unwrap_or}
use Rattle.std.proofs.lemmas.List.Sums.{prefix_len-le-length}
use Rattle.std.specs.FinMap as fm
use Rattle.std.specs.FinMap.Entries.{by_order, is_sorted-put}
use Rattle.std.specs.Option.{option_map_or}
use Rattle.std.specs.List.{insert, position, position_or_len}
use Rattle.std.specs.Ordering.{is_eq, is_lt, ordering_reverse}
use Rattle.std.specs.declared.cmp.Ordering.{Ordering}
use Rattle.std.specs.declared.cmp.Ordering.TheVariants.{Less, Equal, Greater}
use Rattle.lwc_types.specs.declared.name.Name.{Name}
use Rattle.lwc_types.specs.Names.{name_cmp}
use Rattle.lwc_types.proofs.Orders.{name-itself, name_cmp-IsAntisymmetric, name_cmp-total}
use Rattle.lwc_monitor.proofs.Pairs.{alike, entries-are, same, same-one, turned}

-- where the row of a name is, or goes
abbrev pub low : {X : Type 0} → Name → List (Name × X) → ℕ
low c rows = position_or_len (λ p. not (is_lt (name_cmp p.0 c))) rows

pub low-within : {X : Type 0} (c : Name) (rows : List (Name × X)) → low c rows ≤ length rows
low-within c rows = prefix_len-le-length _ rows

-- the place that a search answers, or the length
pub low-is : {X : Type 0} (c : Name) (rows : List (Name × X)) (o : Option ℕ) → o ≡ position (λ p. not (is_lt (name_cmp p.0 c))) rows → unwrap_or o (length rows) ≡ low c rows
low-is c rows o is = let le = low-within c rows in grind arith

not_itself : (a b : Name) (r : Ordering) → name_cmp a b ≡ r → b ≡ a → is_eq r ≡ true
not_itself a b r is same = ap is_eq (sym is) ∙ ap (λ (n : Name). is_eq (name_cmp a n)) same ∙ name-itself a

-- the place of a name in rows whose first one is so by its order
first-place : {X : Type 0} (c : Name) (f : Name × X) (fs : List (Name × X)) (r : Ordering) → name_cmp c f.0 ≡ r → low c (f ∷ fs) ≡ cond (is_lt (ordering_reverse r)) (1 + low c fs) 0
first-place c f fs r is = ap (λ (q : Ordering). cond (not (not (is_lt q))) (1 + low c fs) 0) (turned c f.0 r is) ∙ ap (λ (b : Bool). cond b (1 + low c fs) 0) (twice (is_lt (ordering_reverse r)))
  where
    twice : (b : Bool) → not (not b) ≡ b
    twice true = refl
    twice false = refl

module _ {X : Type 0} (c : Name) (m : X) where
  -- the row of the name is replaced
  pub replaced : (rows : List (Name × X)) (e : Name × X) → slice_get rows (low c rows) ≡ Some e → e.0 ≡ c → slice_set rows (low c rows) (c, m) ≡ fm.put name_cmp c m rows
  replaced [] e found same = cc
  replaced (f ∷ fs) e found same = by (name_cmp c f.0) refl (replaced fs e)
    where
      by : (r : Ordering) → name_cmp c f.0 ≡ r → (slice_get fs (low c fs) ≡ Some e → e.0 ≡ c → slice_set fs (low c fs) (c, m) ≡ fm.put name_cmp c m fs) →
          slice_set (f ∷ fs) (low c (f ∷ fs)) (c, m) ≡ by_order r ((c, m) ∷ f ∷ fs) ((f.0, m) ∷ fs) (f ∷ fm.put name_cmp c m fs)
      by Less is later =
          let here : Some f ≡ Some e = subst (λ (n : ℕ). slice_get (f ∷ fs) n ≡ Some e) (first-place c f fs Less is) found in
          let one : f ≡ e = cc in
          absurd (false≢true (not_itself c f.0 Less is (ap (λ (p : Name × X). p.0) one ∙ same)))
      by Equal is later =
          ap (λ (n : ℕ). slice_set (f ∷ fs) n (c, m)) (first-place c f fs Equal is)
          ∙ ap (λ (n : Name). (n, m) ∷ fs) (name_cmp-IsAntisymmetric c f.0 is)
      by Greater is later =
          let next : low c (f ∷ fs) ≡ suc (low c fs) = (let sum : 1 + low c fs ≡ suc (low c fs) = omega arith in first-place c f fs Greater is ∙ sum) in
          let at : slice_get fs (low c fs) ≡ Some e = subst (λ (n : ℕ). slice_get (f ∷ fs) n ≡ Some e) next found in
          ap (λ (n : ℕ). slice_set (f ∷ fs) n (c, m)) next ∙ ap (λ l. f ∷ l) (later at same)

  -- the row of another name, or none, is there: a row is put before it
  pub put_in : (rows : List (Name × X)) → ((e : Name × X) → slice_get rows (low c rows) ≡ Some e → e.0 ≢ c) → insert rows (low c rows) (c, m) ≡ fm.put name_cmp c m rows
  put_in [] other = refl
  put_in (f ∷ fs) other = by (name_cmp c f.0) refl (put_in fs)
    where
      by : (r : Ordering) → name_cmp c f.0 ≡ r → (((e : Name × X) → slice_get fs (low c fs) ≡ Some e → e.0 ≢ c) → insert fs (low c fs) (c, m) ≡ fm.put name_cmp c m fs) →
          insert (f ∷ fs) (low c (f ∷ fs)) (c, m) ≡ by_order r ((c, m) ∷ f ∷ fs) ((f.0, m) ∷ fs) (f ∷ fm.put name_cmp c m fs)
      by Less is later = ap (λ (n : ℕ). insert (f ∷ fs) n (c, m)) (first-place c f fs Less is)
      by Equal is later =
          let there : slice_get (f ∷ fs) (low c (f ∷ fs)) ≡ Some f = ap (slice_get (f ∷ fs)) (first-place c f fs Equal is) in
          absurd (other f there (sym (name_cmp-IsAntisymmetric c f.0 is)))
      by Greater is later =
          let next : low c (f ∷ fs) ≡ suc (low c fs) = (let sum : 1 + low c fs ≡ suc (low c fs) = omega arith in first-place c f fs Greater is ∙ sum) in
          ap (λ (n : ℕ). insert (f ∷ fs) n (c, m)) next ∙ ap (λ l. f ∷ l) (later (λ e at. other e (ap (slice_get (f ∷ fs)) next ∙ at)))

  module _ (rows : List (Name × X)) (sorted : T (fm.is_sorted name_cmp rows)) where
    pub put-sorted : T (fm.is_sorted name_cmp (fm.put name_cmp c m rows))
    put-sorted = is_sorted-put name_cmp name_cmp-total c m rows sorted

    -- rows with the name's put in are the map with it
    pub put-map : fm.from_sorted {R = name_cmp} (fm.put name_cmp c m rows) ≡ fm.insert (fm.from_sorted {R = name_cmp} rows) c m
    put-map =
        fm.same_entries_map _ _ (fm.entries-from_sorted name_cmp (fm.put name_cmp c m rows) put-sorted ∙ ap (fm.put name_cmp c m) (sym (entries-are rows sorted)) ∙ sym (fm.entries-insert name_cmp-total (fm.from_sorted rows) c m))

found-there : {X : Type 0} (c : Name) (o : Option (Name × X)) → option_map_or (λ p. same p.0 c) o false ≡ true → (e : Name × X) × (o ≡ Some e) × (e.0 ≡ c)
found-there c None is = cc
found-there c (Some e) is = (e, refl, same-one e.0 c is)

other-there : {X : Type 0} (c : Name) (o : Option (Name × X)) → option_map_or (λ p. same p.0 c) o false ≡ false → (e : Name × X) → o ≡ Some e → e.0 ≢ c
other-there c o is e at one =
    false≢true (sym is ∙ ap (λ (q : Option (Name × _)). option_map_or (λ p. same p.0 c) q false) at ∙ ap (λ (n : Name). same n c) one ∙ alike c c ∙ name-itself c)

module _ {X : Type 0} (c : Name) (m : X) (rows : List (Name × X)) (n : ℕ) (is : n ≡ low c rows) where
  -- what the code makes of the rows, by whether the name is there
  pub set-there : option_map_or (λ p. same p.0 c) (slice_get rows n) false ≡ true → slice_set rows n (c, m) ≡ fm.put name_cmp c m rows
  set-there test =
      let e = found-there c (slice_get rows n) test in
      ap (λ (k : ℕ). slice_set rows k (c, m)) is ∙ replaced c m rows e.0 (ap (slice_get rows) (sym is) ∙ e.1) e.2

  pub set-new : option_map_or (λ p. same p.0 c) (slice_get rows n) false ≡ false → insert rows n (c, m) ≡ fm.put name_cmp c m rows
  set-new test =
      ap (λ (k : ℕ). insert rows k (c, m)) is ∙ put_in c m rows (λ e at. other-there c (slice_get rows n) test e (ap (slice_get rows) is ∙ at))
