-- The contexts in slots, as a map, and their index.
use Rattle.std.proofs.Common.{◌≡◌, ◌≢◌, ◌∙◌, ℕ, zero, suc, ◌+◌, ◌-◌, ◌<◌, ◌⊎◌, inl, inr, Bool, true, false, cond, List, [], ◌∷◌, length, get_or, set, Option, Some, None, refl, sym, ap, subst, arith, count_by}
use Rattle.std.specs.Prelude.{is_some}
use Rattle.std.specs.Cmp.{tied_itself}
use Rattle.std.specs.FinMap as fm
use Rattle.std.specs.Option.{option_map}
use Rattle.std.specs.Ordering.{eq_by_cmp, is_eq}
use Rattle.std.specs.declared.cmp.Ordering.{Ordering}
use Rattle.std.specs.declared.cmp.Ordering.TheVariants.{Less, Equal, Greater}
use Rattle.std.proofs.lemmas.Bool.{both_ways, cases_Bool, cases_eq, false_from_ne_true}
use Rattle.std.proofs.lemmas.Grind.{get_or-set_at}
use Rattle.std.proofs.lemmas.List.{get_or-set_other, length-set}
use Rattle.std.proofs.lemmas.List.Sums.{sum_by-set}
use Rattle.ctx_table.specs.Places.{Places}
use Rattle.ctx_table.specs.Slots.{IsIndexed, held, map_of, name_in}
use Rattle.lwc_types.specs.declared.name.Name.{Name}
use Rattle.lwc_types.specs.Names.{name_cmp}
use Rattle.lwc_types.proofs.Orders.{name_cmp-IsAntisymmetric, name_cmp-total}
use Rattle.lwc_types.proofs.Small.{equal_of, same_some}

swapped : {A : Type 0} (a b : Bool) (x y z : A) → (a ≡ true → b ≡ true → ⊥) → cond a x (cond b y z) ≡ cond b y (cond a x z)
swapped true true x y z apart = absurd (apart refl refl)
swapped true false x y z apart = refl
swapped false b x y z apart = refl

pub not_some : {A : Type 0} {x : Option A} {y : A} → x ≡ None → x ≡ Some y → ⊥
not_some none some = cc

chosen : {A : Type 0} (b : Bool) (x y : Option A) (r : A) → cond b x y ≡ Some r → ((b ≡ true) × (x ≡ Some r)) ⊎ ((b ≡ false) × (y ≡ Some r))
chosen true x y r is = inl (refl, is)
chosen false x y r is = inr (refl, is)

module _ {X : Type 0} where
  abbrev pub weight : Option (Name × X) → ℕ
  weight s = cond (is_some s) 1 0

  -- what is in a slot, if one is told
  abbrev pub in_slot : List (Option (Name × X)) → Option ℕ → Option X
  in_slot slots None = None
  in_slot slots (Some p) = option_map (λ e. e.1) (get_or slots p None)

tie : (q n : Name) → eq_by_cmp name_cmp q n ≡ true → q ≡ n
tie q n e = name_cmp-IsAntisymmetric q n (equal_of _ e)

ties : (q n : Name) → q ≡ n → eq_by_cmp name_cmp q n ≡ true
ties q n same = ap (λ (r : Ordering). is_eq r) (subst (λ (m : Name). name_cmp q m ≡ Equal) same (tied_itself name_cmp-total q))

differs : (q n : Name) → (q ≡ n → ⊥) → eq_by_cmp name_cmp q n ≡ false
differs q n other = false_from_ne_true _ (λ e. other (tie q n e))

cases_tie : (q n : Name) → (eq_by_cmp name_cmp q n ≡ true) ⊎ (eq_by_cmp name_cmp q n ≡ false)
cases_tie q n = cases_Bool (eq_by_cmp name_cmp q n)

module _ {X : Type 0} where
  skipped : (x : Option (Name × X)) (slots : List (Option (Name × X))) (q n : Name) → ((m : Name) → name_in x ≡ Some m → m ≡ n) → eq_by_cmp name_cmp q n ≡ false →
      fm.find name_cmp q (held (x ∷ slots)) ≡ fm.find name_cmp q (held slots)
  skipped None slots q n named other = refl
  skipped (Some e) slots q n named other =
      ap (λ (b : Bool). cond b (Some e.1) (fm.find name_cmp q (held slots))) (subst (λ (m : Name). eq_by_cmp name_cmp q m ≡ false) (sym (named e.0 refl)) other)

  taken : (x : Option (Name × X)) (slots : List (Option (Name × X))) (q n : Name) → ((m : Name) → name_in x ≡ Some m → m ≡ n) → eq_by_cmp name_cmp q n ≡ true →
      fm.find name_cmp q (held slots) ≡ None → fm.find name_cmp q (held (x ∷ slots)) ≡ option_map (λ e. e.1) x
  taken None slots q n named same rest = rest
  taken (Some e) slots q n named same rest =
      ap (λ (b : Bool). cond b (Some e.1) (fm.find name_cmp q (held slots))) (subst (λ (m : Name). eq_by_cmp name_cmp q m ≡ true) (sym (named e.0 refl)) same)

  none_held : (slots : List (Option (Name × X))) (q : Name) → ((j : ℕ) → name_in (get_or slots j None) ≡ Some q → ⊥) → fm.find name_cmp q (held slots) ≡ None
  none_held [] q none = refl
  none_held (None ∷ slots) q none = none_held slots q (λ j. none (suc j))
  none_held (Some e ∷ slots) q none =
      ap (λ (b : Bool). cond b (Some e.1) (fm.find name_cmp q (held slots))) (differs q e.0 (λ same. none 0 (ap (λ (m : Name). Some m) (sym same))))
      ∙ none_held slots q (λ j. none (suc j))

  found_held : (slots : List (Option (Name × X))) (p : ℕ) (q : Name) (e : Name × X) → get_or slots p None ≡ Some e → e.0 ≡ q →
      ((j : ℕ) → j < p → name_in (get_or slots j None) ≡ Some q → ⊥) → fm.find name_cmp q (held slots) ≡ Some e.1
  found_held [] p q e is named before = cc
  found_held (s ∷ slots) zero q e is named before =
      ap (λ (x : Option (Name × X)). fm.find name_cmp q (held (x ∷ slots))) is ∙ ap (λ (b : Bool). cond b (Some e.1) (fm.find name_cmp q (held slots))) (ties q e.0 (sym named))
  found_held (None ∷ slots) (suc p) q e is named before = found_held slots p q e is named (λ j below. before (suc j) (omega arith))
  found_held (Some f ∷ slots) (suc p) q e is named before =
      ap (λ (b : Bool). cond b (Some f.1) (fm.find name_cmp q (held slots))) (differs q f.0 (λ same. before 0 (omega arith) (ap (λ (m : Name). Some m) (sym same))))
      ∙ found_held slots p q e is named (λ j below. before (suc j) (omega arith))

  -- another entry in the one slot that may have a name
  set_held : (slots : List (Option (Name × X))) (p : ℕ) (q n : Name) (x : Option (Name × X)) → p < length slots →
      ((j : ℕ) → j ≢ p → name_in (get_or slots j None) ≡ Some n → ⊥) → ((m : Name) → name_in (get_or slots p None) ≡ Some m → m ≡ n) → ((m : Name) → name_in x ≡ Some m → m ≡ n) →
      fm.find name_cmp q (held (set slots p x)) ≡ cond (eq_by_cmp name_cmp q n) (option_map (λ e. e.1) x) (fm.find name_cmp q (held slots))
  set_held [] p q n x within others here new = absurd (omega arith)
  set_held (s ∷ slots) zero q n x within others here new =
      elim (eq_by_cmp name_cmp q n) as (λ b. eq_by_cmp name_cmp q n ≡ b → fm.find name_cmp q (held (x ∷ slots)) ≡ cond b (option_map (λ e. e.1) x) (fm.find name_cmp q (held (s ∷ slots)))) [
        | true ↦ λ same. taken x slots q n new same (none_held slots q (λ j has. others (suc j) (λ e. omega arith) (has ∙ ap (λ (m : Name). Some m) (tie q n same))))
        | false ↦ λ other. skipped x slots q n new other ∙ sym (skipped s slots q n here other)
      ] refl
  set_held (None ∷ slots) (suc p) q n x within others here new = set_held slots p q n x (omega arith) (λ j other. others (suc j) (λ e. other (omega arith))) here new
  set_held (Some e ∷ slots) (suc p) q n x within others here new =
      ap (λ (r : Option X). cond (eq_by_cmp name_cmp q e.0) (Some e.1) r) (set_held slots p q n x (omega arith) (λ j other. others (suc j) (λ e. other (omega arith))) here new)
      ∙ swapped (eq_by_cmp name_cmp q e.0) (eq_by_cmp name_cmp q n) (Some e.1) (option_map (λ e. e.1) x) (fm.find name_cmp q (held slots))
      (λ first second. others 0 (λ e. omega arith) (ap (λ (m : Name). Some m) (sym (tie q e.0 first) ∙ tie q n second)))

  -- a slot whose entry has a name tells the place and the name
  place_told : (p : ℕ) (x : Option (Name × X)) (r : ℕ) → option_map (λ e. p) x ≡ Some r → p ≡ r
  place_told p None r is = absurd (not_some refl is)
  place_told p (Some e) r is = same_some p r is

  name_told : (p : ℕ) (x : Option (Name × X)) (r : ℕ) (n : Name) → option_map (λ e. p) x ≡ Some r → ((m : Name) → name_in x ≡ Some m → m ≡ n) → name_in x ≡ Some n
  name_told p None r n is new = absurd (not_some refl is)
  name_told p (Some e) r n is new = ap (λ (m : Name). Some m) (new e.0 refl)

  told : (p : ℕ) (x : Option (Name × X)) (q : Name) → name_in x ≡ Some q → option_map (λ e. p) x ≡ Some p
  told p None q named = absurd (not_some refl named)
  told p (Some e) q named = refl

  pub some_named : (x : Option (Name × X)) (q : Name) → name_in x ≡ Some q → is_some x ≡ true
  some_named None q named = absurd (not_some refl named)
  some_named (Some e) q named = refl

  pub count-set : (slots : List (Option (Name × X))) (p : ℕ) (x : Option (Name × X)) → p < length slots →
      count_by is_some (set slots p x) + weight (get_or slots p None) ≡ count_by is_some slots + weight x
  count-set slots p x within = sum_by-set weight slots p x None within

  found_slot : (slots : List (Option (Name × X))) (p : ℕ) (q : Name) (x : Option (Name × X)) → get_or slots p None ≡ x → name_in x ≡ Some q →
      ((j : ℕ) → j < p → name_in (get_or slots j None) ≡ Some q → ⊥) → fm.find name_cmp q (held slots) ≡ option_map (λ e. e.1) x
  found_slot slots p q None is named before = absurd (not_some refl named)
  found_slot slots p q (Some e) is named before = found_held slots p q e is (same_some e.0 q named) before

  -- what the map has under a name is in the slot that the index tells
  pub get-map_of : {most : ℕ} (slots : List (Option (Name × X))) (index : Places) (q : Name) → IsIndexed most slots index → (p : Option ℕ) → fm.get index.map q ≡ p →
      fm.get (map_of slots) q ≡ in_slot slots p
  get-map_of slots index q is None at = fm.get-from_entries name_cmp-total (held slots) q ∙ none_held slots q (λ j has. not_some at (is.known q j has))
  get-map_of slots index q is (Some p) at =
      fm.get-from_entries name_cmp-total (held slots) q
      ∙ found_slot slots p q (get_or slots p None) refl (is.there q p at) (λ j below has. omega (arith, same_some j p (sym (is.known q j has) ∙ at)))

  module _ {most : ℕ} (slots : List (Option (Name × X))) (index : Places) (is : IsIndexed most slots index) (n : Name) (p : ℕ) where
    -- the map after a change of the one slot that may have a name
    changed_map : (x : Option (Name × X)) → p < length slots → ((j : ℕ) → j ≢ p → name_in (get_or slots j None) ≡ Some n → ⊥) →
        ((m : Name) → name_in (get_or slots p None) ≡ Some m → m ≡ n) → ((m : Name) → name_in x ≡ Some m → m ≡ n) → (q : Name) →
        fm.get (map_of (set slots p x)) q ≡ cond (eq_by_cmp name_cmp q n) (option_map (λ e. e.1) x) (fm.get (map_of slots) q)
    changed_map x within others here new q =
        fm.get-from_entries name_cmp-total (held (set slots p x)) q ∙ set_held slots p q n x within others here new
        ∙ ap (λ (r : Option X). cond (eq_by_cmp name_cmp q n) (option_map (λ e. e.1) x) r) (sym (fm.get-from_entries name_cmp-total (held slots) q))

    -- and the index, if it changes in the same way
    changed_index : (x : Option (Name × X)) (map : fm.FinMap name_cmp ℕ) → p < length slots → ((j : ℕ) → j ≢ p → name_in (get_or slots j None) ≡ Some n → ⊥) →
        ((m : Name) → name_in (get_or slots p None) ≡ Some m → m ≡ n) → ((m : Name) → name_in x ≡ Some m → m ≡ n) →
        ((q : Name) → fm.get map q ≡ cond (eq_by_cmp name_cmp q n) (option_map (λ e. p) x) (fm.get index.map q)) → fm.len map ≡ count_by is_some (set slots p x) →
        IsIndexed most (set slots p x) (record { map = map; room = index.room })
    changed_index x map within others here new gets counts = record {
      few = omega (arith, length-set slots p x, is.few);
      room = omega (arith, length-set slots p x, is.room);
      counted = counts;
      within = λ q r at. within_set q r (chosen _ _ _ r (sym (gets q) ∙ at));
      there = λ q r at. there_set q r (chosen _ _ _ r (sym (gets q) ∙ at));
      known = λ q r has. known_set q r has (cases_eq r p);
    }
      where
        Case : Name → ℕ → Type 0
        Case q r =
            ((eq_by_cmp name_cmp q n ≡ true) × (option_map (λ e. p) x ≡ Some r)) ⊎ ((eq_by_cmp name_cmp q n ≡ false) × (fm.get index.map q ≡ Some r))

        within_set : (q : Name) (r : ℕ) → Case q r → r < length (set slots p x)
        within_set q r (inl (same, it)) = omega (arith, length-set slots p x, within, place_told p x r it)
        within_set q r (inr (other, at)) = omega (arith, length-set slots p x, is.within q r at)

        there_set : (q : Name) (r : ℕ) → Case q r → name_in (get_or (set slots p x) r None) ≡ Some q
        there_set q r (inl (same, it)) =
            ap name_in (get_or-set_at slots p r x None (sym (place_told p x r it)) within) ∙ name_told p x r n it new ∙ ap (λ (m : Name). Some m) (sym (tie q n same))
        there_set q r (inr (other, at)) =
            ap name_in (get_or-set_other slots p r x None (λ e. both_ways _ other (ties q n (here q (subst (λ (j : ℕ). name_in (get_or slots j None) ≡ Some q) (omega arith) (is.there q r at))))))
            ∙ is.there q r at

        known_set : (q : Name) (r : ℕ) → name_in (get_or (set slots p x) r None) ≡ Some q → (r ≡ p) ⊎ (r ≡ p → ⊥) → fm.get map q ≡ Some r
        known_set q r has (inl e) =
            let named = sym (ap name_in (get_or-set_at slots p r x None e within)) ∙ has in
            gets q ∙ ap (λ (b : Bool). cond b (option_map (λ e. p) x) (fm.get index.map q)) (ties q n (new q named)) ∙ told p x q named ∙ ap (λ (j : ℕ). Some j) (sym e)
        known_set q r has (inr other) =
            let named = sym (ap name_in (get_or-set_other slots p r x None other)) ∙ has in
            gets q ∙ ap (λ (b : Bool). cond b (option_map (λ e. p) x) (fm.get index.map q)) (differs q n (λ same. others r other (named ∙ ap (λ (m : Name). Some m) same)))
            ∙ is.known q r named

    module _ (new : fm.get index.map n ≡ None) (within : p < length slots) (free : get_or slots p None ≡ None) (x : X) where
      new_others : (j : ℕ) → j ≢ p → name_in (get_or slots j None) ≡ Some n → ⊥
      new_others j other has = not_some new (is.known n j has)

      free_here : (m : Name) → name_in (get_or slots p None) ≡ Some m → m ≡ n
      free_here m named = absurd (not_some (ap name_in free) named)

      -- a new name in a free slot
      pub insert-map_of : map_of (set slots p (Some (n, x))) ≡ fm.insert (map_of slots) n x
      insert-map_of = fm.same_map name_cmp-total name_cmp-IsAntisymmetric _ _ (λ q.
          changed_map (Some (n, x)) within new_others free_here (λ m named. sym (same_some n m named)) q ∙ sym (fm.get-insert name_cmp-total (map_of slots) n x q))

      pub insert-indexed : IsIndexed most (set slots p (Some (n, x))) (record { map = fm.insert index.map n p; room = index.room })
      insert-indexed = changed_index (Some (n, x)) (fm.insert index.map n p) within new_others free_here (λ m named. sym (same_some n m named)) (λ q. fm.get-insert name_cmp-total index.map n p q)
          (let more = fm.len-insert name_cmp-total index.map n p ∙ ap (λ (b : Bool). cond b (fm.len index.map) (fm.len index.map + 1)) (ap is_some new) in
          omega (arith, more, is.counted, count-set slots p (Some (n, x)) within, ap weight free))

    module _ (at : fm.get index.map n ≡ Some p) where
      old_others : (j : ℕ) → j ≢ p → name_in (get_or slots j None) ≡ Some n → ⊥
      old_others j other has = other (same_some j p (sym (is.known n j has) ∙ at))

      named_here : (m : Name) → name_in (get_or slots p None) ≡ Some m → m ≡ n
      named_here m named = same_some m n (sym named ∙ is.there n p at)

      taken_here : weight (get_or slots p None) ≡ 1
      taken_here = let one : ℕ = 1 in let none : ℕ = 0 in ap (λ (b : Bool). cond b one none) (some_named (get_or slots p None) n (is.there n p at))

      -- another entry in the slot of a name
      pub update-map_of : (x : X) → map_of (set slots p (Some (n, x))) ≡ fm.insert (map_of slots) n x
      update-map_of x = fm.same_map name_cmp-total name_cmp-IsAntisymmetric _ _ (λ q.
          changed_map (Some (n, x)) (is.within n p at) old_others named_here (λ m named. sym (same_some n m named)) q ∙ sym (fm.get-insert name_cmp-total (map_of slots) n x q))

      pub update-indexed : (x : X) → IsIndexed most (set slots p (Some (n, x))) index
      update-indexed x = changed_index (Some (n, x)) index.map (is.within n p at) old_others named_here (λ m named. sym (same_some n m named)) (λ q. same_place q (cases_tie q n))
          (omega (arith, is.counted, count-set slots p (Some (n, x)) (is.within n p at), taken_here))
        where
          same_place : (q : Name) → (eq_by_cmp name_cmp q n ≡ true) ⊎ (eq_by_cmp name_cmp q n ≡ false) → fm.get index.map q ≡ cond (eq_by_cmp name_cmp q n) (Some p) (fm.get index.map q)
          same_place q (inl same) = subst (λ (m : Name). fm.get index.map m ≡ Some p) (sym (tie q n same)) at ∙ sym (ap (λ (b : Bool). cond b (Some p) (fm.get index.map q)) same)
          same_place q (inr other) = sym (ap (λ (b : Bool). cond b (Some p) (fm.get index.map q)) other)

      -- no entry in the slot of a name
      pub remove-map_of : map_of (set slots p None) ≡ fm.remove (map_of slots) n
      remove-map_of = fm.same_map name_cmp-total name_cmp-IsAntisymmetric _ _ (λ q.
          changed_map None (is.within n p at) old_others named_here (λ m named. absurd (not_some refl named)) q ∙ sym (fm.get-remove name_cmp-total (map_of slots) n q))

      pub remove-indexed : IsIndexed most (set slots p None) (record { map = fm.remove index.map n; room = index.room })
      remove-indexed = changed_index None (fm.remove index.map n) (is.within n p at) old_others named_here (λ m named. absurd (not_some refl named)) (λ q. fm.get-remove name_cmp-total index.map n q)
          (let fewer = fm.len-remove name_cmp-total index.map n ∙ ap (λ (b : Bool). cond b (fm.len index.map - 1) (fm.len index.map)) (ap is_some at) in
          omega (arith, fewer, is.counted, count-set slots p None (is.within n p at), taken_here))
