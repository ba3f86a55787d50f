-- There are no more traps than live contexts.
use Rattle.std.proofs.Common.{◌≡◌, ◌∙◌, ◌+◌, ◌≤◌, ℕ, Bool, true, false, cond, not, Option, None, Some, List, [], ◌∷◌, length, refl, sym, ap, arith}
use Rattle.std.proofs.lemmas.Bool.{false≢true}
use Rattle.std.specs.Prelude.{T, is_some}
use Rattle.std.specs.FinMap as fm
use Rattle.std.specs.FinMap.Entries.{below_all, find, find-where_key, is_sorted, is_sorted-where_key, length_without, where_key}
use Rattle.std.specs.Ordering.{eq_by_cmp}
use Rattle.lwc_base.specs.World.{World, is_live}
use Rattle.lwc_types.specs.Names.{name_cmp}
use Rattle.lwc_types.specs.declared.name.Name.{Name}
use Rattle.lwc_types.proofs.Orders.{name-itself, name_cmp-IsAntisymmetric, name_cmp-total, same_name}

-- a key below all others is not found among them
absent : {X : Type 0} (k : Name) (es : List (Name × X)) → T (below_all name_cmp k es) → find name_cmp k es ≡ None
absent k [] all = refl
absent k (e ∷ es) all = let rest = absent k es in grind arith

module _ {X Y : Type 0} where
  -- pairs whose keys are all keys of others are no more than these
  fewer : (es : List (Name × X)) (fs : List (Name × Y)) → T (is_sorted name_cmp es) → T (is_sorted name_cmp fs) →
      ((q : Name) → is_some (find name_cmp q es) ≡ true → is_some (find name_cmp q fs) ≡ true) → length es ≤ length fs
  fewer [] fs sorted also each = omega arith
  fewer (e ∷ es) fs sorted also each =
      let rest = fewer es others (grind arith) (is_sorted-where_key name_cmp other fs also) still in
      let one : cond (is_some (find name_cmp e.0 fs)) 1 0 + length others ≡ length fs = length_without name_cmp name_cmp-total e.0 fs also in
      let single : Bool → ℕ = λ b. cond b 1 0 in
      let here : single (is_some (find name_cmp e.0 fs)) ≡ single true = ap single (each e.0 (ap (λ b. is_some (cond b (Some e.1) (find name_cmp e.0 es))) (name-itself e.0))) in
      omega (arith, rest, one, here)
    where
      other : Name → Bool
      other x = not (eq_by_cmp name_cmp e.0 x)

      others : List (Name × Y)
      others = where_key name_cmp other fs

      first_gone : find name_cmp e.0 es ≡ None
      first_gone = absent e.0 es (grind arith)

      kept : (q : Name) (b : Bool) → eq_by_cmp name_cmp e.0 q ≡ b → is_some (find name_cmp q es) ≡ true → other q ≡ true
      kept q true same there = absurd (false≢true (sym (ap is_some first_gone) ∙ ap (λ k. is_some (find name_cmp k es)) (same_name e.0 q same) ∙ there))
      kept q false apart there = ap not apart

      later : (q : Name) (b : Bool) → eq_by_cmp name_cmp q e.0 ≡ b → is_some (find name_cmp q es) ≡ true → is_some (find name_cmp q (e ∷ es)) ≡ true
      later q true same there = ap (λ b. is_some (cond b (Some e.1) (find name_cmp q es))) same
      later q false apart there = ap (λ b. is_some (cond b (Some e.1) (find name_cmp q es))) apart ∙ there

      still : (q : Name) → is_some (find name_cmp q es) ≡ true → is_some (find name_cmp q others) ≡ true
      still q there =
          ap is_some (find-where_key name_cmp other q (λ x tie. ap other (sym (name_cmp-IsAntisymmetric q x tie))) fs ∙ ap (λ b. cond b (find name_cmp q fs) None) (kept q (eq_by_cmp name_cmp e.0 q) refl there))
          ∙ each q (later q (eq_by_cmp name_cmp q e.0) refl there)

module _ {X : Type 0} where
  pub few_traps : (traps : fm.FinMap name_cmp X) (w : World) → ((d : Name) (m : X) → fm.get traps d ≡ Some m → is_live w d ≡ true) → fm.len traps ≤ fm.len w.contexts
  few_traps traps w live =
      let few = fewer (fm.entries traps) (fm.entries w.contexts) (fm.entries_sorted traps) (fm.entries_sorted w.contexts) each in
      omega (arith, few, fm.len-entries traps, fm.len-entries w.contexts)
    where
      of_found : (q : Name) (found : Option X) → fm.get traps q ≡ found → is_some found ≡ true → is_live w q ≡ true
      of_found q None is there = absurd (false≢true there)
      of_found q (Some m) is there = live q m is

      each : (q : Name) → is_some (find name_cmp q (fm.entries traps)) ≡ true → is_some (find name_cmp q (fm.entries w.contexts)) ≡ true
      each q there =
          ap is_some (sym (fm.get-entries w.contexts q))
          ∙ of_found q (fm.get traps q) refl (ap is_some (fm.get-entries traps q) ∙ there)
