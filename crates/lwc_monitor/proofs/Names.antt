-- Whether a name is among those of live contexts.
use Rattle.std.proofs.Common.{◌≡◌, ℕ, refl, ◌≤◌, ◌<◌, ◌+◌, sym, ap, ◌∙◌, Bool, true, false, ◌||◌, List, [], ◌∷◌, ◌++◌, length, Some, None, take, arith, ⊎_elim}
use Rattle.std.specs.Prelude.{slice_get}
use Rattle.std.specs.FinMap as fm
use Rattle.std.specs.List.{list_any}
use Rattle.std.specs.Ordering.{eq_by_cmp}
use Rattle.std.proofs.lemmas.Cmp.{eq_by_cmp_equiv}
use Rattle.std.proofs.lemmas.List.{length-map, take_more, take_all}
use Rattle.std.proofs.lemmas.List.Folds.{list_any-append}
use Rattle.std.proofs.lemmas.Map.Views.{list_any-from_Contains}
use Rattle.std.proofs.lemmas.Option.{slice_get_cases, slice_get_within, get_or_from_slice_get}
use Rattle.lwc_base.specs.World.{World, is_live}
use Rattle.lwc_types.specs.Names.{name_cmp}
use Rattle.lwc_types.specs.declared.name.Name.{Name}
use Rattle.lwc_types.proofs.Orders.{name_cmp-total}

-- the names of live contexts that a search has passed
abbrev pub is_among_first : World → ℕ → Name → Bool
is_among_first w i c = list_any (eq_by_cmp name_cmp c) (take i (fm.keys w.contexts))

-- a name that is found is live
pub found : (w : World) (i : ℕ) (c : Name) → slice_get (fm.keys w.contexts) i ≡ Some c → is_live w c ≡ true
found w i c is =
    fm.contains_key-keys w.contexts c
    ∙ list_any-from_Contains (eq_by_cmp_equiv name_cmp-total) c (fm.keys w.contexts) (i, slice_get_within (fm.keys w.contexts) i c is, get_or_from_slice_get (fm.keys w.contexts) i c c is)

or-neither : (a b : Bool) → a ≡ false → b ≡ false → (a || b) ≡ false
or-neither true b first second = first
or-neither false b first second = second

-- one more name is passed
pub passed : (w : World) (i : ℕ) (c d : Name) → slice_get (fm.keys w.contexts) i ≡ Some d → eq_by_cmp name_cmp c d ≡ false → is_among_first w i c ≡ false → is_among_first w (i + 1) c ≡ false
passed w i c d is other before =
    let keys : List Name = fm.keys w.contexts in
    ap (list_any (eq_by_cmp name_cmp c)) (take_more keys i d (slice_get_within keys i d is) ∙ ap (λ x. take i keys ++ x ∷ []) (get_or_from_slice_get keys i d d is))
    ∙ list_any-append (eq_by_cmp name_cmp c) (take i keys) (d ∷ [])
    ∙ or-neither _ _ before (or-neither _ _ other refl)

count_of_keys : (w : World) → fm.len w.contexts ≡ length (fm.keys w.contexts)
count_of_keys w = fm.len-entries w.contexts ∙ sym (length-map (fm.entries w.contexts) (λ e. e.0))

-- below their number there is a name
pub is_named : (w : World) (i : ℕ) → i < fm.len w.contexts → slice_get (fm.keys w.contexts) i ≡ None → ⊥
is_named w i below none =
    let keys : List Name = fm.keys w.contexts in
    ⊎_elim (λ p. let both : Some p.0 ≡ None = sym p.2 ∙ none in cc) (λ p. absurd (omega (arith, p.0, count_of_keys w))) (slice_get_cases keys i).1

-- where all names are passed, the context is not live
pub none_left : (w : World) (i : ℕ) (c : Name) → fm.len w.contexts ≤ i → is_among_first w i c ≡ false → is_live w c ≡ false
none_left w i c past before =
    let keys : List Name = fm.keys w.contexts in
    fm.contains_key-keys w.contexts c ∙ ap (list_any (eq_by_cmp name_cmp c)) (sym (take_all i keys (omega (arith, count_of_keys w)))) ∙ before
