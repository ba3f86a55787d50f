-- The contexts and threads that there are, and those that there are not.
use Rattle.std.proofs.Common.{◌≡◌, ◌≢◌, ◌≤◌, ℕ, true, false, List, None, Some, length, take, All, ◌+◌, ◌∙◌, ◌&&◌, ap, eqb, subst, sym, arith}
use Rattle.std.specs.Prelude.{slice_get}
use Rattle.std.specs.FinMap as fm
use Rattle.std.specs.Option.{option_map}
use Rattle.std.specs.Ordering.{eq_by_cmp}
use Rattle.std.proofs.lemmas.Bool.Decides.{nat_tests}
use Rattle.std.proofs.lemmas.List.{length-map, take_all}
use Rattle.std.proofs.lemmas.List.Elements.{All-more}
use Rattle.std.proofs.lemmas.List.Folds.{list_any_none}
use Rattle.std.proofs.lemmas.Option.{get_or_from_slice_get, slice_get_past, slice_get_within}
use Rattle.kernel_core.specs.Kernel.{view_of}
use Rattle.kernel_core.specs.Machine.{Machine}
use Rattle.kernel_core.specs.declared.thread.Thread.{Thread}
use Rattle.lwc_base.specs.World.{World, is_live}
use Rattle.lwc_types.proofs.Orders.{other_name}
use Rattle.lwc_types.specs.Names.{name_cmp}
use Rattle.lwc_types.specs.declared.name.Name.{Name}
use Rattle.lwc_text.proofs.Machines.{is_named, lives}

-- names are one where their parts are, and else they differ

pub same_by_parts : (a b : Name) → (eqb a.job b.job && eqb a.k b.k) ≡ true → a ≡ b
same_by_parts a b same =
    let job : a.job ≡ b.job = grind (arith, nat_tests) in
    let k : a.k ≡ b.k = grind (arith, nat_tests) in
    (λ i. record { job = job i; k = k i })

pub other_by_parts : (a b : Name) → (eqb a.job b.job && eqb a.k b.k) ≡ false → a ≢ b
other_by_parts a b apart same =
    let job : a.job ≡ b.job = ap (λ (n : Name). n.job) same in
    let k : a.k ≡ b.k = ap (λ (n : Name). n.k) same in
    grind (arith, nat_tests)

-- the name is none of these
abbrev pub IsMissing : Name → List Name → Type 0
IsMissing c names = All (λ n. n ≢ c) names

-- nor is it the next one
pub still_missing : (w : World) (c n : Name) (i : ℕ) → slice_get (fm.keys w.contexts) i ≡ Some n → n ≢ c → IsMissing c (take i (fm.keys w.contexts)) → IsMissing c (take (i + 1) (fm.keys w.contexts))
still_missing w c n i found apart missing =
    let P : Name → Type 0 = λ x. x ≢ c in
    let keys : List Name = fm.keys w.contexts in
    All-more P keys i n (slice_get_within keys i n found) missing (subst P (sym (get_or_from_slice_get keys i n n found)) apart)

-- so it is not live
pub not_live : (w : World) (c : Name) (i : ℕ) → fm.len w.contexts ≤ i → IsMissing c (take i (fm.keys w.contexts)) → is_live w c ≡ false
not_live w c i all missing =
    let keys : List Name = fm.keys w.contexts in
    let count : length keys ≤ i = omega (arith, all, fm.len-entries w.contexts, length-map (fm.entries w.contexts) (λ e. e.0)) in
    let none : IsMissing c keys = subst (IsMissing c) (take_all i keys count) missing in
    fm.contains_key-keys w.contexts c ∙ list_any_none (eq_by_cmp name_cmp c) keys (λ k d inside. other_name c _ (λ same. none k d inside (sym same)))

-- a live name
pub live_name : (w : World) (c n : Name) (i : ℕ) → slice_get (fm.keys w.contexts) i ≡ Some n → n ≡ c → is_live w c ≡ true
live_name w c n i found same = lives w i c (found ∙ ap Some same)

-- behind the last thread there is none
pub no_view : (m : Machine) (t : ℕ) → length m.threads ≤ t → view_of m t ≡ None
unfolding view_of
no_view m t past = ap (option_map (λ (x : Thread). record { status = x.status; context = x.context; regs = x.regs })) (slice_get_past m.threads t past)

pub ruleset living = (is_named, not_live)
