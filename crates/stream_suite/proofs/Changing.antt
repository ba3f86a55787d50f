-- The passes of a process while one of them takes turns, and in any order.
use Rattle.std.proofs.Common.{◌≡◌, ◌<◌, ℕ, List, length, get_or, map, ap, subst, sym, ◌∙◌, arith, set, length-set, get_or-set_same, get_or-set_other}
use Rattle.std.specs.Prelude.{All, Contains, IsPermutation}
use Rattle.std.proofs.lemmas.List.{get_or-map}
use Rattle.std.proofs.lemmas.List.Sorted.{All-permutation, Contains-permutation, IsPermutation-map}
use lib.Seq.{map-set, set-get_or}
use mathlib.Core.Logic.{dite}
use native.Mathlib.Decide.{ℕ_discrete}
use Rattle.process_core.specs.declared.opened.Opened.{Opened}
use Rattle.process_core.specs.Running.{AreAllOf, Carried, IsPassOf}
use Rattle.turnstile.specs.Passes.{Lock}

-- a pass may change, if it stays the process's and keeps its number
pub all_after : (process : Lock Opened) (passes : List Carried) (i : ℕ) (p : Carried) → i < length passes → IsPassOf process p
    → p.held.number ≡ (get_or passes i p).held.number → AreAllOf process passes → AreAllOf process (set passes i p)
all_after process passes i p inside ours same all = record {
  ours = λ k d below. dite (ℕ_discrete k i) (λ here. subst (λ (q : Carried). IsPassOf process q) (sym (ap (λ (j : ℕ). get_or (set passes i p) j d) here ∙ get_or-set_same passes i p d inside)) ours)
      (λ there. subst (λ (q : Carried). IsPassOf process q) (sym (get_or-set_other passes i k p d there)) (all.ours k d (let long = length-set passes i p in omega arith)));
  every = λ n below. subst (λ (numbers : List ℕ). Contains numbers n) (sym numbers_stay) (all.every n below);
}
  where
    numbers_stay : map (λ (q : Carried). q.held.number) (set passes i p) ≡ map (λ (q : Carried). q.held.number) passes
    numbers_stay =
        map-set (λ (q : Carried). q.held.number) passes i p
        ∙ ap (set (map (λ (q : Carried). q.held.number) passes) i) (same ∙ sym (get_or-map (λ (q : Carried). q.held.number) passes i p 0 inside))
        ∙ set-get_or (map (λ (q : Carried). q.held.number) passes) i 0

-- all passes are all of them in any order
pub all_in_any_order : (process : Lock Opened) (passes others : List Carried) → IsPermutation passes others → AreAllOf process passes → AreAllOf process others
all_in_any_order process passes others moved all = record {
  ours = All-permutation (IsPassOf process) passes others moved all.ours;
  every = λ n below. Contains-permutation _ _ n (IsPermutation-map (λ (p : Carried). p.held.number) passes others moved) (all.every n below);
}
