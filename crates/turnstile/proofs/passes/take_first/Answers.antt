use Rattle.std.proofs.Common.{rules, Some, ◌≡◌, ◌∷◌, ◌==◌, sym, subst}
use Rattle.std.specs.List.{position}
use Rattle.std.specs.List.Sorted.{IsPermutation}
use Rattle.std.proofs.lemmas.List.Sorted.{IsPermutation-swap_remove}
use Rattle.std.specs.Prelude.{IsSome}
use Rattle.turnstile.proofs.Passing.{position_found, position_has}
use Rattle.turnstile.proofs.passes.take_first.Goals as goal

pub unwrap-requires : goal.unwrap-requires
unwrap-requires g c = let items = c.args.passes.now.items in let is : c.place_of_first-place.result ≡ position (λ p. (g.P.HoldsPass.held p).number == 0) items = search rules in
    subst (λ place. IsSome place) (sym is) (position_found (λ p. (g.P.HoldsPass.held p).number) 0 items c.requires)

pub returns-clause-others : goal.returns-clause-others
returns-clause-others g c = let items = c.args.passes.now.items in let removed = c.swap_remove.ensures in
    subst (λ rest. IsPermutation items (c.swap_remove.result ∷ rest)) (sym removed.items) (IsPermutation-swap_remove items c.unwrap.result c.swap_remove.result (search rules) removed.value)

pub returns-clause-first : goal.returns-clause-first
returns-clause-first g c = let items = c.args.passes.now.items in let is : position (λ p. (g.P.HoldsPass.held p).number == 0) items ≡ Some c.unwrap.result = search rules in
    position_has (λ p. (g.P.HoldsPass.held p).number) 0 items c.unwrap.result c.swap_remove.result is c.swap_remove.ensures.value
