use Rattle.std.proofs.Common.{Some, sym, subst, refl, ◌∙◌, ◌≡◌}
use Rattle.std.specs.Prelude.{IsSome}
use mathlib.Core.Option.{some-injective}
use Rattle.turnstile.specs.Moves.{Settles}
use Rattle.turnstile.proofs.Ends.{settled}
use Rattle.turnstile.proofs.moves.settle.Goals as goal

pub unwrap-requires : goal.unwrap-requires
unwrap-requires g c =
    let rest = c.requires.rest in
    let end = settled g.S.Turned.name g.S.Turned.past (g.S.Turned.name c.args.table.shared.key.value) _ _ _ c.args.first.me.0 c.close_with-closed.ensures.values.2 rest.0 rest.1 c.requires.all in
    let is = some-injective (Some end.0) c.take-state.result (sym end.1 ∙ c.take-state.ensures.value) in
    subst (λ o. IsSome o) is refl

pub returns : goal.returns
returns g c =
    let rest = c.requires.rest in
    let name = g.S.Turned.name c.args.table.shared.key.value in
    let end = settled g.S.Turned.name g.S.Turned.past name _ _ _ c.args.first.me.0 c.close_with-closed.ensures.values.2 rest.0 rest.1 c.requires.all in
    let is = some-injective (Some end.0) c.take-state.result (sym end.1 ∙ c.take-state.ensures.value) in
    let both : Some end.0 ≡ Some c.unwrap.result = is ∙ c.unwrap.ensures in
    let same : end.0 ≡ c.unwrap.result = cc in
    subst (λ state. Settles g.S.Turned.name g.S.Turned.past name c.args.first.me.0 state) same end.2
