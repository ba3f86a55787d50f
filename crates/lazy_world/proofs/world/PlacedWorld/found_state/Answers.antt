use Rattle.std.proofs.Common.{ap, sym, ◌∙◌}
use Rattle.std.specs.Option.{option_map}
use Rattle.lwc_types.specs.declared.key.Key.TheVariants.{Page}
use Rattle.range_map.specs.declared.segment.PageState.{PageState}
use Rattle.range_map.specs.Kinds.{kind_of}
use Rattle.lazy_world.proofs.MarkLemmas.{kind-of-state}
use Rattle.lazy_world.proofs.world.PlacedWorld.found_state.Goals as goal

pub returns-in-Some-clause-found : goal.returns-in-Some-clause-found
returns-in-Some-clause-found c p cell right is =
    c.found.ensures.found (Page p) cell (ap (option_map (λ (s : PageState). s.kind)) (sym c.in-Some.is ∙ is) ∙ kind-of-state (kind_of cell) right)

pub returns-in-None-clause-found : goal.returns-in-None-clause-found
returns-in-None-clause-found c p cell right is =
    c.found-in-None.ensures.found (Page p) cell (ap (option_map (λ (s : PageState). s.kind)) (sym c.in-None.is ∙ is) ∙ kind-of-state (kind_of cell) right)
