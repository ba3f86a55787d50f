use Rattle.std.proofs.Common.{ap, sym, ◌∙◌}
use Rattle.std.specs.Option.{option_map}
use Rattle.lwc_types.specs.declared.key.Key.TheVariants.{Page}
use Rattle.range_map.specs.declared.segment.PageState.{PageState}
use Rattle.lazy_world.specs.Cells.{rows_of}
use Rattle.lazy_world.specs.Seen.{rights, rows}
use Rattle.lazy_world.proofs.world.PlacedWorld.found_page.Goals as goal

pub returns-clause-found : goal.returns-clause-found
unfolding rows rights rows_of
returns-clause-found c q low high =
    let w = c.args.self.now in
    c.found_state.ensures.found q (rows w.places c.args.place (Page q)) (rights w.places c.args.place q) (c.run_at-state.ensures.state ∙ sym (c.run_at-state.ensures.alike q low high))

pub returns-clause-right : goal.returns-clause-right
unfolding rows rights rows_of
returns-clause-right c q low high =
    c.found_state.ensures.right ∙ ap (option_map (λ (s : PageState). s.right)) (c.run_at-state.ensures.state ∙ sym (c.run_at-state.ensures.alike q low high))
