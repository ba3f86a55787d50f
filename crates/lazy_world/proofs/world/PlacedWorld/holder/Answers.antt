use Rattle.std.proofs.Common.{◌+◌, ◌∙◌, ap, sym, Some}
use Rattle.std.specs.Option.{option_map}
use Rattle.lazy_world.specs.Cells.{rows_of}
use Rattle.lazy_world.specs.Seen.{rows}
use Rattle.lazy_world.specs.Worlds.{parts}
use Rattle.lazy_world.proofs.HolderLemmas.{holder-common, holder-none, holder-own}
use Rattle.lazy_world.proofs.world.PlacedWorld.holder.Goals as goal

pub returns-in-None-clause-place : goal.returns-in-None-clause-place
unfolding parts rows rows_of
returns-in-None-clause-place c = sym (holder-none (parts c.args.self.now) c.args.place _ (sym c.kind.ensures ∙ c.in-None.is))

pub returns-in-Some-Own-clause-place : goal.returns-in-Some-Own-clause-place
unfolding parts rows rows_of
returns-in-Some-Own-clause-place c = sym (holder-own (parts c.args.self.now) c.args.place _ (sym c.kind.ensures ∙ c.in-Some-Own.is ∙ ap Some c.in-Some-Own.field-0-is))

pub returns-in-Some-clause-place : goal.returns-in-Some-clause-place
unfolding parts rows rows_of
returns-in-Some-clause-place c =
    ap (option_map (λ j. c.args.self.now.size.contexts + j)) (sym c.in-Some.is ∙ c.place.ensures.place)
    ∙ sym (holder-common (parts c.args.self.now) c.args.place c.in-Some-Common.g _ (sym c.kind.ensures ∙ c.in-Some-Common.is ∙ ap Some c.in-Some-Common.field-0-is))

pub returns-in-None-place-clause-place : goal.returns-in-None-place-clause-place
unfolding parts rows rows_of
returns-in-None-place-clause-place c =
    ap (option_map (λ j. c.args.self.now.size.contexts + j)) (sym c.in-None-place.is ∙ c.place.ensures.place)
    ∙ sym (holder-common (parts c.args.self.now) c.args.place c.in-Some-Common.g _ (sym c.kind.ensures ∙ c.in-Some-Common.is ∙ ap Some c.in-Some-Common.field-0-is))
