use Rattle.std.proofs.Common.{◌∙◌, ap}
use Rattle.std.specs.List.{list_any}
use Rattle.lazy_world.proofs.LooseLemmas.{same-test}
use Rattle.lazy_world.proofs.loosening.is_among.Goals as goal

pub returns : goal.returns
returns c = c.contains.ensures.value ∙ ap (λ p. list_any p c.args.names.now) (λ e n. same-test n c.args.context e)
