use Rattle.guest_call.proofs.NotRefused.{rest_clear, spec_asked}
use Rattle.guest_call.proofs.asking.items_that_are_not_refused_are_a_spec.Goals as goal

pub returns : goal.returns
returns c = record { spec = spec_asked; rest = rest_clear }
