use Rattle.std.proofs.Common.{rules}
use Rattle.lwc_stream.proofs.beside.serve_beside.Goals as goal

pub returns-clause-shown : goal.returns-clause-shown
returns-clause-shown g c κs within = let shown = c.serve_in_new_scope-workers.ensures.gives.3 κs within in let back = c.take_back.ensures in let name = c.serve_in_new_scope-workers.ensures.gives.0 in search rules
