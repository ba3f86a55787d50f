use Rattle.kernel_core.proofs.HomeMade.{serve_here, start_here}
use Rattle.kernel_core.proofs.starting.serve_world.Goals as goal

pub put_homes-requires-clause-before : goal.put_homes-requires-clause-before
put_homes-requires-clause-before g c κs bounds = start_here _ _ _ c.in_ok-world.ensures

pub returns : goal.returns
returns g c = serve_here _ _ _ _ _ c.in_ok-world.ensures c.in_ok-put_homes.ensures
