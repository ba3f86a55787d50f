use Rattle.std.proofs.Common.{◌∙◌, ◌++◌, ◌∷◌, [], List, ap, arith, length}
use Rattle.kernel_core.proofs.HomeMade.{after_here, before_here, home_pushed}
use Rattle.kernel_core.proofs.Reaping.{length-homes}
use Rattle.lwc_types.specs.declared.name.Name.{Name}
use Rattle.kernel_core.proofs.starting.put_homes.Goals as goal

pub put_home-requires-clause-before : goal.put_home-requires-clause-before
put_home-requires-clause-before g c κs bounds = before_here _ _ _ _ c.workers.invariant

pub workers-preserved : goal.workers-preserved
workers-preserved g c = after_here _ _ _ _ _ _ c.workers.invariant c.in_ok-put_home.ensures

pub push-requires : goal.push-requires
push-requires g c = (omega arith, omega (arith, ap (λ (l : List Name). length l) c.homes.invariant, length-homes c.homes.t, c.homes-test.true, c.requires.few))

pub homes-preserved : goal.homes-preserved
homes-preserved g c = home_pushed c.homes.t _ _ c.homes.invariant (c.push.ensures.items ∙ ap (λ (h : Name). c.homes.homes.items ++ h ∷ []) c.home_of.ensures)
