use Rattle.std.proofs.Common.{ap, ◌∙◌, Some}
use Rattle.lwc_types.specs.declared.key.Key.TheVariants.{Cred}
use Rattle.lazy_world.specs.Transfers.{owner}
use Rattle.lazy_world.specs.Seen.{rows}
use Rattle.lazy_world.proofs.world.PlacedWorld.found_uid.Goals as goal

pub returns : goal.returns
returns c = c.found.ensures.found Cred (rows c.args.self.now.places c.args.place Cred) (ap Some (c.owner.ensures ∙ ap owner c.uid.ensures))
