use Rattle.std.proofs.Common.{◌≡◌, ◌∙◌, ap, arith}
use Rattle.lwc_base.specs.Frames.{used}
use Rattle.whole_world.specs.Tags.{different}
use Rattle.whole_world.specs.Worlds.{seen}
use Rattle.whole_world.proofs.SeenTags.{few_used, used-seen}
use Rattle.whole_world.proofs.world.WholeWorld.used_count.Goals as goal

counted : (c : goal.After-count_different) → c.count_different.result ≡ used (seen c.args.self.now)
counted c = c.count_different.ensures ∙ ap different c.rows.ensures.tags ∙ used-seen c.args.self.now

pub returns-clause-used : goal.returns-clause-used
returns-clause-used c = counted c

pub returns-clause-few : goal.returns-clause-few
returns-clause-few c = omega (arith, counted c, few_used c.args.self.now)
