use Rattle.std.proofs.Common.{◌∙◌, sym}
use Rattle.whole_world.specs.Worlds.{seen}
use Rattle.lwc_base.proofs.Facts.{changes}
use Rattle.whole_world.proofs.world.WholeWorld.share.Goals as goal

pub returns-else-moves_any-clause-shared : goal.returns-else-moves_any-clause-shared
returns-else-moves_any-clause-shared c = sym ((changes.shared (seen c.args.self.now) c.args.context c.args.job c.args.spec.now).none (sym c.moves_any.ensures ∙ c.if-moves_any.false))
