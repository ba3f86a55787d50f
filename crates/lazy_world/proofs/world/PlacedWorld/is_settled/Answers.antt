use Rattle.std.proofs.Common.{◌∙◌, ap, not, sym}
use Rattle.std.proofs.lemmas.Bool.{false≢true}
use Rattle.lwc_base.specs.Life.{Root}
use Rattle.lazy_world.proofs.world.PlacedWorld.is_settled.Goals as goal

pub returns-then-is_among_at : goal.returns-then-is_among_at
returns-then-is_among_at c _ live = Root c.args.context (sym c.is_among_at.ensures ∙ c.if-is_among_at.true)

pub returns : goal.returns
returns c settled live = absurd (false≢true (sym (ap not (c.is_live.ensures ∙ live)) ∙ settled))
