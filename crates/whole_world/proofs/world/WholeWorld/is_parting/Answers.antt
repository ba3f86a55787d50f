use Rattle.std.proofs.Common.{◌∙◌, ap, option_to_list, sym}
use Rattle.lwc_base.specs.Cells.{page_at}
use Rattle.lwc_base.specs.Frames.{tag_of}
use Rattle.whole_world.specs.Tags.{times}
use Rattle.whole_world.specs.Worlds.{seen}
use Rattle.whole_world.proofs.PartingTags.{parts-tagged, parts-untagged}
use Rattle.whole_world.proofs.world.WholeWorld.is_parting.Goals as goal

pub returns-in-Some : goal.returns-in-Some
returns-in-Some c =
    let w = seen c.args.self.now in
    parts-tagged w (page_at w c.args.context c.args.page) c.in-Some.tag c.count.result
    (sym (ap option_to_list c.in-Some.is) ∙ c.tag_of.ensures ∙ ap tag_of c.page_value.ensures)
    (c.count.ensures ∙ ap (times c.in-Some.tag) c.rows.ensures.tags)

pub returns-in-None : goal.returns-in-None
returns-in-None c =
    let w = seen c.args.self.now in
    parts-untagged w (page_at w c.args.context c.args.page) (sym (ap option_to_list c.in-None.is) ∙ c.tag_of.ensures ∙ ap tag_of c.page_value.ensures)
