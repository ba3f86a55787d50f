use Rattle.std.proofs.Common.{◌++◌, ◌∙◌, ap, not, option_to_list, sym}
use mir.Val.{bool_byte}
use Rattle.whole_world.specs.Tags.{different, page_tags, rows_tags}
use Rattle.whole_world.proofs.TagLists.{different-new}
use Rattle.whole_world.proofs.tags.count_new_tag.Goals as goal

pub returns-in-Some : goal.returns-in-Some
returns-in-Some g c =
    let pages = page_tags g.P.Page.value c.args.pages.now in
    different-new c.in-Some.tag pages (rows_tags c.args.later) c.from.result (c.from.ensures ∙ ap (λ b. bool_byte (not b)) c.follows.ensures)
    ∙ ap (λ tag. different (option_to_list tag ++ (pages ++ rows_tags c.args.later))) (sym c.in-Some.is)
