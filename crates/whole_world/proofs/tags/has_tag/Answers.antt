use Rattle.std.proofs.Common.{rules, tests, sym, ◌∙◌}
use Rattle.std.proofs.lemmas.Iterator.{YieldsList-from_slice}
use Rattle.std.proofs.lemmas.Iterator.Search.{any_from_yields_List}
use Rattle.lwc_base.specs.Frames.{tag_of}
use Rattle.whole_world.specs.Tags.{has_tag, page_tags}
use Rattle.whole_world.proofs.TagLists.{has_tag-flat_map}
use Rattle.whole_world.proofs.tags.has_tag.Goals as goal

pub returns : goal.returns
unfolding page_tags
returns g c =
    any_from_yields_List (λ page. has_tag c.args.tag (tag_of (g.P.Page.value page))) _ _ _ c.any.ensures.ran (YieldsList-from_slice c.args.pages.now cc) (λ x b q k. search (rules, tests))
    ∙ sym (has_tag-flat_map c.args.tag (λ page. tag_of (g.P.Page.value page)) c.args.pages.now)
