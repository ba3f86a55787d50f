use Rattle.std.proofs.Common.{rules, tests, sym, ◌∙◌}
use Rattle.std.proofs.lemmas.Iterator.{YieldsList-from_slice}
use Rattle.std.proofs.lemmas.Iterator.Search.{any_from_yields_List}
use Rattle.lwc_types.specs.declared.name.Name.{Name}
use Rattle.whole_world.specs.declared.context_row.ContextRow.{ContextRow}
use Rattle.lwc_base.specs.Frames.{own_value}
use Rattle.whole_world.specs.Tags.{has_tag, page_tags}
use Rattle.whole_world.proofs.TagLists.{has_tag-flat_map}
use Rattle.whole_world.proofs.tags.Rows.contexts_have.Goals as goal

pub returns : goal.returns
returns c =
    any_from_yields_List (λ (row : Name × ContextRow). has_tag c.args.tag (page_tags own_value row.1.pages.items)) _ _ _ c.any.ensures.ran (YieldsList-from_slice c.args.self.contexts.now cc) (λ x b q k. search (rules, tests))
    ∙ sym (has_tag-flat_map c.args.tag (λ (row : Name × ContextRow). page_tags own_value row.1.pages.items) c.args.self.contexts.now)
