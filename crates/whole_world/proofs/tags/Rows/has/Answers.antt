use Rattle.std.proofs.Common.{◌||◌, sym, ap, ◌∙◌}
use Rattle.std.specs.List.{flat_map}
use Rattle.lwc_types.specs.declared.name.Name.{Name}
use Rattle.whole_world.specs.declared.context_row.ContextRow.{ContextRow}
use Rattle.whole_world.specs.declared.group_row.GroupRow.{GroupRow}
use Rattle.lwc_base.specs.Frames.{own_value}
use Rattle.whole_world.specs.Tags.{has_tag, tags_of_rows, page_tags}
use Rattle.whole_world.proofs.TagLists.{has_tag-append}
use Rattle.whole_world.proofs.tags.Rows.has.Goals as goal

pub returns-then-contexts_have : goal.returns-then-contexts_have
unfolding tags_of_rows
returns-then-contexts_have c =
    let groups = flat_map (λ (row : Name × GroupRow). page_tags (λ v. v) row.1.pages.items) c.args.self.groups.now in
    c.if-contexts_have.true
    ∙ sym (has_tag-append c.args.tag (flat_map (λ (row : Name × ContextRow). page_tags own_value row.1.pages.items) c.args.self.contexts.now) groups
    ∙ ap (λ b. b || has_tag c.args.tag groups) (sym c.contexts_have.ensures ∙ c.if-contexts_have.true))

pub returns-else-contexts_have : goal.returns-else-contexts_have
unfolding tags_of_rows
returns-else-contexts_have c =
    let groups = flat_map (λ (row : Name × GroupRow). page_tags (λ v. v) row.1.pages.items) c.args.self.groups.now in
    c.groups_have.ensures
    ∙ sym (has_tag-append c.args.tag (flat_map (λ (row : Name × ContextRow). page_tags own_value row.1.pages.items) c.args.self.contexts.now) groups
    ∙ ap (λ b. b || has_tag c.args.tag groups) (sym c.contexts_have.ensures ∙ c.if-contexts_have.false))
