use Rattle.std.proofs.Common.{◌++◌, ap, append_assoc, sym, ◌∙◌}
use Rattle.std.specs.List.{flat_map}
use Rattle.std.proofs.lemmas.List.{nil_from_length}
use Rattle.lwc_base.specs.Frames.{own_value}
use Rattle.whole_world.specs.Tags.{tags_of_rows, page_tags}
use Rattle.whole_world.proofs.tags.Rows.split_first.Goals as goal

pub returns-in-Some-clause-tags : goal.returns-in-Some-clause-tags
unfolding tags_of_rows
returns-in-Some-clause-tags c =
    ap (λ rows. flat_map (λ row. page_tags own_value row.1.pages.items) rows ++ flat_map (λ row. page_tags (λ v. v) row.1.pages.items) c.args.self.groups.now) c.in-Some.ensures.cases.0
    ∙ append_assoc (page_tags own_value c.in-Some.first.now.1.pages.items) _ _

pub returns-in-Some-split_first-clause-tags : goal.returns-in-Some-split_first-clause-tags
unfolding tags_of_rows
returns-in-Some-split_first-clause-tags c =
    let first = page_tags (λ v. v) c.in-Some-split_first.first.now.1.pages.items in
    let others = flat_map (λ row. page_tags (λ v. v) row.1.pages.items) c.in-Some-split_first.groups.now in
    (λ i. flat_map (λ row. page_tags own_value row.1.pages.items) (nil_from_length c.args.self.contexts.now c.in_default.ensures.cases i)
    ++ flat_map (λ row. page_tags (λ v. v) row.1.pages.items) (c.in-Some-split_first.ensures.cases.0 i))
    ∙ sym (λ i. first ++ (flat_map (λ row. page_tags own_value row.1.pages.items) (nil_from_length c.args.self.contexts.now c.in_default.ensures.cases i) ++ others))

pub returns-in-None-clause-none : goal.returns-in-None-clause-none
unfolding tags_of_rows
returns-in-None-clause-none c = λ i.
    flat_map (λ row. page_tags own_value row.1.pages.items) (nil_from_length c.args.self.contexts.now c.in_default.ensures.cases i)
    ++ flat_map (λ row. page_tags (λ v. v) row.1.pages.items) (nil_from_length c.args.self.groups.now c.in-None.ensures.cases i)
