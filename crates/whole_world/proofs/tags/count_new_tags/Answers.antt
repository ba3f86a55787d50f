use Rattle.std.proofs.Common.{◌+◌, ◌++◌, ap, arith, subst, ◌∙◌}
use Rattle.std.proofs.lemmas.List.{nil_from_length}
use Rattle.lwc_base.specs.Frames.{tag_of}
use Rattle.whole_world.specs.Tags.{different, page_tags, rows_tags}
use Rattle.whole_world.proofs.Counted.{IsCountedNew, counted_new_more, counted_new-le-length, counted_new_all}
use Rattle.whole_world.proofs.TagLists.{page_tags-cons, page_tags-nil}
use Rattle.whole_world.proofs.tags.count_new_tags.Goals as goal

counted : (g : _) (c : goal.After-count_new_tag-count g) →
    IsCountedNew (rows_tags c.args.later) (page_tags g.P.Page.value c.args.pages.now) (page_tags g.P.Page.value c.in-Some.after.now) (c.loop-first.count + c.count_new_tag-count.result)
counted g c =
    let tags = page_tags g.P.Page.value in
    let others = rows_tags c.args.later in
    let first = tag_of (g.P.Page.value c.in-Some.first.now) in
    let own = c.tag_of.ensures ∙ ap tag_of c.value.ensures in
    counted_new_more others (tags c.args.pages.now) first (tags c.in-Some.after.now) c.loop-first.count c.count_new_tag-count.result
    (subst (λ rest. IsCountedNew others (tags c.args.pages.now) rest c.loop-first.count)
    (ap tags c.in-Some.ensures.cases.0 ∙ page_tags-cons g.P.Page.value c.in-Some.first.now c.in-Some.after.now) c.loop-first.invariant)
    (c.count_new_tag-count.ensures
    ∙ ap (λ ts. different (ts ++ (tags c.in-Some.after.now ++ others))) own)

pub overflow_add-count : goal.overflow_add-count
overflow_add-count g c = omega (arith, counted_new-le-length _ _ _ _ (counted g c), c.requires)

pub loop-first-preserved : goal.loop-first-preserved
loop-first-preserved g c = counted g c

pub returns : goal.returns
returns g c =
    let tags = page_tags g.P.Page.value in
    let none = ap tags (nil_from_length c.loop-first.rest.now c.in_default.ensures.cases) ∙ page_tags-nil g.P.Page.value in
    counted_new_all (rows_tags c.args.later) (tags c.args.pages.now) c.loop-first.count
    (subst (λ rest. IsCountedNew (rows_tags c.args.later) (tags c.args.pages.now) rest c.loop-first.count) none c.loop-first.invariant)
