use Rattle.std.proofs.Common.{◌∙◌, ◌+◌, Some, ap, arith, get_or, subst, sym}
use Rattle.lwc_base.specs.declared.item.Item.{Item}
use Rattle.lwc_base.specs.Modes.{IsSpec}
use Rattle.lwc_types.specs.declared.limits.TheConstants.{MOST_PAGES}
use Rattle.item_modes.specs.Runs.{IsModeRun}
use Rattle.item_modes.proofs.EdgeLemmas.{item_run, no_item}
use Rattle.item_modes.proofs.runs.ModeRun.in_item.Goals as goal

pub returns-clause-run : goal.returns-clause-run
returns-clause-run c =
    let items = c.items.result.now in
    let same = c.items.ensures.items in
    let valid = subst (IsSpec MOST_PAGES) (sym same) c.items.ensures.valid in
    let at = c.in_ok-item.ensures.lookup.3 in
    let is = at.1 no_item in
    let pages = c.in_ok-range.ensures.pages in
    let end = c.in_ok-range.range.to in
    let from_is = ap (λ (x : Item). x.from) is in
    subst (λ (x : Item). IsModeRun c.args.items.now c.args.page (record { mode = Some x.mode; to = end; near = c.args.near + 1 })) (sym is)
    (subst (λ xs. IsModeRun xs c.args.page (record { mode = Some (get_or items c.args.near no_item).mode; to = end; near = c.args.near + 1 })) same
    (item_run items valid c.args.near at.0 c.args.page end (c.args.near + 1) (ap (λ (x : Item). x.kind) (sym is) ∙ pages.0) (omega (arith, pages.1, from_is, c.if-page-range.false)) (pages.2 ∙ ap (λ (x : Item). x.to) is)))
