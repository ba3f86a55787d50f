use Rattle.std.proofs.Common.{◌∙◌, ◌≤◌, Some, arith, false, get_or, inl, inr, refl, subst, sym}
use Rattle.range_map.proofs.Alike.{edge_more}
use Rattle.lwc_base.specs.declared.item.Item.{Item}
use Rattle.lwc_base.specs.Modes.{IsSpec, mode}
use Rattle.lwc_types.specs.declared.limits.TheConstants.{MOST_PAGES}
use Rattle.item_modes.specs.Runs.{IsModeRun}
use Rattle.item_modes.proofs.ModeLemmas.{mode_other}
use Rattle.item_modes.proofs.EdgeLemmas.{item_run, no_item, of_other, outside}
use Rattle.item_modes.proofs.runs.ModeRun.at.Goals as goal
use Rattle.item_modes.proofs.runs.ModeRun.at.Goals.{then-page-range, else-page-range+else-page-range-2}

pub loop-item-init : goal.loop-item-init
unfolding mode
loop-item-init c = record {
  past = omega (arith, c.requires.page);
  within = omega arith;
  none = λ q low high. refl;
  edge = λ early. absurd (omega (arith, early));
}

pub loop-item-preserved-in_default : goal.loop-item-preserved-in_default
loop-item-preserved-in_default c =
    let items = c.items-item-items.result.now in
    let valid = subst (IsSpec MOST_PAGES) (sym c.items-item-items.ensures.items) c.items-item-items.ensures.valid in
    let i = c.loop-item.item-index in
    let inside = c.loop-item-test.true in
    let inv = c.loop-item.invariant in
    record {
      past = inv.past;
      within = inv.within;
      none = λ q low high. mode_other items MOST_PAGES valid i no_item inside q (of_other (get_or items i no_item) q c.in_default.ensures.other) ∙ inv.none q low high;
      edge = edge_more (λ (item : Item). item.from) (λ (item : Item). item.to) (λ _. false) items i no_item c.loop-item.to c.loop-item.to MOST_PAGES inside inv.edge (omega arith) (λ less. absurd (omega (arith, less)));
    }

pub loop-item-preserved : goal.loop-item-preserved
loop-item-preserved c =
    let items = c.items-item-items.result.now in
    let valid = subst (IsSpec MOST_PAGES) (sym c.items-item-items.ensures.items) c.items-item-items.ensures.valid in
    let i = c.loop-item.item-index in
    let inside = c.loop-item-test.true in
    let inv = c.loop-item.invariant in
    let pages = c.in-Some.ensures.pages in
    let nearer : c.if-page-range.to ≤ c.loop-item.to = elim c.if-page-range.branch [
      | then-page-range w ↦ omega (arith, w.min-to.ensures, w.to-is)
      | else-page-range+else-page-range-2 w ↦ omega (arith, w.to-is)
    ] in
    record {
      past = elim c.if-page-range.branch [
        | then-page-range w ↦ omega (arith, inv.past, w.if-page-range.true, w.min-to.ensures, w.to-is)
        | else-page-range+else-page-range-2 w ↦ omega (arith, inv.past, w.to-is)
      ];
      within = omega (arith, nearer, inv.within);
      none = λ q low high. mode_other items MOST_PAGES valid i no_item inside q
          (elim c.if-page-range.branch [
            | then-page-range w ↦ outside (get_or items i no_item) q (inl (omega (arith, high, w.min-to.ensures, w.to-is, pages.1)))
            | else-page-range+else-page-range-2 w ↦ outside (get_or items i no_item) q (inr (omega (arith, low, w.if-page-range-2.false, pages.2)))
          ])
          ∙ inv.none q low (omega (arith, high, nearer));
      edge = edge_more (λ (item : Item). item.from) (λ (item : Item). item.to) (λ _. false) items i no_item c.loop-item.to c.if-page-range.to MOST_PAGES inside inv.edge nearer
          (λ less. elim c.if-page-range.branch [
            | then-page-range w ↦ inl (omega (arith, less, w.min-to.ensures, w.to-is, pages.1))
            | else-page-range+else-page-range-2 w ↦ absurd (omega (arith, less, w.to-is))
          ]);
    }

pub returns-then-page-range-2-clause-run : goal.returns-then-page-range-2-clause-run
returns-then-page-range-2-clause-run c =
    let items = c.items-item-items.result.now in
    let same = c.items-item-items.ensures.items in
    let valid = subst (IsSpec MOST_PAGES) (sym same) c.items-item-items.ensures.valid in
    let i = c.loop-item.item-index in
    let pages = c.in-Some.ensures.pages in
    subst (λ xs. IsModeRun xs c.args.page (record { mode = Some (get_or items i no_item).mode; to = c.in-Some.range.to; near = c.args.near })) same
    (item_run items valid i c.loop-item-test.true c.args.page c.in-Some.range.to c.args.near pages.0 (omega (arith, pages.1, c.if-page-range.false)) pages.2)
