use Rattle.std.proofs.Common.{◌≡◌, ◌∙◌, List, Some, ap, false, subst, sym}
use Rattle.std.specs.Prelude.{unwrap_or}
use Rattle.std.proofs.lemmas.List.{take_all}
use Rattle.lwc_base.specs.declared.item.Item.{Item}
use Rattle.lwc_base.specs.declared.item.Mode.TheVariants.{Copy, Share}
use Rattle.lwc_base.specs.Modes.{IsSpec, mode}
use Rattle.lwc_base.specs.Sharing.{is_moved}
use Rattle.lwc_types.specs.declared.key.Key.TheVariants.{Page}
use Rattle.lwc_types.specs.declared.limits.TheConstants.{MOST_PAGES}
use Rattle.lazy_world.specs.Transfers.{moves}
use Rattle.lazy_world.specs.Seen.{rows}
use Rattle.item_modes.proofs.ModeLemmas.{mode_here}
use Rattle.item_modes.proofs.ModeLemmas.{one_more_shared}
use Rattle.lazy_world.proofs.ItemLemmas.{settled_by}
use Rattle.lazy_world.proofs.MoveLemmas.{still}
use Rattle.lazy_world.proofs.world.PlacedWorld.moves_page.Goals as goal

pub loop-item-init : goal.loop-item-init
unfolding mode
loop-item-init c = record { none = λ q is. cc }

pub loop-item-preserved : goal.loop-item-preserved
loop-item-preserved c = record {
  none = λ q. one_more_shared c.items-item-items.result.now c.loop-item.item-index _ c.loop-item-test.true (Page q) _
      (c.loop-item.invariant.none q)
      (λ here share. still (unwrap_or (mode c.args.spec.now (Page q)) Copy) (Page q) (rows c.args.self.now.places c.args.place (Page q)) (c.shares_own_page.ensures.none c.if-shares_own_page.false q here share));
}

pub returns-then-shares_own_page-clause-some : goal.returns-then-shares_own_page-clause-some
returns-then-shares_own_page-clause-some c = λ _.
    let items = c.items-item-items in
    let valid = subst (IsSpec MOST_PAGES) (sym items.ensures.items) items.ensures.valid in
    let some = c.shares_own_page.ensures.some c.if-shares_own_page.true in
    let share = c.shares_own_page.ensures.share c.if-shares_own_page.true in (
      some.0,
      ap (λ o. is_moved (unwrap_or o Copy) (Page some.0) (rows c.args.self.now.places c.args.place (Page some.0)))
          (ap (λ (xs : List Item). mode xs (Page some.0)) (sym items.ensures.items) ∙ mode_here items.result.now MOST_PAGES valid c.loop-item.item-index _ c.loop-item-test.true some.0 some.1 ∙ ap Some share)
          ∙ some.2,
    )

pub returns-clause-none : goal.returns-clause-none
returns-clause-none c = λ _ p low.
    let items = c.items-item-items in
    settled_by c.args.spec.now (Page p) (rows c.args.self.now.places c.args.place)
    (subst (λ xs. mode xs (Page p) ≡ Some Share → moves c.args.spec.now (Page p) (rows c.args.self.now.places c.args.place) ≡ false)
    (take_all c.loop-item.item-index items.result.now c.loop-item-test.false ∙ items.ensures.items) (c.loop-item.invariant.none p))
