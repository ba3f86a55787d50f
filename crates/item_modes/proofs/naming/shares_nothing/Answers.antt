use Rattle.std.proofs.Common.{◌≢◌, ◌∙◌, Some, subst}
use Rattle.std.proofs.lemmas.List.{take_all}
use Rattle.lwc_base.specs.declared.item.Mode.TheVariants.{Share}
use Rattle.lwc_base.specs.Modes.{mode}
use Rattle.item_modes.proofs.ModeLemmas.{still_unshared}
use Rattle.item_modes.proofs.naming.shares_nothing.Goals as goal

pub loop-item-init : goal.loop-item-init
unfolding mode
loop-item-init c = record { unshared = λ k is. cc }

pub loop-item-preserved : goal.loop-item-preserved
loop-item-preserved c = record {
  unshared = λ k. still_unshared c.items-item-items.result.now c.loop-item.item-index _ c.loop-item-test.true k (c.is_share.ensures.other c.if-is_share.false) (c.loop-item.invariant.unshared k);
}

pub returns : goal.returns
returns c = λ _ k.
    let items = c.items-item-items in
    subst (λ xs. mode xs k ≢ Some Share) (take_all c.loop-item.item-index items.result.now c.loop-item-test.false ∙ items.ensures.items) (c.loop-item.invariant.unshared k)
