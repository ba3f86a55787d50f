use Rattle.std.proofs.Common.{◌≡◌, ◌∙◌, None, refl, subst, sym}
use Rattle.std.proofs.lemmas.List.{take_all}
use Rattle.lwc_base.specs.Modes.{mode}
use Rattle.lwc_types.specs.declared.key.Key.TheVariants.{Slot}
use Rattle.item_modes.proofs.ModeLemmas.{still_unnamed}
use Rattle.item_modes.proofs.naming.names_slots.Goals as goal

pub loop-item-init : goal.loop-item-init
unfolding mode
loop-item-init c = record { unnamed = λ n. refl }

pub loop-item-preserved : goal.loop-item-preserved
loop-item-preserved c = record {
  unnamed = λ n. still_unnamed c.items-item-items.result.now c.loop-item.item-index _ c.loop-item-test.true n (sym c.is_of_slots.ensures ∙ c.if-is_of_slots.false) (c.loop-item.invariant.unnamed n);
}

pub returns : goal.returns
returns c = λ _ n.
    let items = c.items-item-items in
    subst (λ xs. mode xs (Slot n) ≡ None) (take_all c.loop-item.item-index items.result.now c.loop-item-test.false ∙ items.ensures.items) (c.loop-item.invariant.unnamed n)
