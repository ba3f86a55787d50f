use Rattle.std.proofs.Common.{◌∙◌, ◌∷◌, [], arith, ap, length, length-append, subst, sym, List}
use Rattle.std.proofs.lemmas.List.{take_all}
use Rattle.lwc_base.specs.declared.item.Item.{Item}
use Rattle.lwc_base.specs.Modes.{IsSpec, mode}
use Rattle.lwc_types.specs.declared.key.Key.TheVariants.{Page}
use Rattle.lwc_types.specs.declared.limits.TheConstants.{MOST_PAGES}
use Rattle.lwc_types.specs.declared.range.Range.{Range}
use Rattle.cow_space.specs.Changes.{have_page}
use Rattle.lazy_world.specs.Transfers.{is_read}
use Rattle.lazy_world.proofs.CloneOrigins.{read_passed, read_pushed}
use Rattle.lazy_world.proofs.transfer.list_read_pages.Goals as goal

pub loop-item-init : goal.loop-item-init
unfolding mode
loop-item-init c = record {
  reads = λ q. ap (λ (xs : List Range). have_page xs q) c.requires.none;
  few = omega (arith, ap length c.requires.none);
}

pub push-requires : goal.push-requires
push-requires c =
    let few = c.items-item-items.ensures.valid.few in
    omega (arith, c.loop-item.invariant.few, c.loop-item-test.true, few, ap length c.items-item-items.ensures.items)

pub loop-item-preserved-in_default : goal.loop-item-preserved-in_default
loop-item-preserved-in_default c =
    let inv = c.loop-item.invariant in
    let valid = subst (IsSpec MOST_PAGES) (sym c.items-item-items.ensures.items) c.items-item-items.ensures.valid in
    record {
      reads = λ q. read_passed c.items-item-items.result.now MOST_PAGES valid c.loop-item.item-index _ c.loop-item-test.true q c.loop-item.pages.items (inv.reads q) (c.in_default.ensures.none q);
      few = omega (arith, inv.few);
    }

pub loop-item-preserved : goal.loop-item-preserved
loop-item-preserved c =
    let inv = c.loop-item.invariant in
    let r = c.in-Some.range in
    let told = c.in-Some.ensures in
    let valid = subst (IsSpec MOST_PAGES) (sym c.items-item-items.ensures.items) c.items-item-items.ensures.valid in
    record {
      reads = λ q. ap (λ (xs : List Range). have_page xs q) c.push.ensures.items
          ∙ read_pushed c.items-item-items.result.now MOST_PAGES valid c.loop-item.item-index _ c.loop-item-test.true q c.loop-item.pages.items (inv.reads q) r (told.pages q) told.read;
      few = omega (arith, ap length c.push.ensures.items, length-append c.loop-item.pages.items (r ∷ []), inv.few);
    }

pub returns : goal.returns
returns c q =
    c.loop-item.invariant.reads q
    ∙ ap (λ (xs : List Item). is_read (mode xs (Page q))) (take_all c.loop-item.item-index c.items-item-items.result.now c.loop-item-test.false ∙ c.items-item-items.ensures.items)
