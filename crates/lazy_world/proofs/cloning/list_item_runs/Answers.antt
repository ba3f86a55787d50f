use Rattle.std.proofs.Common.{◌∙◌, ◌∷◌, [], Some, arith, ap, get_or, length, length-append, subst, sym, List}
use Rattle.std.specs.Prelude.{All}
use Rattle.std.specs.Option.{option_map}
use Rattle.std.proofs.lemmas.List.{take_all}
use Rattle.std.proofs.lemmas.List.Elements.{All-nil, All-push}
use Rattle.lwc_base.specs.declared.item.Item.{Item}
use Rattle.lwc_base.specs.Modes.{IsSpec, mode}
use Rattle.lwc_types.specs.declared.key.Key.TheVariants.{Page}
use Rattle.lwc_types.specs.declared.limits.TheConstants.{MOST_PAGES}
use Rattle.cow_space.specs.declared.page_runs.PageRun.{PageRun}
use Rattle.cow_space.specs.Changes.{IsPageRun}
use Rattle.lazy_world.specs.Clones.{item_gift}
use Rattle.lazy_world.specs.Transfers.{CanGet}
use Rattle.lazy_world.specs.Origins.{gift_at}
use Rattle.lazy_world.proofs.CloneOrigins.{item_given, item_passed, item_pushed}
use Rattle.lazy_world.proofs.cloning.list_item_runs.Goals as goal

pub loop-item-init : goal.loop-item-init
unfolding mode
loop-item-init c = record {
  gifts = λ q. ap (λ (xs : List PageRun). gift_at xs q) c.requires.none;
  few = omega (arith, ap length c.requires.none);
  given = λ count to inside apart. subst (All (IsPageRun count to)) (sym c.requires.none) (All-nil (IsPageRun count to));
}

pub push-requires : goal.push-requires
push-requires c =
    let few = c.items-item-items.ensures.valid.few in
    (omega arith, omega (arith, c.loop-item.invariant.few, c.loop-item-test.true, few, ap length c.items-item-items.ensures.items))

pub loop-item-preserved-in_default : goal.loop-item-preserved-in_default
loop-item-preserved-in_default c =
    let inv = c.loop-item.invariant in
    let valid = subst (IsSpec MOST_PAGES) (sym c.items-item-items.ensures.items) c.items-item-items.ensures.valid in
    record {
      gifts = λ q. item_passed c.items-item-items.result.now MOST_PAGES valid c.loop-item.item-index _ c.loop-item-test.true q c.args.from c.loop-item.page_runs.items (inv.gifts q)
          (c.in_default.ensures.none q);
      few = omega (arith, inv.few);
      given = inv.given;
    }

pub loop-item-preserved : goal.loop-item-preserved
loop-item-preserved c =
    let inv = c.loop-item.invariant in
    let s = c.in-Some.page_run in
    let told = c.in-Some.ensures in
    let valid = subst (IsSpec MOST_PAGES) (sym c.items-item-items.ensures.items) c.items-item-items.ensures.valid in
    record {
      gifts = λ q. ap (λ (xs : List PageRun). gift_at xs q) c.push.ensures.items
          ∙ item_pushed c.items-item-items.result.now MOST_PAGES valid c.loop-item.item-index _ c.loop-item-test.true q c.args.from c.loop-item.page_runs.items (inv.gifts q) s
          (told.pages q) told.gift;
      few = omega (arith, ap length c.push.ensures.items, length-append c.loop-item.page_runs.items (s ∷ []), inv.few);
      given = λ count to inside apart. subst (All (IsPageRun count to)) (sym c.push.ensures.items)
          (All-push (IsPageRun count to) c.loop-item.page_runs.items s (inv.given count to inside apart)
          (record {
            order = omega (arith, told.some);
            inside = told.inside;
            given = subst (λ gift. CanGet count to (option_map (λ g. g.0) gift)) (sym told.gift) (item_given c.args.from count to inside apart (Some (get_or c.items-item-items.result.now c.loop-item.item-index _).mode));
          }));
    }

pub returns-clause-gifts : goal.returns-clause-gifts
returns-clause-gifts c q =
    c.loop-item.invariant.gifts q
    ∙ ap (λ (xs : List Item). item_gift c.args.from (mode xs (Page q))) (take_all c.loop-item.item-index c.items-item-items.result.now c.loop-item-test.false ∙ c.items-item-items.ensures.items)

pub returns-clause-few : goal.returns-clause-few
returns-clause-few c = omega (arith, c.loop-item.invariant.few, c.loop-item.auto.item-index-end, ap length c.items-item-items.ensures.items)

pub returns-clause-given : goal.returns-clause-given
returns-clause-given c = c.loop-item.invariant.given
