use Rattle.std.proofs.Common.{◌≡◌, Some, get_or, ◌∙◌, ◌++◌, ◌∷◌, [], arith, ap, length, length-append, subst, sym, List}
use Rattle.std.specs.Prelude.{All}
use Rattle.std.specs.Option.{option_map, option_or}
use Rattle.std.proofs.lemmas.List.{take_all}
use Rattle.lwc_base.specs.Modes.{mode}
use Rattle.lwc_types.specs.declared.key.Key.TheVariants.{Page}
use Rattle.lwc_types.specs.declared.right.Right.TheVariants.{Write}
use Rattle.lwc_types.specs.declared.limits.TheConstants.{MOST_PAGES}
use Rattle.range_map.specs.Kinds.{ranges, state_at}
use Rattle.range_map.specs.declared.segment.Segment.{Segment}
use Rattle.range_map.specs.declared.segment.SegmentKind.TheVariants.{Own}
use Rattle.cow_space.specs.declared.page_runs.Origin.{Origin}
use Rattle.cow_space.specs.declared.page_runs.PageRun.{PageRun}
use Rattle.cow_space.specs.Changes.{IsPageRun}
use Rattle.lazy_world.specs.Cells.{rows_of, states_of}
use Rattle.lazy_world.specs.Clones.{item_gift, state_gift}
use Rattle.lazy_world.specs.Seen.{count, rights, rows}
use Rattle.lazy_world.specs.Origins.{gift_at}
use Rattle.lazy_world.specs.Worlds.{parts}
use Rattle.range_map.proofs.Built.{or_none}
use Rattle.lazy_world.proofs.CloneOrigins.{segment_given, segment_pushed, page_run_of}
use Rattle.lazy_world.proofs.world.PlacedWorld.list_clone_runs.Goals as goal

pub loop-segment-init : goal.loop-segment-init
unfolding state_at
loop-segment-init c = record {
  gifts = λ q. c.list_item_runs.ensures.gifts q ∙ sym (or_none (item_gift c.args.from (mode c.args.spec.now (Page q))));
  few = omega (arith, c.list_item_runs.ensures.few);
  given = λ to apart low. c.list_item_runs.ensures.given (count c.args.self.now.places) to c.requires.from apart;
}

pub push-requires : goal.push-requires
push-requires c =
    let segments = c.segments-segment-items.ensures.few in
    (omega arith, omega (arith, c.loop-segment.invariant.few, c.loop-segment-test.true, segments, c.requires.within.few))

pub loop-segment-preserved : goal.loop-segment-preserved
unfolding parts
loop-segment-preserved c =
    let w = c.args.self.now in
    let page_runs = c.loop-segment.page_runs.items in
    let segments = c.segments-segment-items.result.now in
    let i = c.loop-segment.segment-index in
    let inside = c.loop-segment-test.true in
    let segment = get_or segments i (record { from = 0; to = 0; kind = Own; right = Write }) in
    let is : c.push.new.self.items ≡ page_runs ++ page_run_of (parts w) c.args.from segment ∷ [] =
    c.push.ensures.items ∙ ap (λ (origin : Origin). page_runs ++ record { range = record { from = segment.from; to = segment.to }; origin = origin; right = Some segment.right } ∷ []) c.kind_origin.ensures in
    record {
      gifts = λ q. ap (λ (xs : List PageRun). gift_at xs q) is
          ∙ segment_pushed (parts w) c.args.from segments i _ inside q (item_gift c.args.from (mode c.args.spec.now (Page q))) page_runs (c.loop-segment.invariant.gifts q);
      few = omega (arith, ap length is, length-append page_runs (page_run_of (parts w) c.args.from segment ∷ []), c.loop-segment.invariant.few);
      given = λ to apart low. subst (All (IsPageRun (count w.places) to)) (sym is)
          (segment_given (parts w) c.args.from (count w.places) to c.args.self.now.placed_groups w.sound.sizes.groups w.count c.requires.from apart low page_runs segment
          (c.segments-segment-items.ensures.each i _ inside) (c.loop-segment.invariant.given to apart low));
    }

pub returns-clause-gifts : goal.returns-clause-gifts
unfolding parts rows rights rows_of
returns-clause-gifts c q =
    let w = c.args.self.now in
    let all = take_all c.loop-segment.segment-index c.segments-segment-items.result.now c.loop-segment-test.false in
    c.loop-segment.invariant.gifts q
    ∙ ap (λ o. option_or (item_gift c.args.from (mode c.args.spec.now (Page q))) (option_map (state_gift (parts w) c.args.from) o))
    (ap (λ (xs : List Segment). state_at xs q) all ∙ (λ e. c.segments-segment-items.ensures.states e q))

pub returns-clause-few : goal.returns-clause-few
unfolding rows rights rows_of
returns-clause-few c =
    let w = c.args.self.now in
    let many : length c.segments-segment-items.result.now ≡ ranges MOST_PAGES (states_of (rows w.places c.args.from) (rights w.places c.args.from)) = c.segments-segment-items.ensures.count in
    omega (arith, c.loop-segment.invariant.few, c.loop-segment.auto.segment-index-end, many)

pub returns-clause-given : goal.returns-clause-given
returns-clause-given c = c.loop-segment.invariant.given
