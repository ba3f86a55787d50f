use Rattle.std.proofs.Common.{◌∙◌, List, ap, refl, sym}
use Rattle.std.specs.List.{list_any}
use Rattle.std.proofs.lemmas.List.{take_all}
use Rattle.std.proofs.lemmas.List.Folds.{list_any_more}
use Rattle.lwc_types.specs.declared.key.Key.TheVariants.{Page}
use Rattle.range_map.specs.declared.segment.Segment.{Segment}
use Rattle.lazy_world.specs.Cells.{rows_of}
use Rattle.lazy_world.specs.Reaping.{is_of}
use Rattle.lazy_world.specs.Seen.{rights, rows}
use Rattle.lazy_world.specs.Worlds.{parts}
use Rattle.lazy_world.proofs.AddLemmas.{no_page}
use Rattle.lazy_world.proofs.CommonPages.{named-pages}
use Rattle.lazy_world.proofs.MarkLemmas.{adds-more, adds-none, adds-same}
use Rattle.lazy_world.proofs.world.PlacedWorld.mark_pages.Goals as goal

pub loop-segment-init : goal.loop-segment-init
loop-segment-init c = adds-none c.args.self.now.groups.places _ c.args.marks.now (λ g. refl)

pub loop-segment-preserved : goal.loop-segment-preserved
loop-segment-preserved c =
    adds-more c.args.self.now.groups.places _ _ _ _ _ _ c.loop-segment.invariant c.mark_kind.ensures
    (λ g. sym (list_any_more (λ (s : Segment). is_of s.kind g) c.segments-segment-items.result.now c.loop-segment.segment-index _ c.loop-segment-test.true))

pub returns : goal.returns
unfolding parts rows rights rows_of
returns c =
    let w = c.args.self.now in
    let row = rows w.places c.args.place in
    let segments = c.segments-segment-items in
    let all = take_all c.loop-segment.segment-index segments.result.now c.loop-segment-test.false in
    adds-same w.groups.places _ _ _ _ c.loop-segment.invariant
    (λ g.
    ap (λ (xs : List Segment). list_any (λ (s : Segment). is_of s.kind g) xs) all
    ∙ named-pages segments.result.now segments.ensures.canonical g w.size.pages (λ p. row (Page p)) (rights w.places c.args.place) (λ p e. segments.ensures.states e p)
    (λ p past. no_page (row (Page p)) p (w.sound.past c.args.place (Page p) past)))
