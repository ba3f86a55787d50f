use Rattle.std.proofs.Common.{◌≡◌, ◌∙◌, ℕ, Some, ap, arith, sym}
use Rattle.cow_space.specs.Maps.{data_of}
use Rattle.lwc_base.specs.Frames.{own_value}
use Rattle.lwc_types.specs.declared.key.Key.TheVariants.{Page}
use Rattle.range_map.specs.declared.segment.SegmentKind.TheVariants.{Own}
use Rattle.range_map.specs.Kinds.{kind_of}
use Rattle.lazy_world.specs.declared.world.PlacedWorld.{PlacedWorld}
use Rattle.lazy_world.specs.Memory.{page_in}
use Rattle.lazy_world.specs.Seen.{rows}
use Rattle.lazy_world.specs.Worlds.{parts, seen}
use Rattle.lazy_world.proofs.HolderLemmas.{holder-own, page-held}
use Rattle.lazy_world.proofs.MemoryLemmas.{copied-own, copied-zeros}
use Rattle.lazy_world.proofs.world.PlacedWorld.copy_own.Goals as goal

-- what is under a page that is the place's own
under : (w : PlacedWorld) (i p q : ℕ) → kind_of (rows w.places i (Page p)) ≡ Some Own → p ≡ q → own_value (rows w.places i (Page p)) ≡ page_in (seen w) (rows w.places i) q
unfolding seen parts
under w i p q own same = sym (page-held (parts w) i p i (holder-own (parts w) i (rows w.places i (Page p)) own)) ∙ ap (page_in (seen w) (rows w.places i)) same

pub slice_bounds-copy_from_slice-end : goal.slice_bounds-copy_from_slice-end
slice_bounds-copy_from_slice-end c = omega (arith, c.touched_pages-pages.ensures.one c.if-pages-ne1.false, c.in-Some.ensures.whole)

pub returns-in-Some-clause-copied : goal.returns-in-Some-clause-copied
returns-in-Some-clause-copied c = λ _.
    copied-own (seen c.args.self.now) (rows c.args.self.now.places c.args.place) c.args.at _ (c.touched_pages-pages.ensures.one c.if-pages-ne1.false) c.in-Some.bytes.now _
    (c.in-Some.ensures.value ∙ ap data_of (under c.args.self.now c.args.place c.touched_pages-pages.result.from _ (sym c.kind.ensures ∙ c.in-Some-Own.is ∙ ap Some c.in-Some-Own.field-0-is) c.touched_pages-pages.ensures.from))
    c.in-Some.ensures.whole c.copy_from_slice.ensures.after

pub returns-in-None-clause-copied : goal.returns-in-None-clause-copied
returns-in-None-clause-copied c = λ _.
    copied-zeros (seen c.args.self.now) (rows c.args.self.now.places c.args.place) c.args.at _ (c.touched_pages-pages.ensures.one c.if-pages-ne1.false) _
    (c.in-None.ensures.value ∙ ap data_of (under c.args.self.now c.args.place c.touched_pages-pages.result.from _ (sym c.kind.ensures ∙ c.in-Some-Own.is ∙ ap Some c.in-Some-Own.field-0-is) c.touched_pages-pages.ensures.from))
    (c.fill.ensures.after (λ y is. is))
