use Rattle.std.proofs.Common.{◌≡◌, ◌∙◌, ◌/◌, ℕ, Some, ap, arith, sym}
use Rattle.cow_space.specs.Maps.{data_of}
use Rattle.lwc_base.specs.Frames.{own_value}
use Rattle.lwc_types.specs.declared.key.Key.TheVariants.{Page}
use Rattle.range_map.specs.declared.segment.SegmentKind.TheVariants.{Own}
use Rattle.range_map.specs.Kinds.{kind_of}
use Rattle.lazy_world.specs.declared.world.PlacedWorld.{PlacedWorld}
use Rattle.lazy_world.specs.Memory.{page_in}
use Rattle.lazy_world.specs.Seen.{rows}
use Rattle.lazy_world.specs.Worlds.{parts, seen}
use Rattle.lazy_world.proofs.HolderLemmas.{holder-own, page-held}
use Rattle.lazy_world.proofs.MemoryLemmas.{copied-own, copied-zeros}
use Rattle.lazy_world.proofs.world.PlacedWorld.copy_noted.Goals as goal

-- what is under a page that is the place's own
under : (w : PlacedWorld) (i p q : ℕ) → kind_of (rows w.places i (Page p)) ≡ Some Own → p ≡ q → own_value (rows w.places i (Page p)) ≡ page_in (seen w) (rows w.places i) q
unfolding seen parts
under w i p q own same = sym (page-held (parts w) i p i (holder-own (parts w) i (rows w.places i (Page p)) own)) ∙ ap (page_in (seen w) (rows w.places i)) same

pub returns-clause-copied : goal.returns-clause-copied
returns-clause-copied c = λ _.
    let w = c.args.self.now in
    let note = c.args.note.now in
    let one = c.touched_pages-pages.ensures.one c.if-pages-ne1.false in
    let page : note.page ≡ c.args.at / 4096 = let is = c.if-pages-note.false in let from = c.touched_pages-pages.ensures.from in omega (arith, is, from) in
    copied-own (seen w) (rows w.places note.place) c.args.at _ one c.bytes_at-bytes.result.now _
    (c.bytes_at-bytes.ensures.value ∙ ap data_of (under w note.place note.page _ c.bytes_at-bytes.ensures.own page))
    c.bytes_at-bytes.ensures.whole c.copy_from_slice.ensures.after
