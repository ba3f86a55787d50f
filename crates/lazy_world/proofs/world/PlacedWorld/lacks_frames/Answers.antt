use Rattle.std.proofs.Common.{◌≡◌, ◌-◌, ◌∙◌, arith, refl, unwrap_or}
use Rattle.std.proofs.lemmas.Bool.{ltb-false, ltb-true}
use Rattle.lwc_base.specs.Frames.{is_parting}
use Rattle.lwc_types.specs.declared.page.PageValue.TheVariants.{Zero}
use Rattle.lwc_types.proofs.Small.{count_of_range}
use Rattle.lazy_world.specs.declared.world.PlacedWorld.{PlacedWorld}
use Rattle.lazy_world.specs.Memory.{page_in}
use Rattle.lazy_world.specs.Seen.{rows}
use Rattle.lazy_world.specs.States.{world_of}
use Rattle.lazy_world.specs.Worlds.{parts, seen}
use Rattle.lazy_world.proofs.UsedLemmas.{used-world}
use Rattle.lazy_world.proofs.world.PlacedWorld.lacks_frames.Goals as goal

frames-are : (w : PlacedWorld) → (seen w).size.frames ≡ w.size.frames
unfolding seen parts world_of
frames-are w = refl

pub returns-then-frames-used-clause-lacking : goal.returns-then-frames-used-clause-lacking
returns-then-frames-used-clause-lacking c = λ passes.
    let are = frames-are c.args.self.now in
    let less = ltb-true _ _ passes in
    omega (arith, c.parting_count.ensures.parting, c.used-used.ensures.used ∙ used-world c.args.self.now, are, less)

pub returns-then-frames-used-clause-enough : goal.returns-then-frames-used-clause-enough
returns-then-frames-used-clause-enough c = λ fails.
    let are = frames-are c.args.self.now in
    let most = ltb-false _ _ fails in
    omega (arith, c.parting_count.ensures.parting, c.used-used.ensures.used ∙ used-world c.args.self.now, are, most)

pub returns-else-frames-used-clause-enough : goal.returns-else-frames-used-clause-enough
returns-else-frames-used-clause-enough c = λ _.
    let are = frames-are c.args.self.now in
    let few = count_of_range (λ p. is_parting (seen c.args.self.now) (unwrap_or (page_in (seen c.args.self.now) (rows c.args.self.now.places c.args.place) p) Zero))
    c.args.pages.from (c.args.pages.to - c.args.pages.from) in
    omega (arith, few, c.used-used.ensures.used ∙ used-world c.args.self.now, are, c.if-frames-used.false)
