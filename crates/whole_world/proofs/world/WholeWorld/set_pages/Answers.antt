use Rattle.std.proofs.Common.{◌∙◌, sym, arith}
use Rattle.whole_world.specs.Rows.{with_pages}
use Rattle.whole_world.specs.States.{world_of}
use Rattle.whole_world.specs.Worlds.{seen}
use Rattle.whole_world.proofs.Worlds.{change_context-at, change_context-missed, fresh-pages, pages-set, sound-at, still_whole, whole-at}
use Rattle.whole_world.proofs.world.WholeWorld.set_pages.Goals as goal

pub set_pages-requires-clause-pages : goal.set_pages-requires-clause-pages
unfolding seen world_of
set_pages-requires-clause-pages c =
    let whole = whole-at _ _ _ _ c.args.self.now.sound c.args.context c.in-Some.i _ (sym c.position.ensures ∙ c.in-Some.is) c.index_mut.ensures.value in
    omega (arith, whole.pages, c.requires.pages)

pub set_pages-requires-clause-rights : goal.set_pages-requires-clause-rights
unfolding seen world_of
set_pages-requires-clause-rights c =
    let whole = whole-at _ _ _ _ c.args.self.now.sound c.args.context c.in-Some.i _ (sym c.position.ensures ∙ c.in-Some.is) c.index_mut.ensures.value in
    omega (arith, whole.rights, c.requires.pages)

pub invariant_of-self : goal.invariant_of-self
invariant_of-self c =
    let found = sym c.position.ensures ∙ c.in-Some.is in
    record {
      sound = sound-at _ _ _ _ c.args.self.now.sound c.args.context c.in-Some.i _ found c.index_mut.ensures.value c.set_pages.new.self (with_pages c.args.range.from c.args.range.to c.args.present)
          c.set_pages.ensures.context
          (still_whole _ _ _ (whole-at _ _ _ _ c.args.self.now.sound c.args.context c.in-Some.i _ found c.index_mut.ensures.value) c.set_pages.ensures.size)
          (fresh-pages _ c.args.context c.args.range.from c.args.range.to c.args.present c.args.self.now.sound.fresh);
    }

pub returns-in-Some : goal.returns-in-Some
unfolding seen
returns-in-Some c =
    change_context-at _ _ _ _ c.args.self.now.sound c.args.context c.in-Some.i _ (sym c.position.ensures ∙ c.in-Some.is) c.index_mut.ensures.value c.set_pages.new.self _ c.set_pages.ensures.context
    ∙ pages-set _ c.args.context c.args.range.from c.args.range.to c.args.present

pub returns-in-None : goal.returns-in-None
unfolding seen
returns-in-None c =
    change_context-missed _ _ _ _ c.args.self.now.sound c.args.context (with_pages c.args.range.from c.args.range.to c.args.present) (sym c.position.ensures ∙ c.in-None.is)
    ∙ pages-set _ c.args.context c.args.range.from c.args.range.to c.args.present
