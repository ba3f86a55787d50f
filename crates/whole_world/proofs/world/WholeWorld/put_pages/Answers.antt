use Rattle.std.proofs.Common.{◌∙◌, ap, sym, Some}
use Rattle.lwc_types.specs.declared.key.Key.TheVariants.{Page}
use Rattle.std.proofs.lemmas.List.{nil_from_length}
use Rattle.lwc_base.specs.Store.{put_pages}
use Rattle.lwc_base.specs.World.{is_live}
use Rattle.whole_world.specs.Worlds.{seen}
use Rattle.lwc_base.proofs.Facts.{changes}
use Rattle.whole_world.proofs.world.WholeWorld.put_pages.Goals as goal

pub loop-p-preserved : goal.loop-p-preserved
loop-p-preserved c = record {
  left = ap (λ w. put_pages w c.args.context c.next.new.self.rest.items) c.put.ensures
      ∙ ap (put_pages (seen c.loop-p.self) c.args.context) (sym c.in-Some.ensures.steps.0)
      ∙ c.loop-p.invariant.left;
  live = ap (λ w. is_live w c.args.context) c.put.ensures
      ∙ (changes.put (seen c.loop-p.self) c.args.context (Page c.in-Some.p) (Some c.in-Some.value)).live c.args.context
      ∙ c.loop-p.invariant.live;
}

pub returns : goal.returns
returns c =
    sym (ap (put_pages (seen c.loop-p.self) c.args.context) (nil_from_length c.loop-p.p-iterator.rest.items (sym c.loop-p.p-iterator.rest.ok.0 ∙ c.in-None.ensures.steps.0)))
    ∙ c.loop-p.invariant.left
