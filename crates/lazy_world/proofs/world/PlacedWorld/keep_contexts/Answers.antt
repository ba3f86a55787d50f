use Rattle.std.proofs.Common.{◌∙◌, ◌+◌, ap, arith}
use Rattle.std.specs.FinMap as fm
use Rattle.lwc_base.specs.World.{World}
use Rattle.reach.specs.Reach.{is_marked}
use Rattle.lazy_world.specs.Reaping.{keeps, left_by, passes}
use Rattle.lazy_world.specs.Worlds.{parts, seen}
use Rattle.lazy_world.proofs.LeftLemmas.{keeps-first, keeps-more, left_by-more, left_by-same}
use Rattle.lazy_world.proofs.world.PlacedWorld.keep_contexts.Goals as goal

pub loop-i-init : goal.loop-i-init
loop-i-init c =
    let w = c.args.self.now in
    record {
      map = left_by-same w.contexts.map (keeps c.args.marks.now 0) w.contexts.map (λ d. keeps-first c.args.marks.now (fm.get w.contexts.map d));
      world = λ e. record (seen w) { contexts = left_by-same w.contexts.map (keeps c.args.marks.now 0) (seen w).contexts (λ d. keeps-first c.args.marks.now (fm.get w.contexts.map d)) e };
    }

pub bounds-marks-i : goal.bounds-marks-i
unfolding parts
bounds-marks-i c = omega arith

pub loop-i-preserved : goal.loop-i-preserved
loop-i-preserved c =
    let w = c.args.self.now in
    let marks = c.args.marks.now in
    let n = c.loop-i.i in
    let next = c.loop-i.self.contexts.map in
    record {
      map = c.keep_context.ensures.map ∙ ap (left_by next (passes (is_marked marks n) n)) c.loop-i.invariant.map
          ∙ left_by-more w.contexts.map next (keeps marks n) (passes (is_marked marks n) n) (keeps marks (n + 1)) w.contexts.map c.loop-i.invariant.map (keeps-more marks n);
      world = c.keep_context.ensures.world ∙ ap (λ (v : World). record v { contexts = left_by next (passes (is_marked marks n) n) v.contexts }) c.loop-i.invariant.world
          ∙ (λ e. record (seen w) {
            contexts = left_by-more w.contexts.map next (keeps marks n) (passes (is_marked marks n) n) (keeps marks (n + 1)) (seen w).contexts c.loop-i.invariant.map (keeps-more marks n) e;
          });
    }
