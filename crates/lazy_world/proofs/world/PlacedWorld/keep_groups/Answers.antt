use Rattle.std.proofs.Common.{◌∙◌, ◌+◌, ℕ, ap, arith, sym}
use Rattle.std.specs.FinMap as fm
use Rattle.lwc_base.specs.World.{World}
use Rattle.lwc_types.specs.Names.{name_cmp}
use Rattle.reach.specs.Reach.{is_marked}
use Rattle.lazy_world.specs.Reaping.{keeps, left_by, passes}
use Rattle.lazy_world.specs.Worlds.{parts, seen}
use Rattle.lazy_world.proofs.LeftLemmas.{keeps-first, keeps-more, left-found, left_by-more, left_by-same}
use Rattle.lazy_world.proofs.world.PlacedWorld.keep_groups.Goals as goal

pub loop-j-init : goal.loop-j-init
loop-j-init c =
    let w = c.args.self.now in
    record {
      names = λ g none. none;
      map = left_by-same w.groups.map (keeps c.args.marks.now 0) w.groups.map (λ d. keeps-first c.args.marks.now (fm.get w.groups.map d));
      world = λ e. record (seen w) { groups = left_by-same w.groups.map (keeps c.args.marks.now 0) (seen w).groups (λ d. keeps-first c.args.marks.now (fm.get w.groups.map d)) e };
    }

pub bounds-marks-j : goal.bounds-marks-j
unfolding parts
bounds-marks-j c = omega arith

pub keep_group-requires : goal.keep_group-requires
unfolding parts
keep_group-requires c goes g there =
    let w = c.args.self.now in
    let now = c.loop-j.self in
    let j = c.loop-j.j in
    let found = left-found w.groups.map (keeps c.args.marks.now j) w.groups.map g j (ap (λ (m : fm.FinMap name_cmp ℕ). fm.get m g) (sym c.loop-j.invariant.map) ∙ (now.placed_groups.at g j).1 there) in
    c.loop-j.invariant.names g (c.requires.unnamed j g ((w.placed_groups.at g j).0 found) goes)

pub loop-j-preserved : goal.loop-j-preserved
loop-j-preserved c =
    let w = c.args.self.now in
    let marks = c.args.marks.now in
    let n = c.loop-j.j in
    let next = c.loop-j.self.groups.map in
    record {
      names = λ g none. c.keep_group.ensures.names g (c.loop-j.invariant.names g none);
      map = c.keep_group.ensures.map ∙ ap (left_by next (passes (is_marked marks n) n)) c.loop-j.invariant.map
          ∙ left_by-more w.groups.map next (keeps marks n) (passes (is_marked marks n) n) (keeps marks (n + 1)) w.groups.map c.loop-j.invariant.map (keeps-more marks n);
      world = c.keep_group.ensures.world ∙ ap (λ (v : World). record v { groups = left_by next (passes (is_marked marks n) n) v.groups }) c.loop-j.invariant.world
          ∙ (λ e. record (seen w) {
            groups = left_by-more w.groups.map next (keeps marks n) (passes (is_marked marks n) n) (keeps marks (n + 1)) (seen w).groups c.loop-j.invariant.map (keeps-more marks n) e;
          });
    }
