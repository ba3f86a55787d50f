use Rattle.std.proofs.Common.{◌∙◌, ap, arith, refl, sym}
use Rattle.std.specs.List.{list_any}
use Rattle.std.specs.FinMap as fm
use Rattle.lwc_base.specs.Life.{names_group}
use Rattle.lazy_world.specs.Reaping.{keeps}
use Rattle.lazy_world.specs.States.{group_at, world_of}
use Rattle.lazy_world.specs.Worlds.{parts, seen}
use Rattle.lazy_world.proofs.LeftLemmas.{keeps-all, left_by-test, nothing_left, nothing_lost}
use Rattle.lazy_world.proofs.MarkedLemmas.{each_name}
use Rattle.lazy_world.proofs.ValueLemmas.{named-values, none-named}
use Rattle.lazy_world.proofs.SmallLemmas.{place_of_found}
use Rattle.lazy_world.proofs.WorldLemmas.{get-group, len-groups}
use Rattle.lazy_world.proofs.world.PlacedWorld.drop_groups.Goals as goal

pub keep_groups-requires-clause-many : goal.keep_groups-requires-clause-many
unfolding parts
keep_groups-requires-clause-many c = omega (arith, c.args.self.now.sound.sizes.size.groups.1)

pub keep_groups-requires-clause-unnamed : goal.keep_groups-requires-clause-unnamed
unfolding parts
keep_groups-requires-clause-unnamed c j g there unmarked =
    let w = c.args.self.now in none-named (parts w) w.sound g (sym (c.named_groups-marks.ensures.at j g there) ∙ unmarked)

pub returns-then-len-eq0 : goal.returns-then-len-eq0
unfolding seen parts
returns-then-len-eq0 c =
    let w = c.args.self.now in
    λ e. record (seen w) {
      groups = nothing_left (seen w).groups (λ g. list_any (names_group (seen w).size.pages g) (fm.values (seen w).contexts))
          (len-groups (parts w) ∙ sym c.len.ensures ∙ c.if-len-eq0.true) e;
    }

pub returns-then-first_unmarked-len : goal.returns-then-first_unmarked-len
unfolding seen parts world_of
returns-then-first_unmarked-len c =
    let w = c.args.self.now in
    let marks = c.named_groups-marks.result in
    let all = each_name w.groups.map marks (fm.len w.groups.map)
    (λ n g j low at found. c.first_unmarked.ensures n (omega arith) (omega (arith, low, c.len-2.ensures, c.if-first_unmarked-len.true)) g j at found) refl in
    λ e. record (seen w) {
      groups = nothing_lost (seen w).groups (λ g. list_any (names_group (seen w).size.pages g) (fm.values (seen w).contexts))
          (λ g x is.
          let place = place_of_found (fm.get w.groups.map g) (group_at (parts w)) x (sym (get-group (parts w) g) ∙ is) in
          sym (named-values (parts w) w.sound w.placed g)
          ∙ sym (c.named_groups-marks.ensures.at place.0 g ((w.placed_groups.at g place.0).0 place.1))
          ∙ all g place.0 place.1) e;
    }

pub returns : goal.returns
unfolding seen parts world_of
returns c =
    let w = c.args.self.now in
    let marks = c.named_groups-marks.result in
    let placed = c.args.self.now.placed_groups in
    c.keep_groups.ensures
    ∙ (λ e. record (seen w) {
      groups = left_by-test w.groups.map (keeps marks w.size.groups)
          (λ g. list_any (names_group (seen w).size.pages g) (fm.values (seen w).contexts)) (seen w).groups
          (λ g x is.
          let place = place_of_found (fm.get w.groups.map g) (group_at (parts w)) x (sym (get-group (parts w) g) ∙ is) in
          let within = placed.within g place.0 place.1 in
          ap (keeps marks w.size.groups) place.1
          ∙ keeps-all marks w.size.groups place.0 (omega (arith, within, w.sound.sizes.groups))
          ∙ c.named_groups-marks.ensures.at place.0 g ((placed.at g place.0).0 place.1)
          ∙ named-values (parts w) w.sound c.args.self.now.placed g) e;
    })
