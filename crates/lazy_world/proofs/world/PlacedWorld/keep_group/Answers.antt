use Rattle.std.proofs.Common.{◌∙◌, ap, sym}
use Rattle.std.specs.Prelude.{is_some}
use Rattle.lazy_world.specs.Worlds.{parts, seen}
use Rattle.lazy_world.proofs.LeftLemmas.{left_by-nothing, left_by-removed, left_by-stays}
use Rattle.lazy_world.proofs.WorldLemmas.{group-there}
use Rattle.lazy_world.proofs.world.PlacedWorld.keep_group.Goals as goal

pub returns-then-stays-clause-map : goal.returns-then-stays-clause-map
returns-then-stays-clause-map c = left_by-stays _ c.args.place c.args.stays c.if-stays.true _

pub returns-then-stays-clause-world : goal.returns-then-stays-clause-world
returns-then-stays-clause-world c =
    let w = c.args.self.now in
    λ e. record (seen w) { groups = left_by-stays w.groups.map c.args.place c.args.stays c.if-stays.true (seen w).groups e }

pub drop_group-requires-clause-unnamed : goal.drop_group-requires-clause-unnamed
drop_group-requires-clause-unnamed c = c.requires c.if-stays.false c.in-Some.g (sym c.at.ensures ∙ c.in-Some.is)

pub drop_group-requires-clause-there : goal.drop_group-requires-clause-there
unfolding seen parts
drop_group-requires-clause-there c =
    let w = c.args.self.now in
    group-there (parts w) c.in-Some.g ∙ ap is_some ((w.placed_groups.at c.in-Some.g c.args.place).1 (sym c.at.ensures ∙ c.in-Some.is))

pub returns-in-Some-clause-map : goal.returns-in-Some-clause-map
returns-in-Some-clause-map c =
    let w = c.args.self.now in
    c.drop_group.ensures.map ∙ left_by-removed w.groups w.placed_groups c.args.place c.args.stays c.if-stays.false w.groups.map c.in-Some.g (sym c.at.ensures ∙ c.in-Some.is)

pub returns-in-Some-clause-world : goal.returns-in-Some-clause-world
returns-in-Some-clause-world c =
    let w = c.args.self.now in
    c.drop_group.ensures.world
    ∙ (λ e. record (seen w) {
      groups = left_by-removed w.groups w.placed_groups c.args.place c.args.stays c.if-stays.false (seen w).groups c.in-Some.g (sym c.at.ensures ∙ c.in-Some.is) e;
    })

pub returns-in_default-clause-map : goal.returns-in_default-clause-map
returns-in_default-clause-map c =
    let w = c.args.self.now in left_by-nothing w.groups w.placed_groups c.args.place c.args.stays c.if-stays.false w.groups.map (sym c.at.ensures ∙ c.in_default.is)

pub returns-in_default-clause-world : goal.returns-in_default-clause-world
returns-in_default-clause-world c =
    let w = c.args.self.now in
    λ e. record (seen w) {
      groups = left_by-nothing w.groups w.placed_groups c.args.place c.args.stays c.if-stays.false (seen w).groups (sym c.at.ensures ∙ c.in_default.is) e;
    }
