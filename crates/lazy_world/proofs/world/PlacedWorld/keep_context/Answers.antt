use Rattle.std.proofs.Common.{◌∙◌, ap, sym}
use Rattle.std.specs.Prelude.{is_some}
use Rattle.lazy_world.specs.Worlds.{parts, seen}
use Rattle.lazy_world.proofs.LeftLemmas.{left_by-nothing, left_by-removed, left_by-stays}
use Rattle.lazy_world.proofs.WorldLemmas.{live-there}
use Rattle.lazy_world.proofs.world.PlacedWorld.keep_context.Goals as goal

pub returns-then-stays-clause-map : goal.returns-then-stays-clause-map
returns-then-stays-clause-map c = left_by-stays _ c.args.place c.args.stays c.if-stays.true _

pub returns-then-stays-clause-world : goal.returns-then-stays-clause-world
returns-then-stays-clause-world c =
    let w = c.args.self.now in
    λ e. record (seen w) { contexts = left_by-stays w.contexts.map c.args.place c.args.stays c.if-stays.true (seen w).contexts e }

pub drop_context-requires : goal.drop_context-requires
unfolding seen parts
drop_context-requires c =
    let w = c.args.self.now in
    live-there (parts w) c.in-Some.c ∙ ap is_some ((w.placed.at c.in-Some.c c.args.place).1 (sym c.at.ensures ∙ c.in-Some.is))

pub returns-in-Some-clause-map : goal.returns-in-Some-clause-map
returns-in-Some-clause-map c =
    let w = c.args.self.now in
    c.drop_context.ensures.map ∙ left_by-removed w.contexts w.placed c.args.place c.args.stays c.if-stays.false w.contexts.map c.in-Some.c (sym c.at.ensures ∙ c.in-Some.is)

pub returns-in-Some-clause-world : goal.returns-in-Some-clause-world
returns-in-Some-clause-world c =
    let w = c.args.self.now in
    c.drop_context.ensures.world
    ∙ (λ e. record (seen w) {
      contexts = left_by-removed w.contexts w.placed c.args.place c.args.stays c.if-stays.false (seen w).contexts c.in-Some.c (sym c.at.ensures ∙ c.in-Some.is) e;
    })

pub returns-in_default-clause-map : goal.returns-in_default-clause-map
returns-in_default-clause-map c =
    let w = c.args.self.now in left_by-nothing w.contexts w.placed c.args.place c.args.stays c.if-stays.false w.contexts.map (sym c.at.ensures ∙ c.in_default.is)

pub returns-in_default-clause-world : goal.returns-in_default-clause-world
returns-in_default-clause-world c =
    let w = c.args.self.now in
    λ e. record (seen w) {
      contexts = left_by-nothing w.contexts w.placed c.args.place c.args.stays c.if-stays.false (seen w).contexts (sym c.at.ensures ∙ c.in_default.is) e;
    }
