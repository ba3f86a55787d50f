use Rattle.std.proofs.Common.{◌∙◌, ap, sym}
use Rattle.whole_world.specs.Reaping.{link_from, link_of, place_in}
use Rattle.whole_world.proofs.Reached.{live-named}
use Rattle.whole_world.proofs.reaping.WholeWorldLinks.link.Goals as goal

pub slot_value-requires-clause-live : goal.slot_value-requires-clause-live
slot_value-requires-clause-live c = live-named c.args.self.now c.args.place c.in-Some.c (sym c.name_at.ensures ∙ c.in-Some.is)

pub returns-in-Some-clause-link : goal.returns-in-Some-clause-link
unfolding link_of
returns-in-Some-clause-link c =
    c.place_of.ensures.place ∙ ap (place_in c.args.self.now.contexts.rows.items) c.slot_value.ensures
    ∙ ap (link_from c.args.self.now c.args.slot) (sym (sym c.name_at.ensures ∙ c.in-Some.is))

pub returns-in-None-clause-link : goal.returns-in-None-clause-link
unfolding link_of
returns-in-None-clause-link c = ap (link_from c.args.self.now c.args.slot) (sym (sym c.name_at.ensures ∙ c.in-None.is))
