use Rattle.std.proofs.Common.{◌≡◌, ◌∙◌, ap, get_or, rules, sym, Some, None}
use Rattle.fd_table.specs.Slots.{context_of}
use Rattle.lazy_world.specs.Reaping.{link_from, link_of, place_by}
use Rattle.lazy_world.proofs.LinkLemmas.{slot_of, unlinked}
use Rattle.lazy_world.proofs.reaping.PlacedWorldLinks.link.Goals as goal

pub returns-in_err-at-clause-link : goal.returns-in_err-at-clause-link
unfolding link_of
returns-in_err-at-clause-link c =
    let nothing : c.from_residual.result ≡ None = search rules in
    nothing ∙ ap (link_from c.args.self.now c.args.slot) (sym (sym c.at.ensures ∙ c.in_err-at.was))

pub returns-then-not-is_filled-clause-link : goal.returns-then-not-is_filled-clause-link
returns-then-not-is_filled-clause-link c =
    let w = c.args.self.now in
    let at : get_or w.contexts.places c.args.place None ≡ Some c.in_ok-at.field-0 = sym c.at.ensures ∙ c.in_ok-at.was in
    sym (unlinked w c.in_ok-at.field-0 c.args.place c.args.slot w.placed at (sym c.is_filled.ensures ∙ c.if-not-is_filled.true))

pub returns-clause-link : goal.returns-clause-link
unfolding link_of
returns-clause-link c =
    let w = c.args.self.now in
    let at : get_or w.contexts.places c.args.place None ≡ Some c.in_ok-at.field-0 = sym c.at.ensures ∙ c.in_ok-at.was in
    c.place_of.ensures.place
    ∙ ap (place_by w.contexts.map) (c.linked.ensures ∙ ap context_of (slot_of w c.in_ok-at.field-0 c.args.place c.args.slot c.args.self.now.placed at))
    ∙ ap (link_from w c.args.slot) (sym at)
