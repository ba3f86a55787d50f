use Rattle.std.proofs.Common.{◌≡◌, arith, sym, ◌∙◌}
use Rattle.lwc_types.specs.declared.key.TheConstants.{SLOTS}
use Rattle.reach.specs.Search as spec
use Rattle.reach.proofs.Found.{links-next, links-none, links-past, within-next, within-past}
use Rattle.reach.proofs.search.Search.visit_links.Goals as goal

pub slots-init : goal.slots-init
slots-init g c = record { below = omega arith; found = links-none _ _ _; within = record { each = λ slot next less is. absurd (omega (arith, less)) } }

pub slots-preserved : goal.slots-preserved
slots-preserved g c =
    let link_of = g.K.Links.link_of c.args.links.now in
    let passed = c.in-Some.ensures.passed in
    let here : c.slots.self ≡ spec.with_links link_of c.args.place c.args.self.now c.in-Some.slot =
    c.slots.invariant.found ∙ links-past link_of c.args.place c.slots.from c.in-Some.slot c.args.self.now c.in-Some.ensures.after passed in
    record {
      below = omega (arith, c.in-Some.ensures.slot);
      found = c.visit_link.ensures ∙ links-next _ _ _ _ _ _ here (sym c.link.ensures.link);
      within = within-next _ _ _ _ c.link.ensures.link c.link.ensures.within
          (within-past link_of c.args.place c.slots.from c.in-Some.slot passed c.slots.invariant.within);
    }

pub returns-clause-found : goal.returns-clause-found
returns-clause-found g c =
    c.slots.invariant.found
    ∙ links-past (g.K.Links.link_of c.args.links.now) c.args.place c.slots.from SLOTS c.args.self.now c.slots.invariant.below c.in_default.ensures.none
