use Rattle.std.proofs.Common.{◌≡◌, ◌∙◌, Some, ap, sym}
use Rattle.lwc_base.specs.Lending.{descriptor_of, keys_of}
use Rattle.guest_call.specs.Guest.{descriptor_for, link_of}
use Rattle.guest_call.proofs.Targets.{in_slot, target_links}
use Rattle.guest_call.proofs.links.context_for.Goals as goal

pub returns-in-Ctx-clause-within : goal.returns-in-Ctx-clause-within
returns-in-Ctx-clause-within g c =
    let w = g.W.World.seen c.args.world.now in
    let is : link_of (descriptor_for w c.args.context c.args.number) ≡ Some (c.in-Ctx.name, keys_of c.in-Ctx.keys) = ap link_of (sym c.descriptor_for.ensures ∙ ap descriptor_of c.in-Ctx.is) in
    (in_slot w c.args.context c.args.number (c.in-Ctx.name, keys_of c.in-Ctx.keys) is).0

pub returns-in-Ctx-clause-target : goal.returns-in-Ctx-clause-target
returns-in-Ctx-clause-target g c =
    let w = g.W.World.seen c.args.world.now in
    let is : link_of (descriptor_for w c.args.context c.args.number) ≡ Some (c.in-Ctx.name, keys_of c.in-Ctx.keys) = ap link_of (sym c.descriptor_for.ensures ∙ ap descriptor_of c.in-Ctx.is) in
    c.requires.named.live c.args.context c.in-Ctx.name c.requires.live
    (target_links w c.args.context c.args.number (c.in-Ctx.name, keys_of c.in-Ctx.keys) is)
