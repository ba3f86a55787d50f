use Rattle.std.proofs.Common.{List, ap, ◌∙◌, ◌≡◌}
use Rattle.std.specs.Prelude.{not}
use Rattle.lwc_base.specs.Sharing.{needs_group}
use Rattle.lwc_base.specs.declared.item.Item.{Item}
use Rattle.lwc_monitor.proofs.CommonSlots.{common-is, one}
use Rattle.lwc_monitor.proofs.trapping.is_common.Goals as goal

pub returns : goal.returns
returns g c =
    let spec : c.push.new.self ≡ one c.args.slot = rw (c.empty-spec.ensures, c.from.ensures, c.from-2.ensures) at c.push.ensures in
    ap not (c.needs_group.ensures.value ∙ ap (λ (items : List Item). needs_group (g.W.World.seen c.args.world.now) c.args.target items) spec)
    ∙ common-is (g.W.World.seen c.args.world.now) c.args.target c.args.slot c.requires.within
