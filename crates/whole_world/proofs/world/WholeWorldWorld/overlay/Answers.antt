use Rattle.std.proofs.Common.{◌∙◌, ap, subst, sym}
use Rattle.lwc_base.specs.Sharing.{share}
use Rattle.lwc_base.specs.World.{is_live}
use Rattle.lwc_base.proofs.Facts.{changes}
use Rattle.lwc_types.specs.declared.size.WorldSize.{WorldSize}
use Rattle.whole_world.specs.Sound.{IsWhole}
use Rattle.whole_world.proofs.CloneCells.{shared-size}
use Rattle.whole_world.specs.Rows.{context_of}
use Rattle.whole_world.specs.Worlds.{seen}
use Rattle.whole_world.proofs.Overlaid.{old_groups-over, world-over}
use Rattle.whole_world.proofs.Worlds.{fresh-seen}
use Rattle.whole_world.proofs.world.WholeWorldWorld.overlay.Goals as goal

pub take_over-requires-clause-live : goal.take_over-requires-clause-live
take_over-requires-clause-live c =
    let is_shared = c.in_ok-share.ensures.shared ∙ ap (λ w. share w c.args.from c.args.job c.args.spec.now) c.in_ok-reserve.ensures.world in
    ap (λ w. is_live w c.args.to) is_shared ∙ (changes.shared (seen c.args.self.now) c.args.from c.args.job c.args.spec.now).live c.args.to ∙ c.requires.to

pub take_over-requires-clause-whole : goal.take_over-requires-clause-whole
take_over-requires-clause-whole c =
    let is_shared = c.in_ok-share.ensures.shared ∙ ap (λ w. share w c.args.from c.args.job c.args.spec.now) c.in_ok-reserve.ensures.world in
    subst (λ (size : WorldSize). IsWhole size.pages c.in_ok-row.row) (sym (shared-size _ _ c.args.from c.args.job c.args.spec.now is_shared)) c.in_ok-row.ensures.whole

pub take_over-requires-clause-old_groups : goal.take_over-requires-clause-old_groups
take_over-requires-clause-old_groups c =
    let is_shared = c.in_ok-share.ensures.shared ∙ ap (λ w. share w c.args.from c.args.job c.args.spec.now) c.in_ok-reserve.ensures.world in
    old_groups-over (seen c.args.self.now) (seen c.share.new.self) c.args.to c.args.from c.args.job c.args.spec.now is_shared
    (context_of c.in_ok-row.row) c.fresh.result c.in_ok-row.ensures.context (fresh-seen c.args.self.now) c.requires.from

pub returns-clause-overlaid : goal.returns-clause-overlaid
returns-clause-overlaid c =
    let is_shared = c.in_ok-share.ensures.shared ∙ ap (λ w. share w c.args.from c.args.job c.args.spec.now) c.in_ok-reserve.ensures.world in
    world-over (seen c.args.self.now) (seen c.share.new.self) c.args.to c.args.from c.args.job c.args.spec.now is_shared
    (context_of c.in_ok-row.row) c.fresh.result c.in_ok-row.ensures.context (seen c.take_over.new.self) c.take_over.ensures
