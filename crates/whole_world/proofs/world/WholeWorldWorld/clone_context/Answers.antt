use Rattle.std.proofs.Common.{◌∙◌, ap, arith, sym, subst}
use Rattle.std.specs.FinMap as fm
use Rattle.lwc_base.specs.Sharing.{needs_group, share}
use Rattle.lwc_base.specs.World.{World}
use Rattle.lwc_types.specs.declared.size.WorldSize.{WorldSize}
use Rattle.whole_world.specs.Rows.{context_of}
use Rattle.whole_world.specs.Worlds.{seen}
use Rattle.whole_world.specs.Sound.{IsWhole}
use Rattle.whole_world.proofs.CloneCells.{context-copied, shared-added, shared-contexts, shared-len, shared-name, shared-old_groups, shared-size}
use Rattle.whole_world.proofs.Worlds.{fresh-seen}
use Rattle.whole_world.proofs.world.WholeWorldWorld.clone_context.Goals as goal

pub add_context-requires-clause-known : goal.add_context-requires-clause-known
add_context-requires-clause-known c =
    let is_shared = c.in_ok-share.ensures.shared ∙ ap (λ w. share w c.args.context c.args.job c.args.spec.now) c.in_ok-reserve.ensures.world in
    omega (arith, ap (λ (size : WorldSize). size.jobs) (shared-size _ _ c.args.context c.args.job c.args.spec.now is_shared), c.requires.may.known)

pub add_context-requires-clause-few : goal.add_context-requires-clause-few
add_context-requires-clause-few c =
    let is_shared = c.in_ok-share.ensures.shared ∙ ap (λ w. share w c.args.context c.args.job c.args.spec.now) c.in_ok-reserve.ensures.world in
    omega (arith, shared-contexts _ _ c.args.context c.args.job c.args.spec.now is_shared, c.requires.may.contexts)

pub add_context-requires-clause-old_groups : goal.add_context-requires-clause-old_groups
add_context-requires-clause-old_groups c =
    let is_shared = c.in_ok-share.ensures.shared ∙ ap (λ w. share w c.args.context c.args.job c.args.spec.now) c.in_ok-reserve.ensures.world in
    shared-old_groups _ _ c.args.context c.args.job c.args.spec.now is_shared (context_of c.in_ok-row.row) c.args.entry.now c.requires.live (fresh-seen c.args.self.now) (context-copied _ c.args.context c.args.job c.args.spec.now c.args.entry.now _ c.in_ok-row.ensures.context)

pub add_context-requires-clause-whole : goal.add_context-requires-clause-whole
add_context-requires-clause-whole c =
    let is_shared = c.in_ok-share.ensures.shared ∙ ap (λ w. share w c.args.context c.args.job c.args.spec.now) c.in_ok-reserve.ensures.world in
    subst (λ (s : WorldSize). IsWhole s.pages c.in_ok-row.row) (sym (shared-size _ _ c.args.context c.args.job c.args.spec.now is_shared)) c.in_ok-row.ensures.whole

pub share-requires-clause-group : goal.share-requires-clause-group
share-requires-clause-group c = λ needs.
    let group = c.requires.group (sym (ap (λ w. needs_group w c.args.context c.args.spec.now) c.in_ok-reserve.ensures.world) ∙ needs) in
    omega (arith, group, ap (λ (w : World). fm.len w.groups) c.in_ok-reserve.ensures.world, ap (λ (w : World). w.size.groups) c.in_ok-reserve.ensures.world)

pub add_context-requires-clause-place : goal.add_context-requires-clause-place
add_context-requires-clause-place c =
    let is_shared = c.in_ok-share.ensures.shared ∙ ap (λ w. share w c.args.context c.args.job c.args.spec.now) c.in_ok-reserve.ensures.world in
    omega (
      arith,
      shared-len _ _ c.args.context c.args.job c.args.spec.now is_shared,
      ap (λ (size : WorldSize). size.contexts) (shared-size _ _ c.args.context c.args.job c.args.spec.now is_shared),
      c.requires.place,
    )

pub returns-clause-name : goal.returns-clause-name
returns-clause-name c =
    let is_shared = c.in_ok-share.ensures.shared ∙ ap (λ w. share w c.args.context c.args.job c.args.spec.now) c.in_ok-reserve.ensures.world in
    c.add_context.ensures.name ∙ shared-name _ _ c.args.context c.args.job c.args.spec.now is_shared

pub returns-clause-cloned : goal.returns-clause-cloned
returns-clause-cloned c =
    let is_shared = c.in_ok-share.ensures.shared ∙ ap (λ w. share w c.args.context c.args.job c.args.spec.now) c.in_ok-reserve.ensures.world in
    shared-added _ _ c.args.context c.args.job c.args.spec.now is_shared (seen c.add_context.new.self) (context_of c.in_ok-row.row) c.args.entry.now (context-copied _ c.args.context c.args.job c.args.spec.now c.args.entry.now _ c.in_ok-row.ensures.context) c.add_context.ensures.world
