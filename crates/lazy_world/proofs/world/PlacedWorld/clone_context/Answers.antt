use Rattle.std.proofs.Common.{◌≡◌, ◌+◌, ◌<◌, ◌≤◌, ◌∙◌, ap, arith, false, length, sym, subst, true}
use Rattle.std.specs.FinMap as fm
use Rattle.lwc_base.specs.Fresh.{IsFresh}
use Rattle.lwc_base.specs.Ranges.{ranges_of}
use Rattle.lwc_base.specs.Sharing.{needs_group, ranges_after_clone, share}
use Rattle.lwc_base.specs.World.{Context, add_context, context, is_live, new_context, next_context}
use Rattle.lwc_types.specs.declared.key.TheConstants.{NOBODY}
use Rattle.lwc_types.specs.declared.limits.TheConstants.{MOST_RANGES}
use Rattle.lwc_types.specs.declared.size.WorldSize.{WorldSize}
use Rattle.world_face.specs.Calls.{HasPlace}
use Rattle.lazy_world.specs.Cells.{is_nothing}
use Rattle.lazy_world.specs.Worlds.{parts, seen}
use Rattle.lazy_world.proofs.CloneLemmas.{clone-few, cloned-is, new-nothing, other_name, same_context, still-settled}
use Rattle.lazy_world.specs.Seen.{KeepsStore}
use Rattle.lazy_world.specs.declared.world.PlacedWorld.{PlacedWorld}
use Rattle.lazy_world.proofs.CostLemmas.{added-ranges, clone-takes, copy-before, steps-before}
use Rattle.lwc_base.proofs.Facts.{changes, counts, stays_fresh}
use Rattle.lazy_world.proofs.world.PlacedWorld.clone_context.Goals as goal

pub share-requires-clause-few : goal.share-requires-clause-few
unfolding ranges_after_clone
share-requires-clause-few c = c.requires.few.0

pub add_context-made-requires-clause-place : goal.add_context-made-requires-clause-place
add_context-made-requires-clause-place c =
    let w = seen c.args.self.now in
    let s = share w c.args.of_context c.args.job c.args.spec.now in
    let shared = changes.shared w c.args.of_context c.args.job c.args.spec.now in
    let many = (counts.same_contexts w s c.args.job shared.live).1 in
    subst HasPlace (sym c.share.ensures.world)
    (subst (λ (size : WorldSize). fm.len s.contexts < size.contexts) (sym shared.size) (subst (λ n. n < w.size.contexts) (sym many) c.requires.place))

pub copy_cells-requires-clause-from : goal.copy_cells-requires-clause-from
unfolding seen parts
copy_cells-requires-clause-from c =
    let w = seen c.args.self.now in
    let x = new_context NOBODY c.args.entry.now in
    let s = share w c.args.of_context c.args.job c.args.spec.now in
    let added = c.add_context-made.ensures.world ∙ ap (λ v. add_context v c.args.job x) c.share.ensures.world in
    let shared = changes.shared w c.args.of_context c.args.job c.args.spec.now in
    subst (λ v. is_live v c.args.of_context ≡ true) (sym added)
    ((changes.context_added s c.args.job x).still_live c.args.of_context
    (other_name w c.args.of_context c.args.job c.args.spec.now c.requires.within c.requires.live c.args.self.now.sound.fresh NOBODY c.args.entry.now)
    ∙ shared.live c.args.of_context ∙ c.requires.live)

pub copy_cells-requires-clause-fresh : goal.copy_cells-requires-clause-fresh
unfolding seen parts
copy_cells-requires-clause-fresh c =
    let w = seen c.args.self.now in
    let added = c.add_context-made.ensures.world ∙ ap (λ v. add_context v c.args.job (new_context NOBODY c.args.entry.now)) c.share.ensures.world in
    let named = c.add_context-made.ensures.name ∙ ap (λ v. next_context v c.args.job) c.share.ensures.world in
    subst IsFresh
    (sym (cloned-is w c.args.of_context c.args.job c.args.spec.now c.requires.within c.requires.live c.args.self.now.sound.fresh NOBODY c.args.entry.now
    c.add_context-made.result (seen c.add_context-made.new.self) c.add_context-made.result added named))
    (stays_fresh.cloned w c.args.of_context c.args.job c.args.spec.now c.args.entry.now c.requires.live c.args.self.now.sound.fresh)

pub copy_cells-requires-clause-few : goal.copy_cells-requires-clause-few
unfolding seen parts
copy_cells-requires-clause-few c =
    let w = seen c.args.self.now in
    let added = c.add_context-made.ensures.world ∙ ap (λ v. add_context v c.args.job (new_context NOBODY c.args.entry.now)) c.share.ensures.world in
    let named = c.add_context-made.ensures.name ∙ ap (λ v. next_context v c.args.job) c.share.ensures.world in
    subst (λ v. ranges_of v c.add_context-made.result ≤ MOST_RANGES)
    (sym (cloned-is w c.args.of_context c.args.job c.args.spec.now c.requires.within c.requires.live c.args.self.now.sound.fresh NOBODY c.args.entry.now
    c.add_context-made.result (seen c.add_context-made.new.self) c.add_context-made.result added named))
    (clone-few w c.args.of_context c.args.job c.args.spec.now c.requires.within c.requires.live c.args.self.now.sound.fresh NOBODY c.args.entry.now
    c.requires.few.1 c.add_context-made.result named)

pub returns-clause-cloned : goal.returns-clause-cloned
unfolding seen parts
returns-clause-cloned c =
    let w = seen c.args.self.now in
    let added = c.add_context-made.ensures.world ∙ ap (λ v. add_context v c.args.job (new_context NOBODY c.args.entry.now)) c.share.ensures.world in
    let named = c.add_context-made.ensures.name ∙ ap (λ v. next_context v c.args.job) c.share.ensures.world in
    c.copy_cells.ensures.world
    ∙ cloned-is w c.args.of_context c.args.job c.args.spec.now c.requires.within c.requires.live c.args.self.now.sound.fresh NOBODY c.args.entry.now
    c.add_context-made.result (seen c.add_context-made.new.self) c.add_context-made.result added named

pub copy_cells-requires-clause-apart : goal.copy_cells-requires-clause-apart
unfolding seen parts
copy_cells-requires-clause-apart c same =
    let w = seen c.args.self.now in
    let named = c.add_context-made.ensures.name ∙ ap (λ v. next_context v c.args.job) c.share.ensures.world in
    other_name w c.args.of_context c.args.job c.args.spec.now c.requires.within c.requires.live c.args.self.now.sound.fresh NOBODY c.args.entry.now
    (same ∙ named)

pub copy_cells-requires-clause-settled : goal.copy_cells-requires-clause-settled
unfolding seen parts
copy_cells-requires-clause-settled c =
    let w = seen c.args.self.now in
    let added = c.add_context-made.ensures.world ∙ ap (λ v. add_context v c.args.job (new_context NOBODY c.args.entry.now)) c.share.ensures.world in
    still-settled w c.args.of_context c.args.job c.args.spec.now c.requires.within c.requires.live c.args.self.now.sound.fresh NOBODY c.args.entry.now
    (seen c.add_context-made.new.self) added

pub copy_cells-requires-clause-empty : goal.copy_cells-requires-clause-empty
unfolding seen parts
copy_cells-requires-clause-empty c k =
    let w = seen c.args.self.now in
    let x = new_context NOBODY c.args.entry.now in
    let s = share w c.args.of_context c.args.job c.args.spec.now in
    let added = c.add_context-made.ensures.world ∙ ap (λ v. add_context v c.args.job x) c.share.ensures.world in
    let named = c.add_context-made.ensures.name ∙ ap (λ v. next_context v c.args.job) c.share.ensures.world in
    (λ e. is_nothing k ((context (added e) (named e)).cell k)) ∙ ap (λ (y : Context). is_nothing k (y.cell k)) (changes.context_added s c.args.job x).added ∙ new-nothing NOBODY c.args.entry.now k

-- the context has its ranges and its cells once the new one is there
module _ (c : goal.After-copy_cells) where
  here : context (seen c.add_context-made.new.self) c.args.of_context ≡ context (share (seen c.args.self.now) c.args.of_context c.args.job c.args.spec.now) c.args.of_context
  unfolding seen parts
  here =
      let added = c.add_context-made.ensures.world ∙ ap (λ v. add_context v c.args.job (new_context NOBODY c.args.entry.now)) c.share.ensures.world in
      ap (λ v. context v c.args.of_context) added ∙ same_context (seen c.args.self.now) c.args.of_context c.args.job c.args.spec.now c.requires.within c.requires.live c.args.self.now.sound.fresh NOBODY c.args.entry.now

  counted : ranges_of (seen c.add_context-made.new.self) c.args.of_context ≡ ranges_of (share (seen c.args.self.now) c.args.of_context c.args.job c.args.spec.now) c.args.of_context
  counted =
      let added = c.add_context-made.ensures.world ∙ ap (λ v. add_context v c.args.job (new_context NOBODY c.args.entry.now)) c.share.ensures.world in
      ap (λ v. ranges_of v c.args.of_context) added ∙ added-ranges (share (seen c.args.self.now) c.args.of_context c.args.job c.args.spec.now) c.args.of_context c.args.job NOBODY c.args.entry.now (sym (ap (λ v. context v c.args.of_context) added) ∙ here)

  still : needs_group (seen c.args.self.now) c.args.of_context c.args.spec.now ≡ false → share (seen c.args.self.now) c.args.of_context c.args.job c.args.spec.now ≡ seen c.args.self.now
  still none = (changes.shared (seen c.args.self.now) c.args.of_context c.args.job c.args.spec.now).none none

pub returns-clause-store : goal.returns-clause-store
returns-clause-store c = record {
  all = clone-takes c.args.self.now c.share.new.self c.add_context-made.new.self c.copy_cells.new.self c.args.of_context c.args.spec.now _ _ c.share.ensures.store c.add_context-made.ensures.store (ap (λ n. n + length c.args.spec.now) (counted c)) c.copy_cells.ensures.store;
  alone = λ none.
      copy-before c.args.self.now c.add_context-made.new.self c.copy_cells.new.self c.args.of_context c.args.spec.now
      (here c ∙ ap (λ v. context v c.args.of_context) (still c none)) (ap (λ n. n + length c.args.spec.now) (counted c ∙ ap (λ v. ranges_of v c.args.of_context) (still c none)))
      (subst (λ (v : PlacedWorld). KeepsStore v.places c.add_context-made.new.self.places) (c.share.ensures.none none) c.add_context-made.ensures.store) c.copy_cells.ensures.store;
}

pub returns-clause-steps : goal.returns-clause-steps
returns-clause-steps c = record {
  all = omega (arith, c.share.ensures.steps, c.add_context-made.ensures.store.steps, c.copy_cells.ensures.steps.all, counted c);
  alone = λ none.
      steps-before c.args.self.now c.add_context-made.new.self c.copy_cells.new.self c.args.of_context c.args.spec.now
      (here c ∙ ap (λ v. context v c.args.of_context) (still c none)) (counted c ∙ ap (λ v. ranges_of v c.args.of_context) (still c none))
      (subst (λ (v : PlacedWorld). KeepsStore v.places c.add_context-made.new.self.places) (c.share.ensures.none none) c.add_context-made.ensures.store) c.copy_cells.ensures.steps;
}
