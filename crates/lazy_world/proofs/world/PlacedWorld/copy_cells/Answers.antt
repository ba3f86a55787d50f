use Rattle.std.proofs.Common.{◌+◌, ◌≤◌, min, ◌∙◌, ap, arith, sym, subst}
use Rattle.std.proofs.Math.Nat.{min-le_right}
use Rattle.lwc_base.specs.World.{Context, context}
use Rattle.lwc_base.specs.Ranges.{ranges_of}
use Rattle.lwc_types.specs.declared.key.Key.TheVariants.{Page}
use Rattle.lazy_world.specs.Cells.{HasNoPages, put_rights, put_row}
use Rattle.lazy_world.specs.Seen.{node_steps, rights, rows}
use Rattle.lazy_world.specs.Sound.{HasOldTags, HasOneHome}
use Rattle.lazy_world.specs.States.{world_of}
use Rattle.lazy_world.specs.Worlds.{parts, seen}
use Rattle.lazy_world.specs.declared.transfer.Transfer.TheVariants.{Clone}
use Rattle.lazy_world.proofs.AddLemmas.{no_page}
use Rattle.lazy_world.proofs.FollowLemmas.{copied-homes, followed-sound, followed-world, ranges-here}
use Rattle.lazy_world.proofs.ShareLemmas.{none-moved}
use Rattle.lazy_world.proofs.world.PlacedWorld.copy_cells.Goals as goal

pub invariant_of-self : goal.invariant_of-self
unfolding seen parts world_of
invariant_of-self c =
    let w = c.args.self.now in
    let to = c.place-to.result in
    let same = c.can_copy.ensures.row c.if-can_copy.true (rows w.places to) in
    let same_rights = c.can_copy.ensures.rights c.if-can_copy.true (rights w.places to) in
    record {
      placed = w.placed;
      placed_groups = w.placed_groups;
      count = c.copy_place.ensures.count ∙ w.count;
      frames = c.copy_place.ensures.frames ∙ w.frames;
      sound = followed-sound (parts w) w.sound w.placed (Clone c.args.made) c.args.spec.now c.requires.within c.args.of_context c.args.made c.place-from.result to c.place-from.ensures.context c.place-to.ensures.found
          _ _ (c.copy_place.ensures.rows ∙ ap (put_row (rows w.places) to) (sym same)) (c.copy_place.ensures.rights ∙ ap (put_rights (rights w.places) to) (sym same_rights))
          (none-moved (seen w) c.args.spec.now (context (seen w) c.args.of_context) c.args.made (λ p. c.requires.settled (Page p)))
          (subst (HasOldTags (seen w).next) (sym same) (w.sound.tags c.place-from.result))
          c.requires.fresh
          (subst (λ row. HasOneHome (put_row (rows w.places) to row)) (sym same) (copied-homes (rows w.places) to c.place-from.result w.sound.homes));
    }

pub returns-then-can_copy-clause-world : goal.returns-then-can_copy-clause-world
unfolding seen parts world_of
returns-then-can_copy-clause-world c =
    let w = c.args.self.now in
    let to = c.place-to.result in
    let same = c.can_copy.ensures.row c.if-can_copy.true (rows w.places to) in
    let same_rights = c.can_copy.ensures.rights c.if-can_copy.true (rights w.places to) in
    followed-world (parts w) w.sound w.placed (Clone c.args.made) c.args.spec.now c.requires.within c.args.of_context c.args.made c.place-from.result to c.place-from.ensures.context c.place-to.ensures.found
    _ _ (c.copy_place.ensures.rows ∙ ap (put_row (rows w.places) to) (sym same)) (c.copy_place.ensures.rights ∙ ap (put_rights (rights w.places) to) (sym same_rights))

pub returns-then-can_copy-clause-store : goal.returns-then-can_copy-clause-store
unfolding seen parts rows rights
returns-then-can_copy-clause-store c =
    let copied = c.copy_place.ensures in
    let empty : HasNoPages ((parts c.args.self.now).rows c.place-to.result) = λ p. sym (ap (λ (x : Context). x.cell (Page p)) c.place-to.ensures.context) ∙ no_page _ p (c.requires.empty (Page p)) in
    record { frames = copied.free_empty empty; pool = copied.pool; nodes = omega (arith, copied.nodes); whole = λ copies own. copied.nodes }

pub returns-then-can_copy-clause-steps : goal.returns-then-can_copy-clause-steps
unfolding seen parts rows rights
returns-then-can_copy-clause-steps c =
    let w = c.args.self.now in
    let s = parts w in
    let here = ranges-here s w.sound c.args.of_context c.place-from.result c.place-from.ensures.found in
    let empty : HasNoPages (s.rows c.place-to.result) = λ p. sym (ap (λ (x : Context). x.cell (Page p)) c.place-to.ensures.context) ∙ no_page _ p (c.requires.empty (Page p)) in
    let steps : node_steps c.copy_place.new.self ≤ node_steps w.places + min 1 (ranges_of (seen w) c.args.of_context) = omega (arith, c.copy_place.ensures.cost empty, ap (min 1) here) in
    record { all = omega (arith, steps, min-le_right 1 (ranges_of (seen w) c.args.of_context)); whole = λ copies own. steps }

pub clone_pieces-requires-clause-empty : goal.clone_pieces-requires-clause-empty
clone_pieces-requires-clause-empty c p = no_page _ p (c.requires.empty (Page p))
