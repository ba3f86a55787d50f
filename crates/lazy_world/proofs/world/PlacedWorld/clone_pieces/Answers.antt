use Rattle.std.proofs.Common.{arith, ◌≡◌, ◌≤◌, ◌∙◌, ℕ, ap, min, sym, subst}
use Rattle.lwc_base.specs.World.{Context, context}
use Rattle.lwc_types.specs.declared.limits.TheConstants.{MOST_PAGES, MOST_RANGES}
use Rattle.lwc_types.specs.declared.key.Key.TheVariants.{Page}
use Rattle.range_map.specs.Kinds.{ranges}
use Rattle.lazy_world.specs.Cells.{HasNoPages, HasOwnPages, is_own, put_rights, put_row, states_of}
use Rattle.lazy_world.specs.Clones.{CopiesPages}
use Rattle.lazy_world.specs.declared.pieces.PageOrigins.TheVariants.{AllOf}
use Rattle.lazy_world.specs.Transfers.{moves}
use Rattle.lazy_world.specs.Seen.{rights, rows}
use Rattle.lazy_world.specs.Sound.{HasOldTags, HasOneHome}
use Rattle.lazy_world.specs.Origins.{most_nodes, most_steps}
use Rattle.lazy_world.specs.States.{world_of}
use Rattle.lazy_world.specs.Worlds.{parts, seen}
use Rattle.lazy_world.specs.declared.transfer.Transfer.TheVariants.{Clone}
use Rattle.lazy_world.proofs.FollowLemmas.{followed-few, followed-sound, followed-world, other-place, ranges-here, origin-homes, origin-tags}
use Rattle.lazy_world.proofs.ShareLemmas.{none-moved}
use Rattle.lazy_world.proofs.world.PlacedWorld.clone_pieces.Goals as goal

pub clone_origins-requires-clause-apart : goal.clone_origins-requires-clause-apart
unfolding parts
clone_origins-requires-clause-apart c =
    other-place (parts c.args.self.now).contexts c.args.self.now.placed c.args.of_context c.args.made c.place-from.result c.place-to.result c.place-from.ensures.found c.place-to.ensures.found c.requires.apart

pub clone_origins-requires-clause-settled : goal.clone_origins-requires-clause-settled
unfolding rows parts
clone_origins-requires-clause-settled c k =
    sym (ap (λ (x : Context). moves c.args.spec.now k x.cell) c.place-from.ensures.context) ∙ c.requires.settled k

pub clone_origins-requires-clause-empty : goal.clone_origins-requires-clause-empty
unfolding rows parts
clone_origins-requires-clause-empty c p =
    sym (ap (λ (x : Context). x.cell (Page p)) c.place-to.ensures.context) ∙ c.requires.empty p

pub take-requires-clause-few : goal.take-requires-clause-few
unfolding seen parts world_of
take-requires-clause-few c =
    let w = c.args.self.now in
    let origins = c.clone_origins.ensures in
    subst (λ (n : ℕ). n ≤ MOST_RANGES)
    (followed-few (parts w) w.sound w.placed (Clone c.args.made) c.args.spec.now c.requires.within c.args.of_context c.args.made c.place-from.result c.place-to.result c.place-from.ensures.context c.place-to.ensures.found
    ∙ sym (λ e. ranges MOST_PAGES (states_of (origins.row e) (origins.rights e)))) c.requires.few

pub invariant_of-self : goal.invariant_of-self
unfolding seen parts world_of
invariant_of-self c =
    let w = c.args.self.now in
    let to = c.place-to.result in
    let origins = c.clone_origins.ensures in
    record {
      placed = w.placed;
      placed_groups = w.placed_groups;
      count = c.take.ensures.count ∙ w.count;
      frames = c.take.ensures.frames ∙ w.frames;
      sound = followed-sound (parts w) w.sound w.placed (Clone c.args.made) c.args.spec.now c.requires.within c.args.of_context c.args.made c.place-from.result to c.place-from.ensures.context c.place-to.ensures.found
          _ _ (c.take.ensures.rows ∙ ap (put_row (rows w.places) to) origins.row) (c.take.ensures.rights ∙ ap (put_rights (rights w.places) to) origins.rights)
          (none-moved (seen w) c.args.spec.now (context (seen w) c.args.of_context) c.args.made (λ p. c.requires.settled (Page p)))
          (subst (HasOldTags (seen w).next) origins.row (origin-tags (seen w).next (rows w.places) to c.clone_origins.new.origins w.sound.tags))
          c.requires.fresh
          (subst (λ row. HasOneHome (put_row (rows w.places) to row)) origins.row (origin-homes (rows w.places) to c.clone_origins.new.origins w.sound.homes));
    }

pub returns-clause-world : goal.returns-clause-world
unfolding seen parts world_of
returns-clause-world c =
    let w = c.args.self.now in
    let to = c.place-to.result in
    let origins = c.clone_origins.ensures in
    followed-world (parts w) w.sound w.placed (Clone c.args.made) c.args.spec.now c.requires.within c.args.of_context c.args.made c.place-from.result to c.place-from.ensures.context c.place-to.ensures.found
    _ _ (c.take.ensures.rows ∙ ap (put_row (rows w.places) to) origins.row) (c.take.ensures.rights ∙ ap (put_rights (rights w.places) to) origins.rights)

pub returns-clause-store : goal.returns-clause-store
unfolding seen parts rows rights
returns-clause-store c =
    let w = c.args.self.now in
    let s = parts w in
    let bounded = c.clone_origins.ensures.bounded in
    let here = ranges-here s w.sound c.args.of_context c.place-from.result c.place-from.ensures.found in
    let empty : HasNoPages (s.rows c.place-to.result) = λ p. sym (ap (λ (x : Context). x.cell (Page p)) c.place-to.ensures.context) ∙ c.requires.empty p in
    let whole : CopiesPages c.args.spec.now → HasOwnPages (context (seen w) c.args.of_context).cell → c.clone_origins.new.origins.pages ≡ AllOf c.place-from.result = λ copies own. bounded.whole copies (λ p. sym (ap (λ (x : Context). is_own (x.cell (Page p))) c.place-from.ensures.context) ∙ own p) in
    record {
      frames = c.take.ensures.free_empty empty;
      pool = c.take.ensures.pool;
      nodes = omega (arith, c.take.ensures.nodes empty, bounded.nodes, here);
      whole = λ copies own. omega (arith, c.take.ensures.nodes empty, ap most_nodes (whole copies own));
    }

pub returns-clause-steps : goal.returns-clause-steps
unfolding seen parts rows rights
returns-clause-steps c =
    let w = c.args.self.now in
    let s = parts w in
    let bounded = c.clone_origins.ensures.bounded in
    let here = ranges-here s w.sound c.args.of_context c.place-from.result c.place-from.ensures.found in
    let empty : HasNoPages (s.rows c.place-to.result) = λ p. sym (ap (λ (x : Context). x.cell (Page p)) c.place-to.ensures.context) ∙ c.requires.empty p in
    let whole : CopiesPages c.args.spec.now → HasOwnPages (context (seen w) c.args.of_context).cell → c.clone_origins.new.origins.pages ≡ AllOf c.place-from.result = λ copies own. bounded.whole copies (λ p. sym (ap (λ (x : Context). is_own (x.cell (Page p))) c.place-from.ensures.context) ∙ own p) in
    record {
      all = omega (arith, c.take.ensures.cost empty, bounded.steps, here);
      whole = λ copies own. omega (arith, c.take.ensures.cost empty, ap (most_steps (rows w.places) (rights w.places)) (whole copies own) ∙ ap (min 1) (sym here));
    }
