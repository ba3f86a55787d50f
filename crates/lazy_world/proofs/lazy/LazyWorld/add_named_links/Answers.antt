use Rattle.std.proofs.Common.{◌∙◌, ap}
use Rattle.fd_table.specs.Slots.{context_of}
use Rattle.lazy_world.specs.Worlds.{parts, seen}
use Rattle.lazy_world.proofs.CachedRootLemmas.{reached-all}
use Rattle.lazy_world.proofs.WorldLemmas.{slot-found}
use Rattle.lazy_world.proofs.lazy.LazyWorld.add_named_links.Goals as goal

pub invariant_of-self-else-not-add_named_links : goal.invariant_of-self-else-not-add_named_links
invariant_of-self-else-not-add_named_links c =
    let old = c.args.self.now in
    record {
      reached = λ known.
          reached-all (seen old.world) old.cached_roots.items c.add_named_links.new.roots.items c.add_named_links.ensures.more (old.reached known);
      noted = old.noted;
    }

pub returns-else-not-add_named_links-clause-links : goal.returns-else-not-add_named_links-clause-links
unfolding seen parts
returns-else-not-add_named_links-clause-links c = λ known n d low named is.
    let w = c.args.self.now.world in
    let there = slot-found (parts w) c.args.context c.place-place.result n c.place-place.ensures.found in
    c.add_named_links.ensures.links c.if-not-add_named_links.false n d low named (ap context_of there ∙ is)
