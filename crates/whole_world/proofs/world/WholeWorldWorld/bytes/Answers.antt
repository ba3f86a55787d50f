use Rattle.std.proofs.Common.{◌≡◌, ◌∙◌, Some, None, refl, sym, ap, arith, length}
use Rattle.lwc_base.specs.Memory.{load}
use Rattle.whole_world.specs.Worlds.{seen}
use Rattle.whole_world.proofs.Stores.{few_pages-seen, is_present-touched}
use Rattle.whole_world.proofs.world.WholeWorldWorld.bytes.Goals as goal
use Rattle.lwc_base.proofs.Loads.{load-absent, load-present}

pub touched_pages-pages-requires : goal.touched_pages-pages-requires
touched_pages-pages-requires c = omega (arith, few_pages-seen c.args.self.now, c.requires.within)

pub copy_to-requires-clause-within : goal.copy_to-requires-clause-within
copy_to-requires-clause-within c = omega (arith, few_pages-seen c.args.self.now, c.requires.within)

none_there : (c : goal.Then-not-are_present) → load (seen c.args.self.now) c.args.context c.args.at (length c.args.out.now) ≡ None
none_there c = load-absent _ _ _ _ (is_present-touched _ _ _ _ _ _ c.touched_pages-pages.ensures.pages c.are_present.ensures ∙ c.if-not-are_present.true)

pub returns-then-not-are_present-clause-present : goal.returns-then-not-are_present-clause-present
returns-then-not-are_present-clause-present c = rw (none_there c) refl

pub returns-then-not-are_present-clause-found : goal.returns-then-not-are_present-clause-found
returns-then-not-are_present-clause-found c = rw (none_there c) tt

all_there : (c : goal.After-slice_known-2-1) → load (seen c.args.self.now) c.args.context c.args.at (length c.args.out.now) ≡ Some c.copy_to.new.out
all_there c =
    load-present (seen c.args.self.now) c.args.context c.args.at (length c.args.out.now)
    (is_present-touched _ _ _ _ _ _ c.touched_pages-pages.ensures.pages c.are_present.ensures ∙ c.if-not-are_present.false)
    ∙ ap Some (sym c.copy_to.ensures)

pub returns-clause-present : goal.returns-clause-present
returns-clause-present c = rw (all_there c) refl

pub returns-clause-found : goal.returns-clause-found
returns-clause-found c = rw (all_there c) refl

pub returns-clause-absent : goal.returns-clause-absent
returns-clause-absent c = rw (all_there c) tt
