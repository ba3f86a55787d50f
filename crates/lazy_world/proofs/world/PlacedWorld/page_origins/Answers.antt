use Rattle.std.proofs.Common.{arith, ap, ◌∙◌}
use Rattle.std.specs.Option.{option_map}
use Rattle.lwc_types.specs.declared.key.Key.TheVariants.{Page}
use Rattle.cow_space.specs.Changes.{have_page}
use Rattle.lazy_world.specs.Transfers.{given_or}
use Rattle.lazy_world.specs.Seen.{rights, rows}
use Rattle.lazy_world.specs.Origins.{gift_at, gift_right, shown_right, with_rights}
use Rattle.lazy_world.specs.declared.pieces.PageOrigins.TheVariants.{PageRuns}
use Rattle.lazy_world.specs.States.{world_of}
use Rattle.lazy_world.specs.Worlds.{parts, seen}
use Rattle.lazy_world.proofs.AbsentLemmas.{no-right}
use Rattle.lazy_world.proofs.RightLemmas.{origin-rights}
use Rattle.lazy_world.proofs.world.PlacedWorld.page_origins.Goals as goal

pub returns-in-PageRuns-clause-past : goal.returns-in-PageRuns-clause-past
returns-in-PageRuns-clause-past c q high = ap (option_map (λ gift. gift.0)) (c.list_page_runs.ensures.past q high)

pub returns-in-PageRuns-clause-rights : goal.returns-in-PageRuns-clause-rights
unfolding seen world_of parts
returns-in-PageRuns-clause-rights c =
    let w = c.args.self.now in
    let to = c.args.to in
    let page_runs = c.list_page_runs.new.page_runs in
    let reads = c.list_reads.new.pages in
    origin-rights (parts w) w.sound (no-right w.places) c.args.transfer c.args.spec.now c.requires.within c.args.from to
    (with_rights (rows w.places) (rights w.places) to (PageRuns page_runs reads))
    (λ q low.
    (λ e. shown_right (c.list_page_runs.ensures.gives q low e) (c.list_reads.ensures q e) (gift_right (rights w.places) q (rights w.places to q) (gift_at page_runs.items q)))
    ∙ c.list_page_runs.ensures.rights q low)
    (λ q none high.
    ap (λ gift. shown_right (given_or (rows w.places) (Page q) (rows w.places to (Page q)) (option_map (λ g. g.0) gift)) (have_page reads.items q) (gift_right (rights w.places) q (rights w.places to q) gift))
    (c.list_page_runs.ensures.past q high)
    ∙ ap (λ cell. shown_right cell (have_page reads.items q) (rights w.places to q)) none)

pub returns-in-PageRuns-clause-nodes : goal.returns-in-PageRuns-clause-nodes
returns-in-PageRuns-clause-nodes c = omega (arith, c.list_page_runs.ensures.few)

pub returns-in-PageRuns-clause-steps : goal.returns-in-PageRuns-clause-steps
returns-in-PageRuns-clause-steps c = omega (arith, c.list_page_runs.ensures.few)
