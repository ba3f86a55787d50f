use Rattle.std.proofs.Common.{◌∙◌, None, ap, sym}
use Rattle.std.specs.Option.{option_map}
use Rattle.lwc_base.specs.declared.cell.Cell.TheVariants.{Own}
use Rattle.lwc_base.specs.Modes.{mode, mode_or_copy}
use Rattle.lwc_base.specs.Ranges.{is_page}
use Rattle.lwc_types.specs.declared.key.Key.TheVariants.{Page}
use Rattle.lazy_world.specs.Transfers.{given_or, taken_right}
use Rattle.lazy_world.specs.Seen.{rights, rows}
use Rattle.lazy_world.specs.Origins.{gift_right, shown_right}
use Rattle.lazy_world.specs.States.{world_of}
use Rattle.lazy_world.specs.Worlds.{parts, seen}
use Rattle.lazy_world.proofs.AbsentLemmas.{no-right}
use Rattle.lazy_world.proofs.CloneOrigins.{clone_gives}
use Rattle.lazy_world.proofs.CopyLemmas.{own-pages, page-same}
use Rattle.lazy_world.proofs.RightLemmas.{clone-rights}
use Rattle.lazy_world.proofs.world.PlacedWorld.clone_pages.Goals as goal

pub returns-then-has_own_pages-clause-gives : goal.returns-then-has_own_pages-clause-gives
unfolding seen parts mode_or_copy
returns-then-has_own_pages-clause-gives c made old q =
    let w = c.args.self.now in
    let row = rows w.places c.args.from in
    let own = own-pages w.size.pages row w.sound.sizes.size.pages.1 (w.sound.past c.args.from) (c.has_own_pages.ensures.own c.if-has_own_pages.true) in
    sym (page-same (seen w) made (mode c.args.spec.now (Page q)) q (row (Page q)) (old (Page q)) (c.copies_pages.ensures.copied c.if-copies_pages.true q) (own q))

pub returns-in-PageRuns-clause-gives : goal.returns-in-PageRuns-clause-gives
unfolding seen parts world_of
returns-in-PageRuns-clause-gives c made old q =
    let w = c.args.self.now in
    ap (λ gift. given_or (rows w.places) (Page q) (Own None) (option_map (λ g. g.0) gift)) (c.list_clone_runs.ensures.gifts q)
    ∙ clone_gives (parts w) w.sound.own made (mode c.args.spec.now (Page q)) c.args.from q (old (Page q)) (c.requires.settled q)

pub returns-then-has_own_pages-clause-rights : goal.returns-then-has_own_pages-clause-rights
unfolding mode_or_copy
returns-then-has_own_pages-clause-rights c made to empty =
    let w = c.args.self.now in
    λ e p. sym (ap (λ m. taken_right m (is_page (rows w.places c.args.from (Page p))) (rights w.places c.args.from p)) (c.copies_pages.ensures.copied c.if-copies_pages.true p)) e

pub returns-in-PageRuns-clause-rights : goal.returns-in-PageRuns-clause-rights
unfolding seen parts world_of
returns-in-PageRuns-clause-rights c made to empty =
    let w = c.args.self.now in
    λ e q.
    ((λ x. shown_right (given_or (rows w.places) (Page q) (rows w.places to (Page q)) (option_map (λ g. g.0) (c.list_clone_runs.ensures.gifts q x))) (c.list_read_pages.ensures q x)
    (gift_right (rights w.places) q (rights w.places to q) (c.list_clone_runs.ensures.gifts q x)))
    ∙ clone-rights (parts w) w.sound.own w.sound.pages (no-right w.places) made (mode c.args.spec.now (Page q)) c.args.from to q (c.requires.settled q) (empty q)) e
