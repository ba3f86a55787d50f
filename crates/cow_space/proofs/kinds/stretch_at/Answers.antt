use Rattle.std.proofs.Common.{◌≡◌, ◌∙◌, Bool, true, false, cond, sym, ap, arith, refl, Option, None, Some}
use Rattle.std.specs.Prelude.{unwrap_or}
use Rattle.lwc_types.specs.declared.right.Right.{Right}
use Rattle.lwc_types.specs.declared.right.Right.TheVariants.{Read}
use Rattle.range_map.specs.Kinds.{kind_of, state_of}
use Rattle.cow_space.specs.Changes.{origin_cell, origin_right}
use Rattle.cow_space.specs.Cells.{place_of, rights_of}
use Rattle.cow_space.proofs.Changed.{found-state, origin-inside}
use Rattle.cow_space.proofs.kinds.stretch_at.Goals as goal

-- the right Read before another, or in its place
read-right : (read : Bool) (right : Option Right) (own : Right) → cond read Read (unwrap_or right own) ≡ unwrap_or (cond read (Some Read) right) own
read-right true right own = refl
read-right false right own = refl

pub returns-in-Some-clause-origin : goal.returns-in-Some-clause-origin
returns-in-Some-clause-origin c count inside are j from =
    origin-inside count c.args.place c.args.page c.args.page_runs.now c.in-Some.page_run are (sym c.found_run-found.ensures.run ∙ c.in-Some.is) j from

pub returns-in-Some-clause-states : goal.returns-in-Some-clause-states
returns-in-Some-clause-states c cells rights q low high =
    let first = c.found_run-found.ensures in
    let edge = c.range_edge-to.ensures in
    let run = c.in-Some.page_run in
    found-state cells rights c.args.place q c.args.page_runs.now c.args.reads.now (Some run) c.have_page-read.result
    (first.alike q low (omega (arith, high, edge.within)) ∙ sym first.run ∙ c.in-Some.is)
    (edge.alike q low high ∙ sym c.have_page-read.ensures)
    ∙ ap (state_of (kind_of (origin_cell cells run.origin q))) (read-right c.have_page-read.result run.right (origin_right rights run.origin q) ∙ ap (λ o. unwrap_or o (origin_right rights run.origin q)) (sym c.right_given.ensures))

pub returns-in-None-clause-states : goal.returns-in-None-clause-states
returns-in-None-clause-states c cells rights q low high =
    let first = c.found_run-found.ensures in
    let edge = c.range_edge-to.ensures in
    found-state cells rights c.args.place q c.args.page_runs.now c.args.reads.now None c.have_page-read.result
    (first.alike q low (omega (arith, high, edge.within)) ∙ sym first.run ∙ c.in-None.is)
    (edge.alike q low high ∙ sym c.have_page-read.ensures)
    ∙ ap (state_of (kind_of (place_of cells c.args.place q))) (read-right c.have_page-read.result None (rights_of rights c.args.place q) ∙ ap (λ o. unwrap_or o (rights_of rights c.args.place q)) (sym c.right_given-in-None.ensures))
