use Rattle.std.proofs.Common.{◌≡◌, ◌<◌, ◌≤◌, ◌+◌, ℕ, suc, ◌∙◌, ap, sym, List, Option, None, Some}
use Rattle.lwc_types.specs.declared.right.Right.{Right}
use Rattle.range_map.specs.declared.segment.PageState.{PageState}
use Rattle.range_map.specs.Kinds.{ranges}
use Rattle.cow_space.specs.Cells.{Place}
use Rattle.cow_space.specs.Changes.{begun, given_states}
use Rattle.cow_space.specs.declared.page_runs.Origin.TheVariants.{Absent, Zeros, Common}
use Rattle.cow_space.specs.declared.page_runs.PageRun.{PageRun}
use Rattle.cow_space.specs.Seen.{cells, rights}
use Rattle.cow_space.proofs.KindChanges.{piece-counts}
use Rattle.cow_space.proofs.Stretches.{by-copy, by-origin}
use Rattle.cow_space.proofs.cells.PageCells.count_given.Goals as goal

-- pages of one state are counted at once
at-once : (cells : List Place) (rights : List (ℕ → Right)) (run : PageRun) (before state : Option PageState) (count : ℕ) → run.range.from < run.range.to →
    ((q : ℕ) → given_states cells rights run q ≡ state) → count ≡ begun before state →
    (after : ℕ → Option PageState) → ((q : ℕ) → run.range.from ≤ q → q < run.range.to → after q ≡ given_states cells rights run q) →
    (run.range.from ≡ 0 → before ≡ None) → ((n : ℕ) → run.range.from ≡ suc n → before ≡ after n) → ranges run.range.to after ≡ ranges run.range.from after + count
at-once cells rights run before state count order same is after gives first later =
    piece-counts after run.range.from run.range.to before state order first later (λ q low high. gives q low high ∙ same q)
    ∙ ap (λ n. ranges run.range.from after + n) (sym is)

pub returns-in-Absent-clause-counted : goal.returns-in-Absent-clause-counted
returns-in-Absent-clause-counted c =
    let w = c.args.self.now in
    let run = c.args.page_run.now in
    at-once (cells w) (rights w) run c.args.before None _ c.requires.order (λ q. by-origin (cells w) (rights w) run Absent q c.in-Absent.is) c.count_alike.ensures.counted

pub returns-in-Zeros-clause-counted : goal.returns-in-Zeros-clause-counted
returns-in-Zeros-clause-counted c =
    let w = c.args.self.now in
    let run = c.args.page_run.now in
    at-once (cells w) (rights w) run c.args.before (Some c.new_state.result) _ c.requires.order
    (λ q. by-origin (cells w) (rights w) run Zeros q c.in-Zeros.is ∙ ap Some (sym c.new_state.ensures)) c.count_alike-in-Zeros.ensures.counted

pub returns-in-Common-clause-counted : goal.returns-in-Common-clause-counted
returns-in-Common-clause-counted c =
    let w = c.args.self.now in
    let run = c.args.page_run.now in
    at-once (cells w) (rights w) run c.args.before (Some c.new_state-in-Common.result) _ c.requires.order
    (λ q. by-origin (cells w) (rights w) run (Common c.in-Common.g) q c.in-Common.is ∙ ap Some (sym c.new_state-in-Common.ensures)) c.count_alike-in-Common.ensures.counted

pub returns-in-CopyOf-clause-counted : goal.returns-in-CopyOf-clause-counted
returns-in-CopyOf-clause-counted c after gives =
    let w = c.args.self.now in
    c.count_part.ensures.counted after (λ q low high. gives q low high ∙ by-copy (cells w) (rights w) c.args.page_run.now c.in-CopyOf.j c.segments.result.now c.in-CopyOf.is c.segments.ensures.states q)

pub returns-in-Absent-clause-last : goal.returns-in-Absent-clause-last
returns-in-Absent-clause-last c n is =
    c.count_alike.ensures.last ∙ sym (by-origin (cells c.args.self.now) (rights c.args.self.now) c.args.page_run.now Absent n c.in-Absent.is)

pub returns-in-Zeros-clause-last : goal.returns-in-Zeros-clause-last
returns-in-Zeros-clause-last c n is =
    c.count_alike-in-Zeros.ensures.last ∙ ap Some c.new_state.ensures ∙ sym (by-origin (cells c.args.self.now) (rights c.args.self.now) c.args.page_run.now Zeros n c.in-Zeros.is)

pub returns-in-Common-clause-last : goal.returns-in-Common-clause-last
returns-in-Common-clause-last c n is =
    c.count_alike-in-Common.ensures.last ∙ ap Some c.new_state-in-Common.ensures ∙ sym (by-origin (cells c.args.self.now) (rights c.args.self.now) c.args.page_run.now (Common c.in-Common.g) n c.in-Common.is)

pub returns-in-CopyOf-clause-last : goal.returns-in-CopyOf-clause-last
returns-in-CopyOf-clause-last c n is =
    let w = c.args.self.now in
    c.count_part.ensures.last n is ∙ sym (by-copy (cells w) (rights w) c.args.page_run.now c.in-CopyOf.j c.segments.result.now c.in-CopyOf.is c.segments.ensures.states n)
