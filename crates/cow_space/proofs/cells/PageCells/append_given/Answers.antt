use Rattle.std.proofs.Common.{◌≤◌, ℕ, ◌∙◌, ap, subst, sym, Option, Some}
use Rattle.lwc_types.specs.declared.limits.TheConstants.{MOST_PAGES, MOST_RANGES}
use Rattle.range_map.specs.declared.segment.PageState.{PageState}
use Rattle.range_map.specs.Kinds.{ranges, state_at}
use Rattle.cow_space.specs.Changes.{given_states, states_with}
use Rattle.cow_space.specs.declared.page_runs.Origin.TheVariants.{Absent, Zeros, Common}
use Rattle.cow_space.specs.Seen.{cells, rights}
use Rattle.cow_space.proofs.Stretches.{by-copy, by-origin, put-none, put-same}
use Rattle.cow_space.proofs.cells.PageCells.append_given.Goals as goal

pub returns-in-Absent : goal.returns-in-Absent
returns-in-Absent c =
    let w = c.args.self.now in
    let run = c.args.page_run.now in
    put-none (state_at c.args.kinds.now) run.range.from run.range.to (given_states (cells w) (rights w) run) (λ p. by-origin (cells w) (rights w) run Absent p c.in-Absent.is) c.requires.clear

pub append-requires-clause-few : goal.append-requires-clause-few
append-requires-clause-few c =
    let w = c.args.self.now in
    let run = c.args.page_run.now in
    subst (λ (f : ℕ → Option PageState). ranges MOST_PAGES f ≤ MOST_RANGES)
    (put-same (state_at c.args.kinds.now) run.range.from run.range.to (given_states (cells w) (rights w) run) (λ _. Some c.new_state.result)
    (λ q. by-origin (cells w) (rights w) run Zeros q c.in-Zeros.is ∙ ap Some (sym c.new_state.ensures))) c.requires.few

pub returns-in-Zeros : goal.returns-in-Zeros
returns-in-Zeros c q =
    let w = c.args.self.now in
    let run = c.args.page_run.now in
    c.append.ensures q
    ∙ ap (λ (f : ℕ → Option PageState). f q) (put-same (state_at c.args.kinds.now) run.range.from run.range.to (λ _. Some c.new_state.result) (given_states (cells w) (rights w) run)
    (λ p. ap Some c.new_state.ensures ∙ sym (by-origin (cells w) (rights w) run Zeros p c.in-Zeros.is)))

pub append-requires-in-Common-clause-few : goal.append-requires-in-Common-clause-few
append-requires-in-Common-clause-few c =
    let w = c.args.self.now in
    let run = c.args.page_run.now in
    subst (λ (f : ℕ → Option PageState). ranges MOST_PAGES f ≤ MOST_RANGES)
    (put-same (state_at c.args.kinds.now) run.range.from run.range.to (given_states (cells w) (rights w) run) (λ _. Some c.new_state-in-Common.result)
    (λ q. by-origin (cells w) (rights w) run (Common c.in-Common.g) q c.in-Common.is ∙ ap Some (sym c.new_state-in-Common.ensures))) c.requires.few

pub returns-in-Common : goal.returns-in-Common
returns-in-Common c q =
    let w = c.args.self.now in
    let run = c.args.page_run.now in
    c.append-in-Common.ensures q
    ∙ ap (λ (f : ℕ → Option PageState). f q) (put-same (state_at c.args.kinds.now) run.range.from run.range.to (λ _. Some c.new_state-in-Common.result) (given_states (cells w) (rights w) run)
    (λ p. ap Some c.new_state-in-Common.ensures ∙ sym (by-origin (cells w) (rights w) run (Common c.in-Common.g) p c.in-Common.is)))

pub append_part-requires-clause-few : goal.append_part-requires-clause-few
append_part-requires-clause-few c =
    let w = c.args.self.now in
    let run = c.args.page_run.now in
    subst (λ (f : ℕ → Option PageState). ranges MOST_PAGES f ≤ MOST_RANGES)
    (put-same (state_at c.args.kinds.now) run.range.from run.range.to (given_states (cells w) (rights w) run) (states_with c.segments.result.now run.right)
    (by-copy (cells w) (rights w) run c.in-CopyOf.j c.segments.result.now c.in-CopyOf.is c.segments.ensures.states)) c.requires.few

pub returns-in-CopyOf : goal.returns-in-CopyOf
returns-in-CopyOf c q =
    let w = c.args.self.now in
    let run = c.args.page_run.now in
    c.append_part.ensures q
    ∙ ap (λ (f : ℕ → Option PageState). f q) (put-same (state_at c.args.kinds.now) run.range.from run.range.to (states_with c.segments.result.now run.right) (given_states (cells w) (rights w) run)
    (λ p. sym (by-copy (cells w) (rights w) run c.in-CopyOf.j c.segments.result.now c.in-CopyOf.is c.segments.ensures.states p)))
