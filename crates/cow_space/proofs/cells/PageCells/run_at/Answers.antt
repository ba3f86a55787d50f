use Rattle.std.proofs.Common.{◌≡◌, ◌≢◌, ◌≤◌, ◌∙◌, ℕ, ap, subst, arith, Option}
use Rattle.lwc_types.specs.declared.limits.TheConstants.{MOST_PAGES, MOST_RANGES}
use Rattle.range_map.specs.Kinds.{ranges}
use Rattle.range_map.specs.declared.segment.PageState.{PageState}
use Rattle.cow_space.proofs.Views.{kinds-in, read-states}
use Rattle.cow_space.proofs.cells.PageCells.run_at.Goals as goal

pub index-requires : goal.index-requires
index-requires c = omega (arith, kinds-in c.args.self.now c.args.place c.requires.place)

pub returns-clause-alike : goal.returns-clause-alike
returns-clause-alike c q low high =
    subst (λ (f : ℕ → Option PageState). f q ≡ f c.args.page) (read-states c.args.self.now c.args.place _ c.requires.place c.index.ensures) (c.run_at.ensures.alike q low high)

pub returns-clause-other : goal.returns-clause-other
returns-clause-other c early =
    let same = read-states c.args.self.now c.args.place c.index.result.now c.requires.place c.index.ensures in
    subst (λ (f : ℕ → Option PageState). f c.run_at.result.1 ≢ f c.args.page) same (c.run_at.ensures.other early)

pub returns-clause-few : goal.returns-clause-few
returns-clause-few c =
    let same = read-states c.args.self.now c.args.place c.index.result.now c.requires.place c.index.ensures in
    subst (λ (f : ℕ → Option PageState). ranges MOST_PAGES f ≤ MOST_RANGES) same c.run_at.ensures.few

pub returns-clause-state : goal.returns-clause-state
returns-clause-state c =
    c.run_at.ensures.state ∙ ap (λ (f : ℕ → Option PageState). f c.args.page) (read-states c.args.self.now c.args.place _ c.requires.place c.index.ensures)
