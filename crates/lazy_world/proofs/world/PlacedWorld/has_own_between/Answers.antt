use Rattle.std.proofs.Common.{◌∙◌, ⊎_elim, arith, sym}
use Rattle.std.proofs.lemmas.Bool.{cases_lt}
use Rattle.lwc_types.specs.declared.key.Key.TheVariants.{Page}
use Rattle.lazy_world.specs.Cells.{rows_of}
use Rattle.lazy_world.specs.Seen.{rights, rows}
use Rattle.lazy_world.proofs.world.PlacedWorld.has_own_between.Goals as goal

pub returns-then-is_of_own-clause-some : goal.returns-then-is_of_own-clause-some
unfolding rows rights rows_of
returns-then-is_of_own-clause-some c = λ _.
    let places = c.args.self.now.places in
    let p = c.pages.p in (
      p,
      c.pages.invariant.first,
      c.pages-test.true,
      sym (c.is_of_own.ensures p (rows places c.args.place (Page p)) (rights places c.args.place p) c.run_at-state.ensures.state) ∙ c.if-is_of_own.true,
    )

pub pages-preserved : goal.pages-preserved
unfolding rows rights rows_of
pages-preserved c =
    let places = c.args.self.now.places in
    let inv = c.pages.invariant in
    let run = c.run_at-state.ensures in
    record {
      first = omega (arith, inv.first, run.past);
      inside = run.within;
      none = λ q low high.
          ⊎_elim (λ before. inv.none q low before)
          (λ here. sym (c.is_of_own.ensures q (rows places c.args.place (Page q)) (rights places c.args.place q) (run.state ∙ sym (run.alike q here high))) ∙ c.if-is_of_own.false)
          (cases_lt q c.pages.p);
    }
