use Rattle.std.proofs.Common.{◌≡◌, ◌∙◌, ◌≤◌, ap, arith, refl, sym, subst, cond, Bool, true, false}
use mir.Val.{bool_byte}
use Rattle.whole_world.specs.Holders.{begins_at, begins_here, count_of_ranges}
use Rattle.whole_world.proofs.Runs.{before_next, ranges-end, ranges-next}
use Rattle.whole_world.proofs.ranges.count_ranges.Goals as goal

one_where : (b : Bool) → bool_byte b ≡ cond b 1 0
one_where true = refl
one_where false = refl

at_most_one : (b : Bool) → bool_byte b ≤ 1
at_most_one true = omega arith
at_most_one false = omega arith

pub loop-p-preserved : goal.loop-p-preserved
loop-p-preserved g c =
    let one : c.from-count.result ≤ 1 = subst (λ n. n ≤ 1) (sym c.from-count.ensures) (at_most_one c.begins_here.result) in
    record {
      few = omega (arith, one, c.loop-p.invariant.few);
      counted = λ each known.
          let before = c.loop-p.invariant.counted each known in
          let here = known c.loop-p.p _ c.loop-p-test.true c.side-here.ensures in
          let begins : c.from-count.result ≡ cond (begins_at each c.loop-p.p) 1 0 =
          c.from-count.ensures ∙ ap bool_byte (c.begins_here.ensures ∙ (λ i. begins_here (before.0 i) (here i))) ∙ one_where _ in
          (here ∙ sym (before_next each c.loop-p.p), omega (arith, begins, before.1, ranges-next each c.loop-p.p c.args.pages c.loop-p-test.true));
    }

pub returns : goal.returns
unfolding count_of_ranges
returns g c = λ each known.
    let counted = c.loop-p.invariant.counted each known in
    omega (arith, counted.1, ranges-end each c.loop-p.p c.args.pages c.loop-p-test.false)
