use Rattle.std.proofs.Common.{◌≡◌, ◌≢◌, ◌<◌, ℕ, [], length, get_or, sym, ap, subst, ◌∙◌, arith, length-set, get_or-set_other}
use Rattle.std.proofs.lemmas.List.{get_or_read}
use Rattle.turnstile.specs.Passes.{Held}
use Rattle.turnstile.proofs.Passing.{all_after}
use Rattle.stream_suite.proofs.turns.one_turn_each.Goals as goal

pub loop-i-preserved : goal.loop-i-preserved
loop-i-preserved g c =
    let items = c.loop-i.passes.items in
    let i = c.loop-i.i in
    let after = c.turns_so_far-sum.new.pass in
    let long = length-set items i after in
    let inside : i < length items = let test = c.loop-i-test.true in let many = c.loop-i.invariant.many in let len = c.len-i-end.ensures in omega (arith, c.args.passes.now.ok.0) in
    let before = c.index_mut-pass.result.now in
    let number : after.number ≡ (get_or items i after).number = ap (λ (p : Held ℕ). p.number) c.turns_so_far-sum.ensures.pass ∙ (c.with_turn.ensures.number ∙ ap (λ (p : Held ℕ). p.number) (get_or_read items i before inside c.index_mut-pass.ensures.value after)) in record {
      all = all_after c.args.gate.now items i after inside c.turns_so_far-sum.ensures.ours number c.loop-i.invariant.all;
      many = long ∙ c.loop-i.invariant.many;
      new = λ k d later below. let other : k ≢ i = λ same. omega arith in
          subst (λ (p : Held ℕ). (p.seen ≡ []) × (p.number < c.args.gate.now.name)) (sym (get_or-set_other items i k after d other)) (c.loop-i.invariant.new k d (omega arith) (omega arith));
    }
