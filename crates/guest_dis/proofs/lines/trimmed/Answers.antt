use Rattle.std.proofs.Common.{◌≡◌, ◌+◌, ◌-◌, take, get_or, sym, ap, ◌∙◌, arith}
use Rattle.std.proofs.lemmas.Grind.{common_steps}
use Rattle.guest_dis.specs.Listing.{trimmed}
use Rattle.guest_dis.proofs.Trims.{one_less, no_less}
use Rattle.guest_dis.proofs.Texts.{all_bytes}
use Rattle.guest_dis.proofs.lines.trimmed.Goals.{then-loop-count-test+else-bytes-count-eq0, else-loop-count-test}
use Rattle.guest_dis.proofs.lines.trimmed.Goals as goal

pub loop-count-preserved : goal.loop-count-preserved
loop-count-preserved c =
    let n = c.loop-count.count in
    let bytes = c.args.bytes.now in
    let zero : get_or bytes (n - 1) 0 ≡ 0 = grind (arith, common_steps) in
    let next : n - 1 + 1 ≡ n = grind (arith, common_steps) in
    record {
      same = one_less bytes (n - 1) (grind (arith, common_steps)) zero ∙ ap (λ k. trimmed (take k bytes)) next ∙ c.loop-count.invariant.same;
      within = omega (arith, c.loop-count.invariant.within);
    }

pub returns-clause-bytes : goal.returns-clause-bytes
returns-clause-bytes c = all_bytes c.args.bytes.now (λ i. omega (arith, c.type_inv.bytes i))

pub returns-clause-front : goal.returns-clause-front
returns-clause-front c = elim c.loop-count-test.branch [
  | then-loop-count-test+else-bytes-count-eq0 w ↦
      let n = c.loop-count.count in
      let bytes = c.args.bytes.now in
      let next : n - 1 + 1 ≡ n = grind (arith, common_steps) in
      let same = no_less bytes (n - 1) (grind (arith, common_steps)) w.if-bytes-count-eq0.false in
      sym (ap (λ k. take k bytes) next) ∙ sym same ∙ ap (λ k. trimmed (take k bytes)) next ∙ c.loop-count.invariant.same
  | else-loop-count-test w ↦
      let none : c.loop-count.count ≡ 0 = grind (arith, common_steps) in
      ap (λ k. take k c.args.bytes.now) none ∙ sym (ap (λ k. trimmed (take k c.args.bytes.now)) none) ∙ c.loop-count.invariant.same
]
