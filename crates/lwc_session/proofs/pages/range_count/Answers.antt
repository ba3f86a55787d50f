use Rattle.std.proofs.Common.{◌≡◌, ◌+◌, ◌<◌, Bool, ap, arith, cond, get_or, ℕ, length, sym, ◌∙◌}
use Rattle.guest_image.specs.Limits.{page_numbers}
use Rattle.lwc_session.proofs.PageLists.{count_all, count_more}
use Rattle.lwc_session.proofs.pages.range_count.Goals as goal
use Rattle.lwc_session.proofs.pages.range_count.Goals.{then-begins, else-begins}

pub pages-preserved : goal.pages-preserved
pages-preserved c =
    let inside : c.pages.i < length c.args.pages.now = omega arith in
    let is = c.begins.ensures in
    let now : c.if-begins.count ≡ cond c.begins.result (c.pages.count + 1) c.pages.count = elim c.if-begins.branch [
      | then-begins w ↦ w.count-is ∙ ap (λ (b : Bool). cond b (c.pages.count + 1) c.pages.count) (sym w.if-begins.true)
      | else-begins w ↦ w.count-is ∙ ap (λ (b : Bool). cond b (c.pages.count + 1) c.pages.count) (sym w.if-begins.false)
    ] in
    record {
      few = elim c.if-begins.branch [ then-begins w ↦ omega (arith, w.count-is, c.pages.invariant.few) | else-begins w ↦ omega (arith, w.count-is, c.pages.invariant.few) ];
      all = count_more c.pages.before c.args.pages.now c.pages.i c.pages.count c.if-begins.count c.index-pages-i.result c.begins.result inside is now c.pages.invariant.all;
    }

pub returns : goal.returns
returns c = omega (arith, c.pages.invariant.all, count_all c.pages.before c.args.pages.now c.pages.i (omega arith))
