use Rattle.std.proofs.Common.{◌∙◌, ◌*◌, ℕ, ap, arith, sym}
use Rattle.arrayvec.specs.ArrayVec.{array_vec_len}
use Rattle.res_spec.specs.Items.{item_of, spelled_at}
use Rattle.res_spec.specs.declared.items.TheConstants.{ITEM_BYTES}
use Rattle.res_spec.proofs.SpelledItems.{keeps_none, keeps_one}
use Rattle.res_spec.proofs.items.items_in.Goals as goal
use Rattle.res_spec.proofs.items.items_in.Goals.{in-Some, in_default}

pub loop-i-preserved : goal.loop-i-preserved
loop-i-preserved c =
    let item = item_of c.args.call in
    let place = λ (i : ℕ). spelled_at c.args.bytes.now (i * ITEM_BYTES) in
    elim c.match-item_at.branch [
      | in-Some w ↦ record {
        so_far = ap (λ v. v.items) w.items-is ∙ w.push.ensures.items
            ∙ keeps_one item place c.loop-i.i w.in-Some.item c.loop-i.items.items (sym c.item_at.ensures ∙ w.in-Some.is) c.loop-i.invariant.so_far;
        few = let e = ap array_vec_len w.items-is in omega arith;
      }
      | in_default w ↦ record {
        so_far = ap (λ v. v.items) w.items-is
            ∙ keeps_none item place c.loop-i.i c.loop-i.items.items (sym c.item_at.ensures ∙ w.in_default.is) c.loop-i.invariant.so_far;
        few = let e = ap array_vec_len w.items-is in omega arith;
      }
    ]
