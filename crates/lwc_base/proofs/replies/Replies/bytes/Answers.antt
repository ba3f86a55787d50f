use Rattle.std.proofs.Common.{◌≡◌, ◌∙◌, ap, arith, get_or, length, sym, []}
use Rattle.lwc_base.proofs.RepliesKept.{in-short, in-long, seen-at-short, seen-at-long}
use Rattle.lwc_base.proofs.replies.Replies.bytes.Goals as goal

pub index-requires : goal.index-requires
index-requires c = in-long _ _ _ c.self.view_is c.self.invariant c.args.request c.requires

pub index-requires-then-is_empty : goal.index-requires-then-is_empty
index-requires-then-is_empty c = in-short _ _ _ c.self.view_is c.self.invariant c.args.request c.requires

is-short : (c : goal.After-as_slice) → get_or c.args.self.now c.args.request [] ≡ c.index-then-is_empty.result.now
is-short c =
    seen-at-short _ _ _ c.self.view_is c.self.invariant c.args.request c.requires _ _ c.index-then-is_empty.ensures c.index.ensures
    (grind arith)

is-long : (c : goal.Else-is_empty) → get_or c.args.self.now c.args.request [] ≡ c.index.result.now
is-long c = seen-at-long _ _ _ c.self.view_is c.self.invariant c.args.request c.requires _ c.index.ensures (grind arith)

pub returns-then-is_empty-clause-bytes : goal.returns-then-is_empty-clause-bytes
returns-then-is_empty-clause-bytes c = c.as_slice.ensures.bytes ∙ sym (is-short c)

pub returns-then-is_empty-clause-few : goal.returns-then-is_empty-clause-few
returns-then-is_empty-clause-few c = omega (arith, ap length (is-short c), c.as_slice.ensures.few)

pub returns-else-is_empty-clause-bytes : goal.returns-else-is_empty-clause-bytes
returns-else-is_empty-clause-bytes c = c.as_slice-long.ensures.bytes ∙ sym (is-long c)

pub returns-else-is_empty-clause-few : goal.returns-else-is_empty-clause-few
returns-else-is_empty-clause-few c = rw (is-long c) c.as_slice-long.ensures.few
