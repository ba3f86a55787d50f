use Rattle.std.proofs.Common.{◌≡◌, vec_len}
use Rattle.lwc_base.specs.Capabilities.{is_named}
use Rattle.whole_world.specs.Sharing.{key_of}
use Rattle.whole_world.proofs.Taking.{IsTakenBelow}
use Rattle.whole_world.proofs.overlaying.take_cells.Given as goal

abbrev pub invariant-loop-n : goal.invariant-loop-n
invariant-loop-n g l = record {
  many : vec_len l.mine ≡ vec_len l.initial.mine;
  others : vec_len l.theirs ≡ vec_len l.initial.mine;
  taken : IsTakenBelow (λ n. is_named l.spec (key_of l.kind n)) l.n l.initial.mine.items l.initial.theirs.items l.mine.items l.theirs.items;
}
