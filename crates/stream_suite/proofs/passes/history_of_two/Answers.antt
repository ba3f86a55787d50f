use Rattle.stream_suite.proofs.Changing.{all_in_any_order}
use Rattle.stream_suite.proofs.passes.history_of_two.Goals as goal

pub close-kernel-requires-after_bounds : goal.close-kernel-requires-after_bounds
close-kernel-requires-after_bounds c κs within =
    let turns = κs.turns_of_both-turns in
    all_in_any_order κs.in_ok-process.process turns.new.passes.items κs.reverse.new.self.items κs.reverse.ensures.permutation turns.ensures
