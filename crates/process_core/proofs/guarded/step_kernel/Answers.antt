use Rattle.std.proofs.Common.{◌<◌, subst, sym}
use Rattle.kernel_core.specs.Start.{Inputs, thread_count}
use Rattle.process_core.proofs.Stepping.{some_room, stepped_inputs}
use Rattle.process_core.proofs.guarded.step_kernel.Goals as goal

pub make_step-requires-clause-room : goal.make_step-requires-clause-room
make_step-requires-clause-room g c κs within going = some_room c.args.kernel.now c.args.thread c.was_opened.ensures going c.requires.room

pub note_turn-requires-after_bounds : goal.note_turn-requires-after_bounds
note_turn-requires-after_bounds g c κs within =
    subst (λ (i : Inputs). c.args.thread < thread_count i) (sym (stepped_inputs _ _ _ c.requires.going c.in-Ok.ensures.step)) c.requires.within
