use Rattle.std.proofs.Common.{ℕ}
use Rattle.std.specs.Option.{option_map}
use Rattle.kernel_core.specs.Kernel.{machine_of}
use Rattle.kernel_core.specs.Machine.{work}
use Rattle.lwc_session.proofs.Courses.{IsServing}
use Rattle.lwc_session.proofs.serving.serve_alone.Given as goal

-- the steps so far were made, and they leave what was kept of them
abbrev pub invariant-steps : goal.invariant-steps
invariant-steps g l = IsServing l.initial.kernel.inputs l.kernel (option_map (λ v. v.items) l.kept)

-- each step leaves less to do
abbrev pub decreases-steps : goal.decreases-steps
decreases-steps g l = work (machine_of l.kernel)
