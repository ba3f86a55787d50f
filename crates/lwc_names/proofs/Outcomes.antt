-- What steps leave, under other numbers.
use Rattle.std.specs.Prelude.{ℕ}
use Rattle.std.specs.Option.{option_map}
use Rattle.kernel_core.specs.Step.{AfterStep, Outcome}
use Rattle.lwc_names.specs.Machines.{shifted_environment, shifted_reply, shifted_serve, shifted_thread}

module _ (r : ℕ) where
  abbrev pub shifted_outcome : Outcome → Outcome
  shifted_outcome o = record { thread = shifted_thread r o.thread; environment = shifted_environment r o.environment }

  abbrev pub shifted_after : AfterStep → AfterStep
  shifted_after a = record {
    thread = shifted_thread r a.thread;
    environment = shifted_environment r a.environment;
    serve = option_map (shifted_serve r) a.serve;
    finished = option_map (shifted_reply r) a.finished;
  }
