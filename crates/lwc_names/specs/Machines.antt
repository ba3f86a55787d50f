-- Machines under other numbers of requests and jobs.
use Rattle.std.specs.Prelude.{◌≡◌, ℕ, ◌+◌, ◌≤◌, ◌++◌, None, Some, map, replicate, slice_get}
use Rattle.std.specs.Option.{option_map}
use Rattle.kernel_core.specs.Machine.{Environment, Machine, Serve}
use Rattle.kernel_core.specs.declared.thread.Thread.{Thread}
use Rattle.lwc_types.specs.declared.fault.ThreadStatus.TheVariants.{Running}
use Rattle.lwc_names.specs.Shifts.{shifted_channels, shifted_job, shifted_name, shifted_world}
use Rattle.snapshot_host.specs.declared.finishing.Finished.{Finished}

module _ (r : ℕ) where
  -- a thread: in the other context, for the other job, and else the same
  abbrev pub shifted_thread : Thread → Thread
  shifted_thread x = record x { context = shifted_name r x.context; job = shifted_job r x.job }

  -- what threads have in common
  abbrev pub shifted_environment : Environment → Environment
  shifted_environment e =
      record { world = shifted_world r e.world; channels = shifted_channels r e.channels }

  -- a recorded reply: that of the request this many numbers further on, with the same status and bytes
  abbrev pub shifted_reply : Finished → Finished
  shifted_reply f = record f { request = f.request + r }

  -- a serve: behind this many requests that are taken, and of which nothing is recorded
  abbrev pub shifted_serve : Serve → Serve
  shifted_serve s = record s {
    next = s.next + r;
    replies = replicate r None ++ map (option_map shifted_reply) s.replies;
  }

  -- a machine: of the same text
  unfoldable pub shifted_machine : Machine → Machine
  shifted_machine m = record {
    threads = map shifted_thread m.threads;
    environment = shifted_environment m.environment;
    text = m.text;
    serve = option_map shifted_serve m.serve;
  }

-- each running thread acts for a job other than 0
abbrev pub EachActsForItsJob : Machine → Type 0
EachActsForItsJob m =
    (t : ℕ) (x : Thread) → slice_get m.threads t ≡ Some x → x.status ≡ Running → 1 ≤ x.job
