-- The whole machine: its threads, what they have in common, and the instructions.
use Rattle.std.specs.Prelude.{ℕ, ◌+◌, ◌-◌, ◌*◌, Bool, true, false, List, [], Option, None, Some, length, map}
use Rattle.std.specs.Prelude.{slice_get, slice_index_or}
use Rattle.std.specs.List.{range_with_len, sum_by}
use Rattle.std.specs.Option.{option_map_or}
use Rattle.guest_isa.specs.declared.instr.Instr.{Instr}
use Rattle.kernel_core.specs.declared.thread.Thread.{Thread}
use Rattle.lwc_base.specs.Channels.{Channels}
use Rattle.lwc_base.specs.World.{World}
use Rattle.lwc_types.specs.declared.fault.ThreadStatus.{ThreadStatus}
use Rattle.lwc_types.specs.declared.fault.ThreadStatus.TheVariants.{Idle, Running, Done, Faulted}
use Rattle.lwc_types.specs.declared.name.Name.{Name}
use Rattle.snapshot_host.specs.declared.finishing.Finished.{Finished}

-- what the threads have in common: the world, and what calls read and write beside it
pub record Environment : Type 0 where
  pub world : World
  pub channels : Channels

-- a serve: the number of workers, the steps that each request may take, the number of the next request, and
-- what is recorded of each request that is finished
pub record Serve : Type 0 where
  pub workers : ℕ
  pub budget : ℕ
  pub next : ℕ
  pub replies : List (Option Finished)

-- the machine: its threads, what they have in common, the instructions, and the serve if it is one
pub record Machine : Type 0 where
  pub threads : List Thread
  pub environment : Environment
  pub text : List Instr
  pub serve : Option Serve

-- the context in which the worker of a number waits
abbrev pub home_of : ℕ → Name
home_of t = record { job = 0; k = t + 1 }

-- the homes of this number of workers
abbrev pub homes_of : ℕ → List Name
homes_of workers = map home_of (range_with_len 0 workers)

-- the homes of a serve; a run has none
abbrev pub homes : Option Serve → List Name
homes None = []
homes (Some s) = homes_of s.workers

-- whether a thread of this status has ended
abbrev pub has_ended : ThreadStatus → Bool
has_ended Idle = false
has_ended Running = false
has_ended (Done code) = true
has_ended (Faulted fault) = true

-- whether the thread of this number has ended; a number that no thread has counts as ended
unfoldable pub is_ended : Machine → ℕ → Bool
is_ended m t = option_map_or (λ x. has_ended x.status) (slice_get m.threads t) true

-- the number of steps that a thread may still make, beside this number more to finish: its budget while it
-- runs, and 1 while it is idle
abbrev pub steps_left : ℕ → ℕ → ThreadStatus → ℕ
steps_left more budget Running = budget + more
steps_left more budget Idle = 1
steps_left more budget (Done code) = 0
steps_left more budget (Faulted fault) = 0

-- the steps of a worker after its request's: one in which it finds the next request or ends
abbrev pub steps_after : Option Serve → ℕ
steps_after None = 0
steps_after (Some s) = 1

-- the steps for requests that are not begun: for each its budget, and one in which it is begun
abbrev pub steps_for_requests : Option Serve → ℕ → ℕ
steps_for_requests None requests = 0
steps_for_requests (Some s) requests = (requests - s.next) * (s.budget + 1)

-- the number of steps that all threads may still make
unfoldable pub work : Machine → ℕ
work m =
    sum_by (λ x. steps_left (steps_after m.serve) x.budget x.status) m.threads
    + steps_for_requests m.serve (length m.environment.channels.requests)

-- what is recorded of a request of a serve
abbrev pub in_serve : Option Serve → ℕ → Option Finished
in_serve None r = None
in_serve (Some s) r = slice_index_or s.replies r None

-- what is recorded of a request of a serve, where one is given
abbrev pub recorded : Option Serve → Option ℕ → Option Finished
recorded serve None = None
recorded serve (Some r) = in_serve serve r

-- what is recorded of a request, if it is finished
unfoldable pub reply_of : Machine → ℕ → Option Finished
reply_of m r = in_serve m.serve r
