-- The summary of the replies of a generated server.
use Rattle.std.specs.Prelude.{ℕ, ◌^◌, ◌%◌, ◌==◌, ◌++◌, Bool, false, if◌then◌else◌, nat_lt, codes, count_by, decimal}
use Rattle.std.specs.Prelude.{drop, length, map, take, List, [], Option, Some, None}
use Rattle.std.specs.Int.{from_le_bytes, w64}
use Rattle.std.specs.List.{range_with_len, sum_by}
use Rattle.kernel_core.specs.Machine.{Machine, reply_of}
use Rattle.kernel_core.specs.Runs.{run}
use Rattle.kernel_core.specs.Start.{Inputs, start}
use Rattle.lwc_types.specs.declared.fault.ThreadStatus.{ThreadStatus}
use Rattle.lwc_types.specs.declared.fault.ThreadStatus.TheVariants.{Idle, Running, Done, Faulted}
use Rattle.lwc_gen.specs.declared.totals.Totals.{Totals}
use Rattle.snapshot_host.specs.declared.finishing.Finished.{Finished}

-- a reply: the status that its request ended with, if it has ended, and its bytes
pub record Reply : Type 0 where
  pub status : Option ThreadStatus
  pub bytes : List ℕ

-- whether a request has ended with code 0
abbrev pub is_done : Option ThreadStatus → Bool
is_done (Some (Done code)) = code == 0
is_done (Some (Faulted fault)) = false
is_done (Some Idle) = false
is_done (Some Running) = false
is_done None = false

-- what a reply adds by its first word, and by its second: nothing if it has fewer than 16 bytes
abbrev pub first_word : List ℕ → ℕ
first_word bytes = if nat_lt (length bytes) 16 then 0 else from_le_bytes w64 (take 8 bytes)

abbrev pub second_word : List ℕ → ℕ
second_word bytes = if nat_lt (length bytes) 16 then 0 else from_le_bytes w64 (take 8 (drop 8 bytes))

-- what replies add up to
unfoldable pub totals_of : List Reply → Totals
totals_of replies = record {
  requests = length replies;
  done = count_by (λ r. is_done r.status) replies;
  sum = sum_by (λ r. first_word r.bytes) replies % 2 ^ 64;
  count = sum_by (λ r. second_word r.bytes) replies % 2 ^ 64;
}

-- the line of the summary
unfoldable pub summary_line : ℕ → Totals → List ℕ
summary_line number totals =
    codes "gen " ++ decimal number ++ codes " requests " ++ decimal totals.requests
    ++ codes " done " ++ decimal totals.done ++ codes " sum " ++ decimal totals.sum
    ++ codes " count " ++ decimal totals.count ++ codes "\n"

-- the reply that is recorded of a request: it has no status and no bytes if the request is not finished
abbrev pub recorded_reply : Option Finished → Reply
recorded_reply None = record { status = None; bytes = [] }
recorded_reply (Some finished) = record { status = Some finished.status; bytes = finished.bytes }

-- the replies of a machine, one for each request, in order
unfoldable pub replies_of : Machine → List Reply
replies_of m =
    map (λ r. recorded_reply (reply_of m r)) (range_with_len 0 (length m.environment.channels.requests))

-- the summary of a machine
abbrev pub summary_of : ℕ → Machine → List ℕ
summary_of number m = summary_line number (totals_of (replies_of m))

-- the summary of the run of these steps from the start
abbrev pub summary_after : Inputs → ℕ → List ℕ → List ℕ
summary_after inputs number steps = summary_of number (run (start inputs) steps)
