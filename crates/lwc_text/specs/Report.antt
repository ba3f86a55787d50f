-- The report of a run or a serve.
use Rattle.std.specs.Prelude.{◌≡◌, ◌≤◌, ℕ, List, [], ◌++◌, length, take}
use Rattle.std.specs.FinMap as fm
use Rattle.std.specs.List.{flat_map, range_with_len}
use Rattle.std.specs.Option.{option_map_or}
use Rattle.kernel_core.specs.Kernel.{view_of}
use Rattle.kernel_core.specs.Machine.{Machine, reply_of}
use Rattle.kernel_core.specs.Runs.{frames_of, kept, peak, run}
use Rattle.kernel_core.specs.Start.{Inputs, start}
use Rattle.lwc_base.specs.Summaries.{summary_of}
use Rattle.lwc_base.specs.World.{World}
use Rattle.lwc_text.specs.Lines.{context_line, groups_line, reply_line, tail_lines, thread_lines}

-- the lines of the thread of a number, if there is one
abbrev pub thread_at : Machine → ℕ → List ℕ
thread_at m t = option_map_or (thread_lines t) (view_of m t) []

-- the lines of all threads, in order
unfoldable pub threads_text : Machine → List ℕ
threads_text m = flat_map (thread_at m) (range_with_len 0 (length m.threads))

-- the lines of all live contexts, in the order of names
unfoldable pub contexts_text : World → List ℕ
contexts_text w = flat_map (λ c. context_line c (summary_of w c)) (fm.keys w.contexts)

-- the lines of the replies to all requests, in order
unfoldable pub replies_text : Machine → List ℕ
replies_text m =
    flat_map (λ r. reply_line r (reply_of m r)) (range_with_len 0 (length m.environment.channels.requests))

-- the report of a machine, with the most frames that were in use and the steps that led to it
unfoldable pub report_of : Machine → ℕ → List ℕ → List ℕ
report_of m most steps =
    threads_text m ++ contexts_text m.environment.world ++ groups_line (fm.len m.environment.world.groups)
    ++ replies_text m ++ tail_lines m.environment.channels.console (frames_of m) most steps

-- the report of these steps from a machine
abbrev pub text_of : Machine → List ℕ → List ℕ
text_of m steps = report_of (run m steps) (peak m steps) steps

-- the report of a machine without the lines of replies
unfoldable pub rest_of : Machine → ℕ → List ℕ → List ℕ
rest_of m most steps =
    threads_text m ++ contexts_text m.environment.world ++ groups_line (fm.len m.environment.world.groups)
    ++ tail_lines m.environment.channels.console (frames_of m) most steps

-- the report of the run of these steps from the start
abbrev pub report_after : Inputs → List ℕ → List ℕ
report_after inputs steps = text_of (start inputs) steps

-- the same without the lines of replies
abbrev pub rest_after : Inputs → List ℕ → List ℕ
rest_after inputs steps = rest_of (run (start inputs) steps) (peak (start inputs) steps) steps

-- the lines of the same report, those of replies first
unfoldable pub stream_text : Inputs → List ℕ → List ℕ
stream_text inputs steps = replies_text (run (start inputs) steps) ++ rest_after inputs steps

-- the report of the steps of a schedule that are kept
unfoldable pub report_of_schedule : Inputs → List ℕ → List ℕ
report_of_schedule inputs schedule = report_after inputs (kept (start inputs) schedule)

-- steps are those that are kept of some of a schedule's first steps
abbrev pub IsOfSome : Machine → List ℕ → List ℕ → Type 0
IsOfSome m schedule steps = (n : ℕ) × (n ≤ length schedule) × (steps ≡ kept m (take n schedule))
