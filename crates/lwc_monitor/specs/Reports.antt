-- The report of a run under traps.
use Rattle.std.specs.Prelude.{ℕ, List, ◌++◌}
use Rattle.std.specs.FinMap as fm
use Rattle.std.specs.List.{flat_map}
use Rattle.kernel_core.specs.Runs.{frames_of}
use Rattle.kernel_core.specs.Start.{Inputs, start}
use Rattle.lwc_monitor.specs.Steps.{Monitored, kept_under, peak_under, run_under, unmonitored}
use Rattle.lwc_monitor.specs.Traps.{Traps}
use Rattle.lwc_text.specs.Lines.{groups_line, tail_lines, trap_line}
use Rattle.lwc_text.specs.Report.{contexts_text, replies_text, threads_text}

-- the lines of the traps, in the order of the trapped contexts
unfoldable pub traps_text : Traps → List ℕ
traps_text traps = flat_map (λ e. trap_line e.0 e.1) (fm.entries traps)

-- the report of a machine under traps: its own, with the traps after the contexts
unfoldable pub report_under : Monitored → ℕ → List ℕ → List ℕ
report_under s most steps =
    threads_text s.machine ++ contexts_text s.machine.environment.world ++ traps_text s.traps
    ++ groups_line (fm.len s.machine.environment.world.groups) ++ replies_text s.machine
    ++ tail_lines s.machine.environment.channels.console (frames_of s.machine) most steps

-- a run under traps begins without one
abbrev pub begun : Inputs → Monitored
begun inputs = unmonitored (start inputs)

-- the report of the run of these steps
abbrev pub report_after_under : Inputs → List ℕ → List ℕ
report_after_under inputs steps =
    let s = begun inputs in report_under (run_under s steps) (peak_under s steps) steps

-- the report of a schedule's steps, as far as they are kept
unfoldable pub monitored_text : Inputs → List ℕ → List ℕ
monitored_text inputs schedule = report_after_under inputs (kept_under (begun inputs) schedule)
