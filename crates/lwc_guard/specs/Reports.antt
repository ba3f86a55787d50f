-- The report of a run under guards.
use Rattle.std.specs.Prelude.{ℕ, List, ◌++◌, Option, None, Some, codes, decimal}
use Rattle.std.specs.FinMap as fm
use Rattle.std.specs.List.{flat_map}
use Rattle.std.specs.Option.{option_map}
use Rattle.kernel_core.specs.Runs.{frames_of}
use Rattle.kernel_core.specs.Start.{Inputs, start}
use Rattle.lwc_guard.specs.Guards.{Guards}
use Rattle.lwc_guard.specs.Steps.{Guarded, kept_guarded, peak_guarded, run_guarded, unguarded}
use Rattle.lwc_monitor.specs.Traps.{Traps}
use Rattle.lwc_text.specs.Lines.{groups_line, name_text, tail_lines, trap_line}
use Rattle.lwc_text.specs.Report.{contexts_text, replies_text, threads_text}
use Rattle.lwc_types.specs.declared.name.Name.{Name}

-- a guarded context, its monitor, and its fuel
unfoldable pub fuel_line : Name → Name → ℕ → List ℕ
fuel_line trapped monitor fuel =
    codes "trap " ++ name_text trapped ++ codes " by " ++ name_text monitor ++ codes " fuel " ++ decimal fuel
    ++ codes "\n"

-- the line of a trapped context and its monitor, by its fuel, if it has some
abbrev pub guard_line : Option ℕ → Name → Name → List ℕ
guard_line None d m = trap_line d m
guard_line (Some fuel) d m = fuel_line d m fuel

-- the fuel of a context, if it is guarded
abbrev pub fuel_of : Guards → Name → Option ℕ
fuel_of guards d = option_map (λ g. g.fuel) (fm.get guards d)

-- the lines of the traps, in the order of the trapped contexts
unfoldable pub guards_text : Traps → Guards → List ℕ
guards_text traps guards = flat_map (λ e. guard_line (fuel_of guards e.0) e.0 e.1) (fm.entries traps)

-- the report of a machine under guards: its own, with the traps after the contexts
unfoldable pub report_guarded : Guarded → ℕ → List ℕ → List ℕ
report_guarded s most steps =
    threads_text s.machine ++ contexts_text s.machine.environment.world ++ guards_text s.traps s.guards
    ++ groups_line (fm.len s.machine.environment.world.groups) ++ replies_text s.machine
    ++ tail_lines s.machine.environment.channels.console (frames_of s.machine) most steps

-- a run under guards begins without one
abbrev pub begun : Inputs → Guarded
begun inputs = unguarded (start inputs)

-- the report of the run of these steps
abbrev pub report_after_guarded : Inputs → List ℕ → List ℕ
report_after_guarded inputs steps =
    let s = begun inputs in report_guarded (run_guarded s steps) (peak_guarded s steps) steps

-- the report of a schedule's steps, as far as they are kept
unfoldable pub guarded_text : Inputs → List ℕ → List ℕ
guarded_text inputs schedule = report_after_guarded inputs (kept_guarded (begun inputs) schedule)
