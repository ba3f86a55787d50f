use Rattle.std.proofs.Common.{◌≡◌, ◌++◌, take}
use Rattle.std.specs.List.{flat_map}
use Rattle.lwc_guard.specs.Reports.{fuel_of, guard_line}
use Rattle.lwc_guard.proofs.lines.guard_lines.Given as goal

abbrev pub invariant-traps : goal.invariant-traps
invariant-traps l = l.out.items ≡ l.initial.out.items ++ flat_map (λ e. guard_line (fuel_of l.guards e.0) e.0 e.1) (take l.pair-index l.pair-items)
