use Rattle.std.proofs.Common.{◌≡◌, ◌++◌, take}
use Rattle.std.specs.List.{flat_map}
use Rattle.lwc_text.specs.Lines.{trap_line}
use Rattle.lwc_monitor.proofs.monitored.trap_lines.Given as goal

abbrev pub invariant-traps : goal.invariant-traps
invariant-traps l = l.out.items ≡ l.initial.out.items ++ flat_map (λ e. trap_line e.0 e.1) (take l.pair-index l.pair-items)
