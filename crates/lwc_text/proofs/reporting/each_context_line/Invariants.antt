use Rattle.std.proofs.Common.{◌≡◌, ◌++◌, take}
use Rattle.std.specs.FinMap as fm
use Rattle.std.specs.List.{flat_map}
use Rattle.lwc_base.specs.Summaries.{summary_of}
use Rattle.lwc_text.specs.Lines.{context_line}
use Rattle.lwc_text.proofs.reporting.each_context_line.Given as goal

abbrev pub invariant-contexts : goal.invariant-contexts
invariant-contexts g l =
    let w = g.W.World.seen l.world in
    l.out.items ≡ l.initial.out.items ++ flat_map (λ c. context_line c (summary_of w c)) (take l.i (fm.keys w.contexts))
