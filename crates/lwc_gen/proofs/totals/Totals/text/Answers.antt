use Rattle.std.proofs.Common.{◌∙◌}
use Rattle.std.specs.Prelude.{codes, decimal}
use Rattle.lwc_gen.proofs.Lines.{from_left}
use Rattle.lwc_gen.specs.Summary.{summary_line}
use Rattle.lwc_gen.proofs.totals.Totals.text.Goals as goal

pub returns : goal.returns
unfolding summary_line
returns c =
    let t = c.args.self.now in
    c.in_ok-format.ensures.ok
    ∙ from_left (codes "gen ") (decimal c.args.number) (codes " requests ") (decimal t.requests) (codes " done ") (decimal t.done) (codes " sum ") (decimal t.sum) (codes " count ") (decimal t.count) (codes "\n")
