use Rattle.std.proofs.Common.{arith}
use Rattle.item_modes.proofs.runs.ModeRun.empty.Goals as goal

pub returns : goal.returns
returns c items = record {
  alike = λ q low high. absurd (omega (arith, high));
  within = omega arith;
  edge = λ low inside. absurd (omega (arith, low));
}
