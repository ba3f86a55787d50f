use Rattle.std.proofs.Common.{arith}
use Rattle.std.specs.FinMap as fm
use Rattle.ctx_table.proofs.Rows.{counted_of}
use Rattle.ctx_table.proofs.index.Index.count_of.Goals as goal

pub overflow_sub-result : goal.overflow_sub-result
overflow_sub-result c = omega (arith, counted_of (fm.keys c.args.self.now.map) c.args.job _ _ _ _ (omega arith) (omega arith) c.count_below.ensures c.count_below-2.ensures)

pub returns : goal.returns
returns c = omega (arith, counted_of (fm.keys c.args.self.now.map) c.args.job _ _ _ _ (omega arith) (omega arith) c.count_below.ensures c.count_below-2.ensures)
