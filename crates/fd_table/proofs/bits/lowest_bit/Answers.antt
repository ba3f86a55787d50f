use Rattle.std.proofs.Common.{◌^◌, arith}
use Rattle.std.proofs.Math.Nat.{div-le_self}
use Rattle.fd_table.proofs.BitLemmas.{none-left, lowest-left}
use Rattle.fd_table.proofs.bits.lowest_bit.Goals as goal

pub returns-then-rest-eq0-clause-none : goal.returns-then-rest-eq0-clause-none
returns-then-rest-eq0-clause-none c = λ n le _. none-left c.args.word c.args.from c.if-rest-eq0.true n le

pub returns-clause-some : goal.returns-clause-some
returns-clause-some c =
    let less = div-le_self c.args.word (2 ^ c.args.from) in
    lowest-left c.args.word c.args.from (omega arith) (omega (arith, less)) (omega (arith, c.if-rest-eq0.false))
