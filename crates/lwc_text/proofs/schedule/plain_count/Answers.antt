use Rattle.std.proofs.Common.{◌+◌, arith}
use Rattle.lwc_text.proofs.Steps.{plain_first, plain_next}
use Rattle.lwc_text.proofs.schedule.plain_count.Goals as goal

pub chunks-preserved : goal.chunks-preserved
chunks-preserved c = record {
  within = omega (arith, c.chunks-test.true, c.chunks.invariant.within);
  plain = plain_next (48 + c.min.result) c.chunks.count 64 c.args.bytes.now (omega (arith, c.chunks-test.true, c.chunks.invariant.within, c.min-limit.ensures)) c.chunks.invariant.plain (c.are_plain.ensures c.if-are_plain.true);
}

pub returns-else-are_plain-clause-plain : goal.returns-else-are_plain-clause-plain
returns-else-are_plain-clause-plain c =
    plain_first c.args.threads (48 + c.min.result) c.chunks.count c.args.bytes.now (omega (arith, c.chunks.invariant.within, c.min-limit.ensures)) (omega (arith, c.min.ensures)) (omega (arith, c.min.ensures)) c.chunks.invariant.plain

pub returns-after-chunks-clause-plain : goal.returns-after-chunks-clause-plain
returns-after-chunks-clause-plain c =
    plain_first c.args.threads (48 + c.min.result) c.chunks.count c.args.bytes.now (omega (arith, c.chunks.invariant.within, c.min-limit.ensures)) (omega (arith, c.min.ensures)) (omega (arith, c.min.ensures)) c.chunks.invariant.plain
