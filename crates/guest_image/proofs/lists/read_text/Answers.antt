use Rattle.std.proofs.Common.{◌+◌, ap}
use Rattle.std.proofs.lemmas.Result.{err_from_is_err_and}
use Rattle.std.proofs.lemmas.List.{length_push}
use Rattle.std.proofs.lemmas.List.Elements.{All-push}
use Rattle.guest_isa.specs.Instructions.{IsInstruction}
use Rattle.guest_image.specs.Reading.{next_instruction}
use Rattle.guest_image.proofs.Loops.{continues, ends, is_done}
use Rattle.guest_image.proofs.lists.read_text.Goals as goal

pub returns-in_err-read_instruction : goal.returns-in_err-read_instruction
returns-in_err-read_instruction c =
    let p = err_from_is_err_and c.from_residual.result c.from_residual.ensures.1 in
    rw (p.1, p.2) (ends (next_instruction c.args.count) _ _ _ _ _ c.loop.invariant.read _ c.loop-test.true c.in_err-read_instruction.ensures.read)

pub loop-preserved : goal.loop-preserved
loop-preserved c =
    rw c.in_ok-push.ensures.items (record {
      read = continues (next_instruction c.args.count) _ _ _ _ _ c.loop.invariant.read _ _ c.loop-test.true c.in_ok-read_instruction.ensures.read;
      count = rw length_push (ap (λ n. n + 1) c.loop.invariant.count);
      instructions = All-push IsInstruction c.loop.instructions.items _ c.loop.invariant.instructions c.in_ok-read_instruction.ensures.instruction;
    })

pub returns : goal.returns
returns c = rw c.of.ensures (is_done (next_instruction c.args.count) _ _ _ _ _ c.loop.invariant.read c.loop-test.false)
