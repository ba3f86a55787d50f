use Rattle.std.proofs.Common.{◌≤◌, length, refl, ap, Err, arith}
use Rattle.lwcrun_inputs.specs.Parts.{ReadsBy}
use Rattle.lwcrun_inputs.proofs.Readers.{is_over, is_within}
use Rattle.lwcrun_inputs.proofs.inputs.bytes_in.Goals as goal

pub returns-in-Ok-clause-reads : goal.returns-in-Ok-clause-reads
unfolding ReadsBy
returns-in-Ok-clause-reads g c =
    let short : length c.in-Ok.bytes.items ≤ c.args.limit = omega (arith, c.in-Ok.ensures.short) in
    (c.in-Ok.bytes.items, c.in-Ok.ensures.bytes, c.in-Ok.ensures.are_bytes, is_within _ _ _ short, c.in-Ok.ensures.no_fault (λ is. absurd cc))

pub returns-in-Err-OutOfMemory-clause-reads : goal.returns-in-Err-OutOfMemory-clause-reads
unfolding ReadsBy
returns-in-Err-OutOfMemory-clause-reads g c = tt

pub returns-in-Err-Failed-clause-reads : goal.returns-in-Err-Failed-clause-reads
unfolding ReadsBy
returns-in-Err-Failed-clause-reads g c = (refl, c.in-Err-Failed.ensures.cause (ap Err c.in-Err-Failed.field-0-is))

pub returns-in-Err-TooLong-clause-reads : goal.returns-in-Err-TooLong-clause-reads
unfolding ReadsBy
returns-in-Err-TooLong-clause-reads g c =
    let longer = c.in-Err-TooLong.ensures.too_long (ap Err c.in-Err-TooLong.field-0-is) in
    (longer.0, longer.1, is_over _ _ _ longer.2, c.in-Err-TooLong.ensures.no_fault (λ is. absurd cc))
