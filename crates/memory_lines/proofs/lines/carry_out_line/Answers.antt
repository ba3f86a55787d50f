use Rattle.std.proofs.Common.{Err, Some, ap, refl}
use Rattle.lwc_io.specs.Memory.{FilesInMemory, SinkInMemory, bytes_of}
use Rattle.memory_lines.proofs.Outcomes.{left_by_command, left_by_usage}
use Rattle.memory_lines.proofs.lines.carry_out_line.Goals as goal

pub returns-in-Err-Usage-clause-outcome : goal.returns-in-Err-Usage-clause-outcome
returns-in-Err-Usage-clause-outcome c =
    let left = c.outcome_of.ensures in
    left_by_usage _ _ _ _ (c.in-Err-Usage.ensures.usage.0 (ap Err c.in-Err-Usage.field-0-is)).1 (ap (λ (sink : SinkInMemory). sink.bytes) c.new-out.ensures) (left.status, left.output, left.message)

pub returns-in-Some-clause-outcome : goal.returns-in-Some-clause-outcome
returns-in-Some-clause-outcome c =
    let left = c.outcome_of-in-Some.ensures in
    left_by_command _ _ _ _ _ _ _ _ _ _ c.in-Ok.ensures.accepted (ap (λ (files : FilesInMemory). bytes_of files.files) c.in_ok-files.ensures) (ap (λ (sink : SinkInMemory). Some sink.bytes) c.new-out.ensures) refl c.in-Some.ensures.ended (left.status, left.output, left.message)
