use Rattle.std.proofs.Common.{◌∙◌, Ok, ap, arith, rules, subst, sym}
use Rattle.lwc_types.specs.Outcomes.{Fails}
use Rattle.lwc_text.proofs.Steps.{is_answered, is_schedule, short_reads, threads_are_there}
use Rattle.lwc_text.proofs.schedule.read_schedule_within.Goals as goal

pub returns-in_err-read_steps-clause-only : goal.returns-in_err-read_steps-clause-only
returns-in_err-read_steps-clause-only c = λ steps is.
    let short = short_reads c.args.threads c.args.most c.args.bytes.now (omega (arith, c.if-bytes-gt-MOST_SCHEDULE_BYTES.false)) in
    let only = is_answered _ _ _ steps c.in_err-read_steps.field-0.0 is (subst (Fails c.in_err-read_steps.field-0.0) (sym short) c.in_err-read_steps.ensures.refused) in
    search (rules, only)

pub returns-clause-found : goal.returns-clause-found
returns-clause-found c =
    is_schedule _ _ _ _ (short_reads c.args.threads c.args.most c.args.bytes.now (omega (arith, c.if-bytes-gt-MOST_SCHEDULE_BYTES.false)) ∙ c.in_ok-read_steps.ensures.read ∙ ap Ok (sym c.of.ensures))

pub returns-clause-there : goal.returns-clause-there
returns-clause-there c =
    threads_are_there _ c.args.most c.args.bytes.now _ (short_reads c.args.threads c.args.most c.args.bytes.now (omega (arith, c.if-bytes-gt-MOST_SCHEDULE_BYTES.false)) ∙ c.in_ok-read_steps.ensures.read ∙ ap Ok (sym c.of.ensures))
