use Rattle.std.proofs.Common.{◌≡◌, ◌≤◌, ◌<◌, ◌∙◌, Err, ap, sym, length, arith}
use Rattle.lwc_text.specs.declared.fault.InputRule.TheVariants as inputs
use Rattle.lwc_types.specs.declared.limits.TheConstants.{MOST_STEPS}
use Rattle.lwcrun_inputs.specs.Inputs.{bounded_requests_of, serve_steps}
use Rattle.lwcrun_inputs.specs.declared.ending.Rejection.TheVariants as rejections
use Rattle.lwcrun_inputs.proofs.Readers.{bounded_limited, fails_so, handed_on, passed, rejected, requests_bounded, requests_refused, too_much_work}
use Rattle.lwcrun_inputs.proofs.inputs.bounded_requests_in.Goals as goal

pub returns-in_err-bytes-clause-reads : goal.returns-in_err-bytes-clause-reads
returns-in_err-bytes-clause-reads g c =
    handed_on _ _ (bounded_requests_of _) (bounded_limited _ _ c.too_long_input-too_long.ensures) _ _ _ _ _ _ c.from_residual.ensures.0 c.from_residual.ensures.1 c.in_err-bytes.ensures.reads

pub returns-in_err-requests-clause-reads : goal.returns-in_err-requests-clause-reads
returns-in_err-requests-clause-reads g c =
    fails_so _ _ (bounded_requests_of _) (bounded_limited _ _ c.too_long_input-too_long.ensures) _ _ _ _ rejections.Input _ _ _ _ c.from_residual-in_err-requests.ensures.0 c.from_residual-in_err-requests.ensures.1 c.in_ok-bytes.ensures.reads
    (requests_refused _ _) (rw c.deref.ensures.value at c.in_err-requests.ensures.exact)

pub returns-then-most_steps-gt-MOST_STEPS-clause-reads : goal.returns-then-most_steps-gt-MOST_STEPS-clause-reads
returns-then-most_steps-gt-MOST_STEPS-clause-reads g c =
    let count : serve_steps c.args.settings.now c.len.result ≡ serve_steps c.args.settings.now (length c.in_ok-requests.requests) = ap (serve_steps c.args.settings.now) c.len.ensures in
    let over : MOST_STEPS < serve_steps c.args.settings.now (length c.in_ok-requests.requests) = omega (arith, c.if-most_steps-gt-MOST_STEPS.true, c.most_steps.ensures, count) in
    let end : c.len-then-most_steps-gt-MOST_STEPS.result ≡ length c.in_ok-bytes.bytes.items = omega (arith, c.len-then-most_steps-gt-MOST_STEPS.ensures) in
    rejected _ _ (bounded_requests_of _) (bounded_limited _ _ c.too_long_input-too_long.ensures) _ _ _ _ _ c.in_ok-bytes.ensures.reads
    (too_much_work _ _ _ (rw c.deref.ensures.value at c.in_ok-requests.ensures.exact) over ∙ ap (λ n. Err (rejections.Input inputs.TooMuchWork n)) (sym end))

pub returns-clause-reads : goal.returns-clause-reads
returns-clause-reads g c =
    let count : serve_steps c.args.settings.now c.len.result ≡ serve_steps c.args.settings.now (length c.in_ok-requests.requests) = ap (serve_steps c.args.settings.now) c.len.ensures in
    let few : serve_steps c.args.settings.now (length c.in_ok-requests.requests) ≤ MOST_STEPS = omega (arith, c.if-most_steps-gt-MOST_STEPS.false, c.most_steps.ensures, count) in
    passed _ _ (bounded_requests_of _) (bounded_limited _ _ c.too_long_input-too_long.ensures) _ _ _ _ _ c.in_ok-bytes.ensures.reads
    (requests_bounded _ _ _ (rw c.deref.ensures.value at c.in_ok-requests.ensures.exact) few)
