use Rattle.std.proofs.Common.{◌≡◌, ◌∙◌, [], arith}
use Rattle.std.proofs.lemmas.Grind.{common_steps}
use Rattle.std.proofs.lemmas.Result.{err_from_is_err_and}
use Rattle.lwc_text.proofs.RequestLines.{continues, ends, is_done, starts}
use Rattle.lwc_text.proofs.requests.read_lines.Goals as goal

pub loop-rest-init : goal.loop-rest-init
loop-rest-init c = rw c.new-requests.ensures.items (starts c.args.bytes.now)

pub returns-in_err-request-clause-refused : goal.returns-in_err-request-clause-refused
returns-in_err-request-clause-refused c =
    let p = err_from_is_err_and c.from_residual.result c.from_residual.ensures.1 in
    rw (p.1, p.2) (ends _ c.args.bytes.now c.loop-rest.rest.now c.next_line.result.0.now _ c.loop-rest.requests.items c.len.result (c.len.ensures ∙ c.loop-rest.requests.ok.0) c.next_line.ensures.lines c.in_err-request.ensures.refused c.loop-rest.invariant)

pub loop-rest-preserved : goal.loop-rest-preserved
loop-rest-preserved c =
    rw c.in_ok-push.ensures.items (continues c.args.bytes.now c.loop-rest.rest.now c.next_line.result.0.now c.next_line.result.1.now c.in_ok-request.request c.loop-rest.requests.items c.len.result (c.len.ensures ∙ c.loop-rest.requests.ok.0)
    c.next_line.ensures.lines c.next_line.ensures.rest c.next_line.ensures.fewer c.in_ok-request.ensures.read c.in_ok-request.ensures.kept c.loop-rest.invariant)

pub returns-clause-read : goal.returns-clause-read
returns-clause-read c =
    let none : c.loop-rest.rest.now ≡ [] = grind (arith, common_steps) in
    is_done c.args.bytes.now c.loop-rest.rest.now c.loop-rest.requests.items none c.loop-rest.invariant
