use Rattle.std.proofs.Common.{◌≡◌, [], arith}
use Rattle.std.proofs.lemmas.Grind.{common_steps}
use Rattle.std.proofs.lemmas.Result.{err_from_is_err_and}
use Rattle.lwc_debug.proofs.ScriptLines.{continues, ends, is_done, starts}
use Rattle.lwc_debug.proofs.script.read_lines.Goals as goal

pub loop-rest-init : goal.loop-rest-init
loop-rest-init c = rw c.new-commands.ensures.items (starts c.args.bytes.now)

pub returns-in_err-read_line-clause-refused : goal.returns-in_err-read_line-clause-refused
returns-in_err-read_line-clause-refused c =
    let p = err_from_is_err_and c.from_residual.result c.from_residual.ensures.1 in
    rw (p.1, p.2) (ends _ c.args.bytes.now c.loop-rest.rest.now c.next_line.result.0.now _ c.loop-rest.commands.items c.next_line.ensures.lines c.in_err-read_line.ensures.refused c.loop-rest.invariant)

pub loop-rest-preserved : goal.loop-rest-preserved
loop-rest-preserved c =
    continues c.args.bytes.now c.loop-rest.rest.now c.next_line.result.0.now c.next_line.result.1.now c.loop-rest.commands.items _
    c.next_line.ensures.lines c.next_line.ensures.rest c.next_line.ensures.fewer c.in_ok-read_line.ensures.kept c.in_ok-read_line.ensures.added c.in_ok-read_line.ensures.few c.loop-rest.invariant

pub returns-clause-read : goal.returns-clause-read
returns-clause-read c =
    let none : c.loop-rest.rest.now ≡ [] = grind (arith, common_steps) in
    is_done c.args.bytes.now c.loop-rest.rest.now c.loop-rest.commands.items none c.loop-rest.invariant
