use Rattle.std.proofs.Common.{arith, ap, ◌≡◌, drop, length, []}
use Rattle.std.proofs.lemmas.Result.{err_from_is_err_and}
use Rattle.std.proofs.lemmas.Grind.{common_steps}
use Rattle.guest_isa.specs.declared.op.Field.TheVariants.{Rd}
use Rattle.guest_asm.specs.Lexis.{words}
use Rattle.guest_asm.specs.Views.{coded_in, immediate_in, short_name}
use Rattle.guest_asm.proofs.Fronts.{short_number}
use Rattle.guest_asm.proofs.Fields.{no_word, wrong_word, next_field, all_put}
use Rattle.guest_asm.proofs.statement.read_fields.Goals as goal

pub returns-in_default-next_word-clause-read : goal.returns-in_default-next_word-clause-read
returns-in_default-next_word-clause-read c = no_word c.args.fields.now c.loop-field.field-index (words c.loop-field.rest.now) _ _ c.loop-field-test.true c.loop-field.invariant.read Rd c.in_default-next_word.ensures.none

pub returns-in_err-instr-clause-read : goal.returns-in_err-instr-clause-read
returns-in_err-instr-clause-read c =
    let p = err_from_is_err_and c.from_residual.result c.from_residual.ensures.1 in
    rw (p.1, p.2) (wrong_word c.args.fields.now c.loop-field.field-index (words c.loop-field.rest.now) _ _ c.loop-field-test.true c.loop-field.invariant.read Rd c.in-Some-next_word.word.now (words c.in-Some-next_word.after.now) c.in_err-instr.field-0.0 c.in-Some-next_word.ensures.some c.in_err-instr.ensures)

pub loop-field-preserved-in-Some : goal.loop-field-preserved-in-Some
loop-field-preserved-in-Some c = record {
  read =
      next_field c.args.fields.now c.loop-field.field-index (words c.loop-field.rest.now) _ _ c.loop-field-test.true c.loop-field.invariant.read Rd (short_name c.in-Some.number) (words c.in-Some.after.now) (coded_in (c.with_register-instr.result, c.loop-field.imm)) c.in-Some.ensures.word (c.with_register-instr.ensures (short_name c.in-Some.number) (immediate_in c.loop-field.imm) (c.is_register.ensures c.if-is_register.true) (short_number c.in-Some.number c.in-Some.ensures.digit));
  count = omega (arith, c.loop-field.invariant.count, ap length c.in-Some.ensures.word);
}

pub loop-field-preserved : goal.loop-field-preserved
loop-field-preserved c = record {
  read =
      next_field c.args.fields.now c.loop-field.field-index (words c.loop-field.rest.now) _ _ c.loop-field-test.true c.loop-field.invariant.read Rd c.in-Some-next_word.word.now (words c.in-Some-next_word.after.now) (coded_in (c.in_ok-instr.field-0-0, c.in_ok-instr.field-0-1)) c.in-Some-next_word.ensures.some c.in_ok-instr.ensures;
  count = omega (arith, c.loop-field.invariant.count, ap length c.in-Some-next_word.ensures.some);
}

pub returns-clause-read : goal.returns-clause-read
returns-clause-read c =
    let past : drop c.loop-field.field-index c.args.fields.now ≡ [] = grind (arith, common_steps) in
    all_put c.args.fields.now c.loop-field.field-index (words c.loop-field.rest.now) _ _ past c.loop-field.invariant.read
