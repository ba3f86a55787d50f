use Rattle.std.proofs.Common.{ap, sym, true, List, ◌++◌, ◌∙◌, ◌≡◌, ◌+◌, ◌-◌, [], length, arith, length-append, subst, ℕ}
use Rattle.std.proofs.lemmas.Result.{err_from_is_err_and}
use Rattle.std.proofs.lemmas.Grind.{common_steps}
use Rattle.guest_asm.specs.Lexis.{lines}
use Rattle.guest_asm.specs.Sources.{nothing, with_lines}
use Rattle.std.specs.List.{list_all}
use Rattle.std.proofs.lemmas.Bool.{and_parts}
use Rattle.std.proofs.lemmas.List.Folds.{list_all-append}
use Rattle.guest_asm.specs.Views.{is_clean, source_in}
use Rattle.guest_asm.proofs.Steps.{continues, ends, is_done}
use Rattle.guest_asm.proofs.source.Source.read.Goals as goal

pub returns-in_err-add_line : goal.returns-in_err-add_line
returns-in_err-add_line c =
    let p = err_from_is_err_and c.from_residual.result c.from_residual.ensures.1 in
    rw (p.1, p.2) (ends (length c.args.bytes.now - length c.loop-rest.rest.now) c.loop-rest.rest.now c.next_line-line.result.line.now c.next_line-line.result.after.now _ _ c.next_line-line.ensures.first c.loop-rest.invariant.read _ c.in_err-add_line.ensures.added)

clean_after : (line after : List ℕ) → list_all is_clean (line ++ after) ≡ true → list_all is_clean after ≡ true
clean_after line after clean = (and_parts (list_all is_clean line) (list_all is_clean after) (sym (list_all-append is_clean line after) ∙ clean)).1

pub loop-rest-preserved : goal.loop-rest-preserved
loop-rest-preserved c =
    let read = continues (length c.args.bytes.now - length c.loop-rest.rest.now) c.loop-rest.rest.now c.next_line-line.result.line.now c.next_line-line.result.after.now _ _ c.next_line-line.ensures.first c.loop-rest.invariant.read (source_in c.add_line.new.self) c.in_ok-add_line.ensures.added in
    let parts : length c.loop-rest.rest.now ≡ length c.next_line-line.result.line.now + length c.next_line-line.result.after.now = ap length c.next_line-line.ensures.whole ∙ length-append _ _ in
    let at : length c.args.bytes.now - length c.loop-rest.rest.now + length c.next_line-line.result.line.now ≡ length c.args.bytes.now - length c.next_line-line.result.after.now = omega (arith, c.loop-rest.invariant.within) in
    record {
      read = subst (λ (k : ℕ). with_lines k (lines c.next_line-line.result.after.now) (source_in c.add_line.new.self) ≡ with_lines 0 (lines c.args.bytes.now) nothing) at read;
      clean = λ is. clean_after c.next_line-line.result.line.now c.next_line-line.result.after.now (subst (λ xs. list_all is_clean xs ≡ true) c.next_line-line.ensures.whole (c.loop-rest.invariant.clean is));
      within = omega (arith, c.loop-rest.invariant.within);
      count = omega (arith, c.loop-rest.invariant.count, c.in_ok-add_line.ensures.count, c.next_line-line.ensures.some);
    }

pub returns : goal.returns
returns c =
    let none : c.loop-rest.rest.now ≡ [] = grind (arith, common_steps) in
    is_done _ c.loop-rest.rest.now _ _ none c.loop-rest.invariant.read
