use Rattle.std.proofs.Common.{◌≡◌, ◌<◌, ◌++◌, ◌∷◌, length, map, sym, ap, subst, arith}
use Rattle.std.proofs.lemmas.Bool.Decides.{nat_tests}
use Rattle.process_core.proofs.Carrying.{one_made}
use Rattle.process_core.proofs.Handing.{first_of}
use Rattle.process_core.proofs.carriers.carriers_of.Goals as goal

pub passes-preserved : goal.passes-preserved
passes-preserved g c =
    let inv = c.passes.invariant in
    let made = c.passes.carriers.items in
    let passes = c.passes.passes.items in
    let ends = c.passes.turns.items in
    let passes' = c.remove-pass.new.self.items in
    let ends' = c.remove-turns.new.self.items in
    let now = c.push_reserved.ensures.items in
    let some : 0 < length passes = grind (arith, nat_tests) in
    let first : passes ≡ c.remove-pass.result ∷ passes' = first_of passes _ passes' some c.remove-pass.ensures.value c.remove-pass.ensures.by_index.2 in
    let first_end : ends ≡ c.remove-turns.result ∷ ends' = first_of ends _ ends' (omega (arith, some, inv.even)) c.remove-turns.ensures.value c.remove-turns.ensures.by_index.2 in
    record {
      all = subst (λ l. map (λ x. x.pass) l ++ passes' ≡ c.args.passes.items) (sym now)
          (one_made (λ x. x.pass) made _ passes' c.args.passes.items (subst (λ l. map (λ x. x.pass) made ++ l ≡ c.args.passes.items) first inv.all));
      turns = subst (λ l. map (λ x. x.turns) l ++ ends' ≡ c.args.turns.items) (sym now)
          (one_made (λ x. x.turns) made _ ends' c.args.turns.items (subst (λ l. map (λ x. x.turns) made ++ l ≡ c.args.turns.items) first_end inv.turns));
      room = omega (arith, inv.room, ap length now, c.push_reserved.ensures.len, c.remove-pass.ensures.len, ap length first);
      even = omega (arith, inv.even, ap length first, ap length first_end);
    }
