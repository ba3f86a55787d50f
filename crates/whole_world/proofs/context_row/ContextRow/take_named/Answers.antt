use Rattle.std.proofs.Common.{◌≡◌, ap, cond, false, refl, rules, sym, true}
use Rattle.lwc_base.specs.Capabilities.{is_named}
use Rattle.lwc_types.specs.declared.key.Key.TheVariants.{Cred}
use Rattle.whole_world.proofs.Taking.{context-taken}
use Rattle.whole_world.proofs.context_row.ContextRow.take_named.Goals as goal

pub returns-then-is_some-clause-context : goal.returns-then-is_some-clause-context
returns-then-is_some-clause-context c =
    let named : is_named c.args.spec.now Cred ≡ true = search rules in
    context-taken c.args.self.now c.args.other _ c.args.spec.now c.take_cells.ensures.cells c.take_cells-3.ensures.cells c.take_cells-2.ensures.cells
    (ap (λ b. cond b c.args.other.uid c.args.self.now.uid) (sym named)) refl refl

pub returns-else-is_some-clause-context : goal.returns-else-is_some-clause-context
returns-else-is_some-clause-context c =
    let unnamed : is_named c.args.spec.now Cred ≡ false = search rules in
    context-taken c.args.self.now c.args.other _ c.args.spec.now c.take_cells.ensures.cells c.take_cells-3.ensures.cells c.take_cells-2.ensures.cells
    (ap (λ b. cond b c.args.other.uid c.args.self.now.uid) (sym unnamed)) refl refl
