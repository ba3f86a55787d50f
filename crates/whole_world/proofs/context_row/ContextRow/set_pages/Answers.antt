use Rattle.std.proofs.Common.{◌∙◌, ap, cond, None, refl, Some, arith}
use Rattle.lwc_base.specs.declared.cell.Cell.TheVariants.{Own}
use Rattle.lwc_base.specs.Cells.{with_cell}
use Rattle.lwc_types.specs.declared.key.Key.TheVariants.{Page}
use Rattle.lwc_types.specs.declared.page.PageValue.TheVariants.{Zero}
use Rattle.lwc_types.specs.declared.right.Right.TheVariants.{Write}
use Rattle.whole_world.specs.Rows.{context_of, with_right}
use Rattle.whole_world.proofs.Rows.{on_pages-none, on_pages-more}
use Rattle.whole_world.proofs.context_row.ContextRow.set_pages.Goals as goal

pub loop-p-init : goal.loop-p-init
loop-p-init c = record {
  size = record { pages = refl; rights = refl; slots = refl };
  begun = omega arith;
  context = on_pages-none c.args.from (Own (cond c.args.present (Some Zero) None)) (context_of c.args.self.now);
}

pub put-requires : goal.put-requires
put-requires c = omega (arith, c.loop-p.invariant.size.pages, c.requires.pages, c.loop-p-test.true)

pub set_right-requires : goal.set_right-requires
set_right-requires c = omega (arith, c.put.ensures.size.rights, c.loop-p.invariant.size.rights, c.requires.rights, c.loop-p-test.true)

pub loop-p-preserved : goal.loop-p-preserved
loop-p-preserved c =
    let before = c.loop-p.invariant in
    let puts = c.put.ensures in
    let rights = c.set_right.ensures in
    record {
      size = record {
        pages = rights.size.pages ∙ puts.size.pages ∙ before.size.pages;
        rights = rights.size.rights ∙ puts.size.rights ∙ before.size.rights;
        slots = rights.size.slots ∙ puts.size.slots ∙ before.size.slots;
      };
      begun = omega (arith, before.begun);
      context = on_pages-more c.args.from c.loop-p.p (Own (cond c.args.present (Some Zero) None)) (context_of c.args.self.now) _ _ before.begun before.context
          (rights.context
          ∙ ap (with_right c.loop-p.p Write) (puts.context ∙ ap (λ value. with_cell (Page c.loop-p.p) (Own value) (context_of c.loop-p.self)) c.zeros_if.ensures));
    }
