use Rattle.std.proofs.Common.{All, ◌∙◌, ◌||◌, [], List, ap, sym, subst, take, take_all}
use Rattle.std.specs.List.{list_any}
use Rattle.std.proofs.lemmas.List.Elements.{All-get_or}
use Rattle.std.proofs.lemmas.List.Folds.{list_any_more}
use Rattle.lwc_base.specs.Life.{names_group}
use Rattle.lwc_types.specs.declared.name.Name.{Name}
use Rattle.whole_world.specs.declared.context_row.ContextRow.{ContextRow}
use Rattle.whole_world.specs.Rows.{context_of}
use Rattle.whole_world.specs.Sound.{IsWhole}
use Rattle.whole_world.specs.States.{world_of}
use Rattle.whole_world.specs.Worlds.{seen}
use Rattle.whole_world.proofs.Marking.{adds-first, adds-more, adds-same, any_mapped}
use Rattle.whole_world.proofs.Worlds.{values-contexts}
use Rattle.whole_world.proofs.world.WholeWorld.named_groups.Goals as goal

pub loop-row-init : goal.loop-row-init
loop-row-init c = adds-first c.args.self.now.groups.rows.items 1024

pub mark_row-requires : goal.mark_row-requires
unfolding seen world_of
mark_row-requires c =
    subst (λ (row : Name × ContextRow). IsWhole c.args.self.now.size.pages row.1) (sym c.row-item.is)
    (All-get_or (λ row. IsWhole c.args.self.now.size.pages row.1) c.deref-row-items.result.now c.loop-row.row-index c.row-item.result c.loop-row-test.true
    (subst (λ (rows : List (Name × ContextRow)). All (λ row. IsWhole c.args.self.now.size.pages row.1) rows) (sym c.deref-row-items.ensures.value) c.args.self.now.sound.contexts_whole))

pub loop-row-preserved : goal.loop-row-preserved
loop-row-preserved c =
    adds-more _ _ _ _ _ _ _ c.loop-row.invariant c.mark_row.ensures
    (λ g.
    ap (λ row. list_any (λ row. names_group (seen c.args.self.now).size.pages g (context_of row.1)) (take c.loop-row.row-index c.deref-row-items.result.now)
    || names_group (seen c.args.self.now).size.pages g (context_of row.1)) c.row-item.is
    ∙ sym (list_any_more (λ row. names_group (seen c.args.self.now).size.pages g (context_of row.1)) c.deref-row-items.result.now c.loop-row.row-index c.row-item.result c.loop-row-test.true))

pub returns : goal.returns
unfolding seen
returns c =
    adds-same c.args.self.now.groups.rows.items _ _ [] c.loop-row.marks c.loop-row.invariant
    (λ g.
    let test = names_group (seen c.args.self.now).size.pages g in
    ap (λ rows. list_any (λ row. test (context_of row.1)) rows)
    (take_all c.loop-row.row-index c.deref-row-items.result.now c.loop-row-test.false ∙ c.deref-row-items.ensures.value)
    ∙ sym (any_mapped test (λ row. context_of row.1) c.args.self.now.contexts.rows.items)
    ∙ ap (list_any test) (sym (values-contexts _ _ _ _ c.args.self.now.sound)))
