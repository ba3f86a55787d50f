use Rattle.std.proofs.Common.{◌≡◌, ◌∙◌, ap, sym, subst}
use Rattle.lwc_base.specs.declared.cell.Cell.TheVariants.{Common, Own}
use Rattle.lwc_base.specs.Cells.{with_cell}
use Rattle.lwc_base.specs.Keys.{ValueOf, nothing}
use Rattle.std.specs.Prelude.{unwrap_or}
use Rattle.lwc_base.specs.Modes.{mode}
use Rattle.lwc_base.specs.World.{Context}
use Rattle.whole_world.specs.Holders.{holder_of}
use Rattle.whole_world.specs.KeyValues.{value_in}
use Rattle.whole_world.specs.Rows.{context_of}
use Rattle.whole_world.specs.Sharing.{clone_cells}
use Rattle.whole_world.specs.Worlds.{seen}
use Rattle.whole_world.proofs.CloneCells.{key_copied, key_shared, key_unmapped}
use Rattle.whole_world.proofs.Keyed.{is-nobody, put-cell, shared-group, shared-nobody, shared-own}
use Rattle.whole_world.proofs.Worlds.{fresh-seen}
use Rattle.whole_world.proofs.world.WholeWorld.clone_key.Goals as goal

pub returns-in_ok-copied_value-in-Copy-clause-context : goal.returns-in_ok-copied_value-in-Copy-clause-context
returns-in_ok-copied_value-in-Copy-clause-context c =
    c.put.ensures.context
    ∙ put-cell (context_of c.args.row.now) c.in_ok-copied_value-in-Copy.field-0 c.args.key (clone_cells (seen c.args.self.now) c.args.context c.args.job c.args.spec.now c.args.rest) c.in_ok-copied_value-in-Copy.ensures.key
    (ap Own c.in_ok-copied_value-in-Copy.ensures.value
    ∙ key_copied (seen c.args.self.now) c.args.context c.args.job c.args.spec.now (fresh-seen c.args.self.now) c.requires.live c.requires.within c.args.rest c.requires.rest _ _
    (ap (λ k. unwrap_or (mode c.args.spec.now k) c.args.rest) c.in_ok-copied_value-in-Copy.ensures.key ∙ sym c.mode_or.ensures) c.in-Copy.is)

pub returns-in-Own-clause-context : goal.returns-in-Own-clause-context
returns-in-Own-clause-context c =
    let is_here = ap (λ (x : Context). holder_of c.args.key (x.cell c.args.key)) c.row.ensures.context ∙ sym c.holder.ensures in
    c.join.ensures.context
    ∙ ap (λ cell. with_cell c.args.key cell (context_of c.args.row.now))
    (ap Common c.next_group.ensures ∙ sym (shared-own c.args.key _ _ (is_here ∙ c.in-Own.is))
    ∙ key_shared (seen c.args.self.now) c.args.context c.args.job c.args.spec.now (fresh-seen c.args.self.now) c.requires.live c.requires.within c.args.rest c.requires.rest c.args.key (sym c.mode_or.ensures ∙ c.in-Share.is))

pub returns-in-Group-clause-context : goal.returns-in-Group-clause-context
returns-in-Group-clause-context c =
    let is_here = ap (λ (x : Context). holder_of c.args.key (x.cell c.args.key)) c.row.ensures.context ∙ sym c.holder.ensures in
    c.join-in-Group.ensures.context
    ∙ ap (λ cell. with_cell c.args.key cell (context_of c.args.row.now))
    (sym (shared-group c.args.key _ _ c.in-Group.g (is_here ∙ c.in-Group.is))
    ∙ key_shared (seen c.args.self.now) c.args.context c.args.job c.args.spec.now (fresh-seen c.args.self.now) c.requires.live c.requires.within c.args.rest c.requires.rest c.args.key (sym c.mode_or.ensures ∙ c.in-Share.is))

pub returns-in-Nobody-clause-context : goal.returns-in-Nobody-clause-context
returns-in-Nobody-clause-context c =
    let is_here = ap (λ (x : Context). holder_of c.args.key (x.cell c.args.key)) c.row.ensures.context ∙ sym c.holder.ensures in
    c.put-in-Nobody.ensures.context
    ∙ put-cell (context_of c.args.row.now) c.nothing.result c.args.key (clone_cells (seen c.args.self.now) c.args.context c.args.job c.args.spec.now c.args.rest) c.nothing.ensures.key
    (subst (λ k. (v : ValueOf k) → v ≡ nothing k → Own v ≡ clone_cells (seen c.args.self.now) c.args.context c.args.job c.args.spec.now c.args.rest k) (sym c.nothing.ensures.key)
    (λ v is. ap Own is ∙ sym (shared-nobody c.args.key _ _ (is-nobody c.args.key _ _ is_here c.in-Nobody.is)) ∙ key_shared (seen c.args.self.now) c.args.context c.args.job c.args.spec.now (fresh-seen c.args.self.now) c.requires.live c.requires.within c.args.rest c.requires.rest c.args.key (sym c.mode_or.ensures ∙ c.in-Share.is))
    (value_in c.nothing.result) c.nothing.ensures.value)

pub returns-in-Unmap-clause-context : goal.returns-in-Unmap-clause-context
returns-in-Unmap-clause-context c =
    c.put-in-Unmap.ensures.context
    ∙ put-cell (context_of c.args.row.now) c.nothing-in-Unmap.result c.args.key (clone_cells (seen c.args.self.now) c.args.context c.args.job c.args.spec.now c.args.rest) c.nothing-in-Unmap.ensures.key
    (ap Own c.nothing-in-Unmap.ensures.value
    ∙ key_unmapped (seen c.args.self.now) c.args.context c.args.job c.args.spec.now (fresh-seen c.args.self.now) c.requires.live c.requires.within c.args.rest c.requires.rest _
    (ap (λ k. unwrap_or (mode c.args.spec.now k) c.args.rest) c.nothing-in-Unmap.ensures.key ∙ sym c.mode_or.ensures ∙ c.in-Unmap.is))
