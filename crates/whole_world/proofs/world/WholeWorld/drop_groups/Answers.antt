use Rattle.std.proofs.Common.{rules, ◌∙◌, Bool, List, ap, subst, sym}
use Rattle.std.specs.FinMap as fm
use Rattle.std.specs.List.{list_any}
use Rattle.lwc_base.specs.Life.{names_group}
use Rattle.lwc_types.specs.declared.name.Name.{Name}
use Rattle.whole_world.specs.declared.group_row.GroupRow.{GroupRow}
use Rattle.whole_world.specs.Sound.{IsSound}
use Rattle.whole_world.specs.States.{world_of}
use Rattle.whole_world.specs.Worlds.{seen}
use Rattle.whole_world.proofs.Keeping.{left-world, sound-left}
use Rattle.whole_world.proofs.Marking.{kept_rows}
use Rattle.whole_world.proofs.world.WholeWorld.drop_groups.Goals as goal

pub invariant_of-self : goal.invariant_of-self
invariant_of-self c =
    let w = c.args.self.now in
    let is_named : Name → Bool = λ g. list_any (names_group (seen w).size.pages g) (fm.values (seen w).contexts) in
    record {
      sound = subst (λ (rows : List (Name × GroupRow)). IsSound w.size w.contexts.rows.items rows w.counts.items)
          (sym (c.keep.ensures ∙ kept_rows is_named _ w.groups.rows.items (search rules) (λ i row is. c.named_groups-marks.ensures.at i row is)))
          (sound-left _ _ _ _ w.sound is_named);
    }

pub returns : goal.returns
unfolding seen
returns c =
    let w = c.args.self.now in
    let is_named : Name → Bool = λ g. list_any (names_group (seen w).size.pages g) (fm.values (seen w).contexts) in
    ap (λ (rows : List (Name × GroupRow)). world_of w.size w.contexts.rows.items rows w.counts.items)
    (c.keep.ensures ∙ kept_rows is_named _ w.groups.rows.items (search rules) (λ i row is. c.named_groups-marks.ensures.at i row is))
    ∙ left-world _ _ _ _ w.sound is_named
