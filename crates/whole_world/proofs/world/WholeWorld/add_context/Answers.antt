use Rattle.std.proofs.Common.{◌∙◌, ap, arith, subst, sym, List}
use Rattle.std.specs.FinMap as fm
use Rattle.lwc_types.specs.declared.name.Name.{Name}
use Rattle.lwc_types.specs.declared.size.WorldSize.{WorldSize}
use Rattle.whole_world.specs.declared.context_row.ContextRow.{ContextRow}
use Rattle.whole_world.specs.Rows.{context_of}
use Rattle.whole_world.specs.Sound.{IsSound, IsWhole}
use Rattle.whole_world.specs.States.{world_of}
use Rattle.whole_world.specs.Worlds.{seen}
use Rattle.whole_world.proofs.Adding.{add_context-counted, same_contexts, counted-dead, counted-named, counted-old, counted-size}
use Rattle.whole_world.proofs.Worlds.{fresh-seen, missed-dead, put-context, sound-added}
use Rattle.whole_world.proofs.world.WholeWorld.add_context.Goals as goal

pub insert-requires-clause-new : goal.insert-requires-clause-new
unfolding seen
insert-requires-clause-new c =
    missed-dead _ _ _ _ c.count_context.new.self.sound c.next_context-name.result
    (counted-dead (seen c.args.self.now) (seen c.count_context.new.self) c.args.job c.count_context.ensures.world c.next_context-name.result (fresh-seen c.args.self.now) c.next_context-name.ensures)

pub invariant_of-self : goal.invariant_of-self
unfolding seen world_of
invariant_of-self c =
    let counted = c.count_context.new.self in
    let old = seen c.args.self.now in
    let same = ap fm.len (same_contexts old (seen counted) c.args.job c.count_context.ensures.world) in
    let size = counted-size old (seen counted) c.args.job c.count_context.ensures.world in
    record {
      sound = subst (λ (rows : List (Name × ContextRow)). IsSound counted.size rows counted.groups.rows.items counted.counts.items) (sym c.insert.ensures)
          (sound-added _ _ _ _ counted.sound c.next_context-name.result c.args.row
          (counted-named old (seen counted) c.args.job c.count_context.ensures.world c.next_context-name.result c.next_context-name.ensures)
          (counted-old old (seen counted) c.args.job c.count_context.ensures.world (context_of c.args.row) c.requires.old_groups)
          (subst (λ (s : WorldSize). IsWhole s.pages c.args.row) (sym size) c.requires.whole)
          (omega (arith, same, ap (λ (s : WorldSize). s.contexts) size, c.requires.place)));
    }

pub returns-clause-world : goal.returns-clause-world
unfolding seen
returns-clause-world c =
    let counted = c.count_context.new.self in
    add_context-counted (seen c.args.self.now) (seen counted) _ c.args.job c.next_context-name.result (context_of c.args.row)
    c.next_context-name.ensures c.count_context.ensures.world
    (ap (λ (rows : List (Name × ContextRow)). world_of counted.size rows counted.groups.rows.items counted.counts.items) c.insert.ensures
    ∙ put-context _ _ _ _ counted.sound c.next_context-name.result c.args.row)
