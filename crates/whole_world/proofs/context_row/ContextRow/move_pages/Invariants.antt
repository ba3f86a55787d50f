use Rattle.std.proofs.Common.{◌≡◌}
use Rattle.lwc_types.specs.declared.key.Kind.TheVariants as kind
use Rattle.whole_world.specs.Rows.{context_of, group_of}
use Rattle.whole_world.specs.Sharing.{gave, is_below, took}
use Rattle.whole_world.specs.Sound.{IsWhole, IsWholeGroup}
use Rattle.whole_world.proofs.context_row.ContextRow.move_pages.Given as goal

abbrev pub invariant-loop-p : goal.invariant-loop-p
invariant-loop-p l = record {
  whole : IsWhole l.pages l.self;
  whole_group : IsWholeGroup l.pages l.group;
  context : context_of l.self ≡ gave (is_below kind.Page l.p) l.name l.spec (context_of l.initial.self);
  group : group_of l.group ≡ took (is_below kind.Page l.p) l.spec (context_of l.initial.self) (group_of l.initial.group);
}
