-- A reaped world keeps what was so of each holder, is fresh if the world was, and has no more names.
use Rattle.std.proofs.Common.{sym, subst, List, rules}
use Rattle.lwc_base.specs.Facts.{HasFewer}
use Rattle.lwc_base.specs.Fresh.{IsFresh, named_groups}
use Rattle.lwc_base.specs.Holders.{InContext, InGroup, Keeps, Rules}
use Rattle.lwc_base.specs.Life.{reap}
use Rattle.lwc_base.specs.World.{World, groups_of, live_of}
use Rattle.lwc_base.proofs.Counted.{count_by-retain_keys, len-retain_keys}
use Rattle.lwc_base.proofs.Reaped.{context-kept, group-kept, live-was_live, was_group-reap}
use Rattle.lwc_types.specs.declared.name.Name.{Name}

module _ (w : World) (roots : List Name) where
  pub keeps-reap : (rules : Rules) → Keeps rules w → Keeps rules (reap w roots)
  keeps-reap rules keeps = record {
    contexts = λ c live. subst (InContext rules c.job) (sym (context-kept w roots c live)) (keeps.contexts c (live-was_live w roots c live));
    groups = λ g live. subst (InGroup rules g.job) (sym (group-kept w roots g live)) (keeps.groups g (was_group-reap w roots g live));
  }

  pub fresh-reap : IsFresh w → IsFresh (reap w roots)
  unfolding reap
  fresh-reap fresh = record {
    contexts = λ c live. fresh.contexts c (live-was_live w roots c live);
    groups = λ g live. fresh.groups g (was_group-reap w roots g live);
    cells = keeps-reap (named_groups w.next) fresh.cells;
  }

  pub fewer-reap : HasFewer w (reap w roots)
  unfolding reap live_of groups_of
  fewer-reap = record {
    live_of = λ job. count_by-retain_keys w.contexts _ _;
    groups_of = λ job. count_by-retain_keys w.groups _ _;
    contexts = len-retain_keys w.contexts _;
    groups = len-retain_keys w.groups _;
  }
