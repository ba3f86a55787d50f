use Rattle.lwc_base.proofs.Reaped.{context-kept, group-kept, kept-by_way, live-was_live, reap-reaped, reap-stays, reap-twice, reaped-reap, value_at-kept, was_group-reap, way-of_kept}
use Rattle.lwc_base.proofs.laws.life.a_reaped_world_keeps_what_is_reached.Goals as goal

pub returns-clause-kept : goal.returns-clause-kept
returns-clause-kept c = kept-by_way

pub returns-clause-reached : goal.returns-clause-reached
returns-clause-reached c = way-of_kept

pub returns-clause-was_live : goal.returns-clause-was_live
returns-clause-was_live c = live-was_live

pub returns-clause-was_group : goal.returns-clause-was_group
returns-clause-was_group c = was_group-reap

pub returns-clause-context : goal.returns-clause-context
returns-clause-context c = context-kept

pub returns-clause-value : goal.returns-clause-value
returns-clause-value c w roots e k within live = value_at-kept w roots e k within live

pub returns-clause-group : goal.returns-clause-group
returns-clause-group c = group-kept

pub returns-clause-twice : goal.returns-clause-twice
returns-clause-twice c = reap-twice

pub returns-clause-reaped : goal.returns-clause-reaped
returns-clause-reaped c = reaped-reap

pub returns-clause-same : goal.returns-clause-same
returns-clause-same c = reap-reaped

pub returns-clause-rest : goal.returns-clause-rest
returns-clause-rest c = reap-stays
