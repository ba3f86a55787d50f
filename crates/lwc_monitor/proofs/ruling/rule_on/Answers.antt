use Rattle.lwc_monitor.proofs.ruling.rule_on.Goals as goal

pub returns-else-number-eq-EXIT-clause-ruling : goal.returns-else-number-eq-EXIT-clause-ruling
returns-else-number-eq-EXIT-clause-ruling g c = c.to_monitor.ensures.ruling c.args.traps.now
