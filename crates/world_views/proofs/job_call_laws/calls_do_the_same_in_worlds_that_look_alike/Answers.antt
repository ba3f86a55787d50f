use Rattle.world_views.proofs.Beginning.{begin-alike}
use Rattle.world_views.proofs.Calling.{create-alike, overlay-alike, restrict-alike, switch-alike}
use Rattle.world_views.proofs.PlainAlike.{plain-alike, syscall-alike}
use Rattle.world_views.proofs.job_call_laws.calls_do_the_same_in_worlds_that_look_alike.Goals as goal

pub returns-clause-create : goal.returns-clause-create
returns-clause-create c home t s d w v regs alike = create-alike home t s d w v regs alike

pub returns-clause-switch : goal.returns-clause-switch
returns-clause-switch c home t s d w v regs alike = switch-alike home t s d w v regs alike

pub returns-clause-restrict : goal.returns-clause-restrict
returns-clause-restrict c home t s d w v regs alike = restrict-alike home t s d w v regs alike

pub returns-clause-overlay : goal.returns-clause-overlay
returns-clause-overlay c home t s d w v regs alike = overlay-alike home t s d w v regs alike

pub returns-clause-plain : goal.returns-clause-plain
returns-clause-plain c home r t s three w v io other call args of alike same = plain-alike home r t s three w v io other of alike same call args

pub returns-clause-syscall : goal.returns-clause-syscall
returns-clause-syscall c home r t s d w v io other regs own alike same = syscall-alike home r t s d w v io other regs own alike same

pub returns-clause-begin : goal.returns-clause-begin
returns-clause-begin c home r t s a b w v = begin-alike home r a w t s b v
