use Rattle.world_views.proofs.Apart.{create-leaves, overlay-leaves, plain-leaves, plain-same, restrict-leaves, switch-leaves, syscall-leaves, syscall-same}
use Rattle.world_views.proofs.Beginning.{begin-hidden}
use Rattle.world_views.proofs.job_call_laws.no_job_sees_calls_of_another_one.Goals as goal

pub returns-clause-create : goal.returns-clause-create
returns-clause-create c home job t d w regs some other keeps = (create-leaves home d w some keeps regs).hidden job t other

pub returns-clause-switch : goal.returns-clause-switch
returns-clause-switch c home job t s d w regs some other keeps = (switch-leaves home d w some keeps regs s).hidden job t other

pub returns-clause-restrict : goal.returns-clause-restrict
returns-clause-restrict c home job t d w regs some other keeps = (restrict-leaves home d w some keeps regs).hidden job t other

pub returns-clause-overlay : goal.returns-clause-overlay
returns-clause-overlay c home job t d w regs some other keeps = (overlay-leaves home d w some keeps regs).hidden job t other

pub returns-clause-plain : goal.returns-clause-plain
returns-clause-plain c home own job t three w io call args some other of keeps = (plain-leaves home own three w io some of keeps call args).hidden job t other

pub returns-clause-plain_channels : goal.returns-clause-plain_channels
returns-clause-plain_channels c home own r three w io call args other of keeps = plain-same home own r three w io other of keeps call args

pub returns-clause-syscall : goal.returns-clause-syscall
returns-clause-syscall c home job t d w io regs some other keeps = (syscall-leaves home d w io regs keeps some).hidden job t other

pub returns-clause-syscall_channels : goal.returns-clause-syscall_channels
returns-clause-syscall_channels c home r d w io regs other keeps = syscall-same home d w io regs keeps r other

pub returns-clause-begin : goal.returns-clause-begin
returns-clause-begin c = begin-hidden
