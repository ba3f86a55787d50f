use Rattle.world_views.proofs.Apart.{create-leaves, overlay-leaves, plain-leaves, restrict-leaves, switch-leaves, switch-target, syscall-leaves}
use Rattle.world_views.proofs.Beginning.{begin-keeps}
use Rattle.world_views.proofs.job_call_laws.calls_keep_each_job_what_is_its_own.Goals as goal

pub returns-clause-create : goal.returns-clause-create
returns-clause-create c home d w regs some keeps = (create-leaves home d w some keeps regs).kept

pub returns-clause-switch : goal.returns-clause-switch
returns-clause-switch c home d t w regs some keeps = (switch-leaves home d w some keeps regs t).kept

pub returns-clause-target : goal.returns-clause-target
returns-clause-target c home d e t w regs arrived keeps = switch-target home d e t w regs arrived keeps

pub returns-clause-restrict : goal.returns-clause-restrict
returns-clause-restrict c home d w regs some keeps = (restrict-leaves home d w some keeps regs).kept

pub returns-clause-overlay : goal.returns-clause-overlay
returns-clause-overlay c home d w regs some keeps = (overlay-leaves home d w some keeps regs).kept

pub returns-clause-plain : goal.returns-clause-plain
returns-clause-plain c home job three w io call args some of keeps = (plain-leaves home job three w io some of keeps call args).kept

pub returns-clause-syscall : goal.returns-clause-syscall
returns-clause-syscall c home d w io regs some keeps = (syscall-leaves home d w io regs keeps some).kept

pub returns-clause-begin : goal.returns-clause-begin
returns-clause-begin c home r a w = begin-keeps home r a w
