use Rattle.bx_mirror_server.proofs.Taking.{partly, takes, took}
use Rattle.bx_mirror_server.proofs.laws.a_write_is_taken.Goals as goal

pub returns-clause-may : goal.returns-clause-may
returns-clause-may c = takes

pub returns-clause-taken : goal.returns-clause-taken
returns-clause-taken c = took

pub returns-clause-partly : goal.returns-clause-partly
returns-clause-partly c = partly
