use Rattle.std.proofs.Common.{rules}
use Rattle.bx_lease.proofs.clock_rule.ClockRule.take.Goals as goal

pub returns-then-behind-gt-ALLOWED-clause-refused : goal.returns-then-behind-gt-ALLOWED-clause-refused
returns-then-behind-gt-ALLOWED-clause-refused c = search rules

pub returns-then-behind-gt-ALLOWED-clause-err : goal.returns-then-behind-gt-ALLOWED-clause-err
returns-then-behind-gt-ALLOWED-clause-err c = search rules
