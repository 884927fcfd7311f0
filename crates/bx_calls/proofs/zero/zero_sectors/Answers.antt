use Rattle.std.proofs.Common.{rules}
use Rattle.bx_calls.specs.Calls.{WritesOnly}
use Rattle.bx_calls.proofs.zero.zero_sectors.Goals as goal

pub zero_pieces-requires-clause-blank : goal.zero_pieces-requires-clause-blank
zero_pieces-requires-clause-blank g c = search rules

pub returns-clause-only : goal.returns-clause-only
unfolding WritesOnly
returns-clause-only g c = search rules
