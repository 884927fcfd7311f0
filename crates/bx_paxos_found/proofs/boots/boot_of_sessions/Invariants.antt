use Rattle.std.proofs.Common.{◌≡◌, max, drop}
use Rattle.bx_paxos_found.specs.Boots.{boot_of_sessions}
use Rattle.bx_paxos_found.proofs.boots.boot_of_sessions.Given as goal

abbrev pub invariant-loop-row : goal.invariant-loop-row
invariant-loop-row l = max l.boot (boot_of_sessions (drop l.row-index l.rows)) ≡ boot_of_sessions l.rows
