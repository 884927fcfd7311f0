use Rattle.std.proofs.Common.{◌≡◌, drop}
use Rattle.bx_lock_tables.specs.Queue.{turn_in}
use Rattle.bx_lock_tables.proofs.turns.turn_in.Given as goal

abbrev pub invariant-loop-turn : goal.invariant-loop-turn
invariant-loop-turn l = turn_in l.turns l.session ≡ turn_in (drop l.turn-index l.turns) l.session
