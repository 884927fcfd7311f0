use Rattle.std.proofs.Common.{◌≡◌, map, take, length}
use Rattle.bx_logs.specs.Bodies.{StandOn}
use Rattle.bx_recover.specs.Bodies.{held_in}
use Rattle.bx_recover.proofs.bodies.read_blocks.Given as goal

abbrev pub invariant-loop-at : goal.invariant-loop-at
invariant-loop-at l = record {
  count : length l.changed ≡ l.at;
  numbers : map (λ change. change.0) l.changed ≡ take l.at l.numbers;
  stand : StandOn (held_in l.bytes) 0 1 l.changed;
}
