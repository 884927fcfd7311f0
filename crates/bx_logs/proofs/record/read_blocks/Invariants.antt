use Rattle.std.proofs.Common.{◌≡◌, map, take, length, Ok}
use Rattle.bx_disk.specs.Kept.{Fails}
use Rattle.bx_logs.specs.Bodies.{StandOn}
use Rattle.bx_logs.proofs.record.read_blocks.Given as goal

abbrev pub invariant-loop-at : goal.invariant-loop-at
invariant-loop-at g l = record {
  stays : g.R.Rack.state l.rack ≡ g.R.Rack.state l.fn.rack;
  rack : Fails {A = Unit {0}} g.R.Rack l.fn.rack l.rack (Ok tt);
  count : length l.changed ≡ l.at;
  numbers : map (λ change. change.0) l.changed ≡ take l.at l.numbers;
  stand : g.R.Rack.tells l.fn.rack → StandOn (g.R.Rack.state l.fn.rack).reads l.disk l.sector l.changed;
}
