use Rattle.std.proofs.Common.{◌≡◌, length, reverse, Ok}
use Rattle.bx_disk.specs.Kept.{Fails}
use Rattle.bx_homes.specs.bx_volume.specs.Records.{StandOpen}
use Rattle.bx_logs.specs.Members.{held_by}
use Rattle.bx_logs.proofs.log.read_log.Given as goal

abbrev pub invariant-loop-body : goal.invariant-loop-body
invariant-loop-body g l = record {
  stays : g.R.Rack.state l.rack ≡ g.R.Rack.state l.fn.rack;
  rack : Fails {A = Unit {0}} g.R.Rack l.fn.rack l.rack (Ok tt);
  count : length l.records ≡ l.body;
  stand : g.R.Rack.tells l.fn.rack → StandOpen (held_by (g.R.Rack.state l.fn.rack).reads l.members) l.members.devices l.members.areas l.slot (reverse l.records);
}
