use Rattle.std.proofs.Common.{◌≡◌, ℕ, ◌<◌, length, reverse, Ok}
use Rattle.bx_disk.specs.Kept.{Fails}
use Rattle.bx_homes.specs.bx_volume.specs.Records.{HasLog}
use Rattle.bx_logs.specs.Logs.{log_in}
use Rattle.bx_logs.specs.Members.{held_by}
use Rattle.bx_logs.proofs.logs.read_logs.Given as goal

abbrev pub invariant-loop-slot : goal.invariant-loop-slot
invariant-loop-slot g l = record {
  stays : g.R.Rack.state l.rack ≡ g.R.Rack.state l.fn.rack;
  rack : Fails {A = Unit {0}} g.R.Rack l.fn.rack l.rack (Ok tt);
  count : length l.logs ≡ l.slot;
  each : g.R.Rack.tells l.fn.rack → (slot : ℕ) → slot < l.slot → HasLog l.sessions (held_by (g.R.Rack.state l.fn.rack).reads l.members) l.members.devices l.members.areas slot (reverse (log_in l.logs slot));
}
