use Rattle.std.proofs.Common.{◌≡◌, ℕ, ◌<◌, Ok}
use Rattle.bx_disk.specs.Kept.{Faults}
use Rattle.bx_layout.specs.Labels.{IsOpenGate}
use Rattle.bx_volume.specs.Images.{devices_of}
use Rattle.bx_volume.specs.Records.{gate_of}
use Rattle.bx_homes.proofs.gates.open_gates.Given as goal

abbrev pub invariant-loop-gate : goal.invariant-loop-gate
invariant-loop-gate g l = record {
  stays : g.R.Rack.state l.rack ≡ g.R.Rack.state l.fn.rack;
  rack : Faults {A = Unit {0}} g.R.Rack l.fn.rack l.rack (Ok tt);
  opened : g.R.Rack.tells l.fn.rack → (gate : ℕ) → gate < l.gate → IsOpenGate (gate_of (devices_of (g.R.Rack.state l.fn.rack).reads (λ device sector. l.second)) l.devices l.slot gate);
}
