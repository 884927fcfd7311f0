use Rattle.std.proofs.Common.{◌≡◌, ℕ, ◌<◌, ◌≤◌, false, length}
use Rattle.bx_disk.specs.Disks.{IsImage}
use Rattle.bx_replay.specs.Bench.{after_crashes}
use Rattle.bx_replay.proofs.bench.crash_all.Given as goal

abbrev pub invariant-loop-disk : goal.invariant-loop-disk
invariant-loop-disk g l = record {
  within : l.disk ≤ length (g.B.Rack.state l.fn.bench).sizes;
  noise : g.B.Rack.tells l.fn.bench → g.B.Rack.state l.bench ≡ after_crashes (g.B.Rack.state l.fn.bench) l.fn.noise l.disk;
  left : g.B.Rack.tells l.fn.bench → IsImage (g.B.Rack.state l.fn.bench) (g.B.Rack.state l.bench).reads;
  mostly : g.B.Rack.tells l.fn.bench → (d s : ℕ) → (g.B.Rack.state l.fn.bench).unsure d s ≡ false → (g.B.Rack.state l.bench).unsure d s ≡ false;
  sure : g.B.Rack.tells l.fn.bench → (d s : ℕ) → d < l.disk → (g.B.Rack.state l.bench).unsure d s ≡ false;
  no_fault : g.B.Rack.faults l.bench ≡ g.B.Rack.faults l.fn.bench;
  sizes : (g.B.Rack.state l.bench).sizes ≡ (g.B.Rack.state l.fn.bench).sizes;
  tells : g.B.Rack.tells l.fn.bench → g.B.Rack.tells l.bench;
}
