use Rattle.std.proofs.Common.{ℕ, ◌<◌}
use Rattle.bx_disk.specs.Disks.{sector_of}
use Rattle.bx_layout.specs.Labels.{IsOpenGate}
use Rattle.bx_recover.proofs.gates.open_run.Given as goal

abbrev pub invariant-loop-gate : goal.invariant-loop-gate
invariant-loop-gate l = (gate : ℕ) → gate < l.gate → IsOpenGate (sector_of l.gates gate)
