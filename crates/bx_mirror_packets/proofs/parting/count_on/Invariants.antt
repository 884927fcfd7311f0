use Rattle.std.proofs.Common.{◌≡◌, ◌≤◌, length, take}
use Rattle.bx_mirror_packets.specs.Parting.{runs_on}
use Rattle.bx_mirror_packets.proofs.parting.count_on.Given as goal

abbrev pub invariant-loop-i : goal.invariant-loop-i
invariant-loop-i l = record {
  counted : l.count ≡ length (runs_on l.device (take l.i l.runs.1));
  few : l.count ≤ l.i;
}
