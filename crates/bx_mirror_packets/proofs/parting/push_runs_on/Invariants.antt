use Rattle.std.proofs.Common.{◌≡◌, ◌++◌, length, take}
use Rattle.std.specs.Int.{w32, to_be_bytes}
use Rattle.std.specs.List.{flat_map}
use Rattle.bx_mirror_packets.specs.DeviceMessages.{run_text}
use Rattle.bx_mirror_packets.specs.Parting.{runs_on}
use Rattle.bx_mirror_packets.proofs.parting.push_runs_on.Given as goal

abbrev pub invariant-loop-i : goal.invariant-loop-i
invariant-loop-i l = l.out.items ≡ l.fn.out.items ++ (to_be_bytes w32 (length (runs_on l.device l.runs.1)) ++ flat_map run_text (runs_on l.device (take l.i l.runs.1)))
