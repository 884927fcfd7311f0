use Rattle.std.proofs.Common.{◌≡◌, ◌++◌, length, take}
use Rattle.std.specs.Int.{w32, to_be_bytes}
use Rattle.std.specs.List.{flat_map}
use Rattle.bx_mirror_packets.specs.DeviceMessages.{run_text}
use Rattle.bx_mirror_packets.proofs.writing.push_runs.Given as goal

abbrev pub invariant-loop-i : goal.invariant-loop-i
invariant-loop-i l = l.out.items ≡ l.fn.out.items ++ (to_be_bytes w32 (length l.runs.1) ++ flat_map run_text (take l.i l.runs.1))
