-- A write whose runs are on several devices, said to one of them.
use Rattle.std.specs.Prelude.{ℕ, ◌==◌, filter, List}
use Rattle.bx_records.specs.declared.runs.Run.{Run}
use Rattle.bx_mirror_packets.specs.declared.message.WriteBody.{WriteBody}
use Rattle.bx_mirror_packets.specs.declared.parting.WriteHead.{WriteHead}

-- those of the runs that are on a device
abbrev pub runs_on : ℕ → List Run → List Run
runs_on device runs = filter (λ run. run.device == device) runs

-- what is said to a device of such a write
abbrev pub write_of : WriteHead → List Run → WriteBody
write_of head runs = record { session = head.session; device = head.device; epoch = head.epoch; sequence = head.sequence; until = head.until; runs = (head.kind, runs_on head.device runs) }
