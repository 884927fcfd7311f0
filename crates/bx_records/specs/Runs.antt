-- Runs of sectors, with the number of the packets that carry them.
use Rattle.std.specs.Prelude.{ℕ, List}
use Rattle.bx_records.specs.declared.runs.Run.{Run}

-- the number of a kind of packets, and the runs in their order
abbrev pub KindAndRuns : Type 0
KindAndRuns = ℕ × List Run
