-- Runs that are written at once.
use Rattle.std.specs.Prelude.{List}
use Rattle.bx_facts.specs.Writes.{Sent}
use Rattle.bx_records.specs.declared.runs.Run.{Run}

-- a write of these runs
abbrev pub one_write : List Run → Sent
one_write runs = record { session = 0; until = 0; runs = runs }
