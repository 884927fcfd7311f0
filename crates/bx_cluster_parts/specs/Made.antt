-- What the store of a cluster is made for.
use Rattle.std.specs.Prelude.{ℕ}
use Rattle.bx_facts.specs.Writes.{Made}

abbrev pub made_by : ℕ → ℕ → ℕ → ℕ → Made
made_by volume nodes devices areas = record { volume = volume; nodes = nodes; devices = devices; areas = areas }
