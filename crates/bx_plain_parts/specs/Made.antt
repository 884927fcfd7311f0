-- What the store of a cluster is made for.
use Rattle.std.specs.Prelude.{ℕ}
use Rattle.bx_facts.specs.Writes.{Made}
use Rattle.bx_plain_parts.specs.declared.parts.Shape.{Shape}

abbrev pub made_by : ℕ → Shape → Made
made_by volume shape = record { volume = volume; nodes = shape.nodes; devices = shape.devices; areas = shape.areas }
