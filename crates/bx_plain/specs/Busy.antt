-- Machines that have a proposal out.
use Rattle.std.specs.Prelude.{Bool, not}
use Rattle.bx_base.specs.declared.names.Actor.{Actor}
use Rattle.bx_facts.specs.Machines.{is_same}

abbrev pub is_other : Actor → Actor → Bool
is_other who machine = not (is_same who machine)
