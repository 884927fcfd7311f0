-- How the cells of three replicas came to be.
use Rattle.std.specs.Prelude.{ℕ, ◌==◌, if◌then◌else◌}
use Rattle.bx_acceptor.specs.declared.origin.Origin.{Origin}
use Rattle.bx_paxos_found.specs.declared.origins.Origins.{Origins}

abbrev pub origin_in : Origins → ℕ → Origin
origin_in origins n = if n == 0 then origins.first else (if n == 1 then origins.second else origins.third)
