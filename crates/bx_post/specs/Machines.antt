-- Machines, told apart.
use Rattle.std.specs.Prelude.{◌==◌, Bool, false}
use Rattle.bx_base.specs.declared.names.Actor.{Actor}
use Rattle.bx_base.specs.declared.names.Actor.TheVariants.{Node, Replica, Server, Member}

-- whether two names are one machine's
abbrev pub is_same : Actor → Actor → Bool
is_same (Node n) (Node m) = n == m
is_same (Replica n) (Replica m) = n == m
is_same (Server n) (Server m) = n == m
is_same (Member n) (Member m) = n == m
is_same who other = false
