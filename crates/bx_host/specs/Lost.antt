-- When so many machines have stopped that nothing can go on.
use Rattle.std.specs.Prelude.{◌/◌, ◌==◌, ◌&&◌, not, Bool, false, List}
use Rattle.std.specs.List.{list_any}
use Rattle.bx_base.specs.declared.names.Actor.{Actor}
use Rattle.bx_base.specs.declared.names.Actor.TheVariants.{Node, Replica, Server, Member}

-- two machines are the members of one device, or two replicas
abbrev pub are_pair : Actor → Actor → Bool
are_pair (Node m) other = false
are_pair (Server m) other = false
are_pair (Replica m) (Node n) = false
are_pair (Replica m) (Replica n) = not (m == n)
are_pair (Replica m) (Server n) = false
are_pair (Replica m) (Member n) = false
are_pair (Member m) (Node n) = false
are_pair (Member m) (Replica n) = false
are_pair (Member m) (Server n) = false
are_pair (Member m) (Member n) = not (m == n) && m / 2 == n / 2

-- one of these is the other of a pair
abbrev pub has_pair : List Actor → Actor → Bool
has_pair all who = list_any (are_pair who) all

-- both members of one device, or two replicas, are among these
abbrev pub is_lost : List Actor → Bool
is_lost stopped = list_any (has_pair stopped) stopped
