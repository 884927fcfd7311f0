-- The machines, by their names and their numbers.
use Rattle.std.specs.Prelude.{ℕ, zero, suc, ◌+◌, ◌*◌, Bool, not, List, [], ◌∷◌, ◌++◌, filter}
use Rattle.bx_base.specs.declared.names.Actor.{Actor}
use Rattle.bx_base.specs.declared.names.Actor.TheVariants.{Node, Replica, Server, Member}
use Rattle.bx_facts.specs.Machines.{is_same}

-- the number of a machine in its ballots
abbrev pub number_of : Actor → ℕ
number_of (Node n) = n
number_of (Replica n) = 16 + n
number_of (Server n) = 32 + n
number_of (Member n) = 48 + n

-- the first nodes
abbrev pub first_nodes : ℕ → List Actor
first_nodes zero = []
first_nodes (suc n) = first_nodes n ++ Node n ∷ []

-- members A of the first devices, or members B, by the number of the first
abbrev pub first_members : ℕ → ℕ → List Actor
first_members side zero = []
first_members side (suc n) = first_members side n ++ Member (2 * n + side) ∷ []

abbrev pub replicas : List Actor
replicas = Replica 0 ∷ Replica 1 ∷ Replica 2 ∷ []

abbrev pub servers : List Actor
servers = Server 0 ∷ Server 1 ∷ []

-- all machines of a cluster of so many nodes and devices, in their order
abbrev pub machines : ℕ → ℕ → List Actor
machines nodes devices = (((first_nodes nodes ++ replicas) ++ servers) ++ first_members 0 devices) ++ first_members 1 devices

-- all but one
abbrev pub is_other : Actor → Actor → Bool
is_other me who = not (is_same me who)

abbrev pub others_of : Actor → ℕ → ℕ → List Actor
others_of me nodes devices = filter (is_other me) (machines nodes devices)
