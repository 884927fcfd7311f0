-- The order of machines: nodes, replicas, lock servers, members A of all devices, members B.
use Rattle.std.specs.Prelude.{◌≡◌, ℕ, ◌+◌, ◌/◌, ◌%◌, ◌<◌, ◌⊎◌}
use Rattle.std.specs.Ordering.{nat_cmp, on, then_cmp}
use Rattle.std.specs.declared.cmp.Ordering.{Ordering}
use Rattle.bx_base.specs.declared.names.Actor.{Actor}
use Rattle.bx_base.specs.declared.names.Actor.TheVariants.{Node, Replica, Server, Member}

-- the place of a machine's kind among the five kinds
abbrev pub kind_of : Actor → ℕ
kind_of (Node n) = 0
kind_of (Replica n) = 1
kind_of (Server n) = 2
kind_of (Member n) = 3 + n % 2

-- its number among the machines of its kind: of a member, the device's
abbrev pub number_of : Actor → ℕ
number_of (Node n) = n
number_of (Replica n) = n
number_of (Server n) = n
number_of (Member n) = n / 2

-- a machine comes before another: by its kind, and among those of its kind by its number
abbrev pub ComesBefore : Actor → Actor → Type 0
ComesBefore a b = (kind_of a < kind_of b) ⊎ ((kind_of a ≡ kind_of b) × (number_of a < number_of b))

-- what compares two machines
abbrev pub actor_cmp : Actor → Actor → Ordering
actor_cmp = then_cmp (on kind_of nat_cmp) (on number_of nat_cmp)
