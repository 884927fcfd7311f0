-- Which machines are up, and what is known.
use Rattle.std.specs.Prelude.{ℕ, zero, suc, ◌*◌, nat_lt, Bool, not, List, [], ◌∷◌, ◌++◌, filter, if◌then◌else◌}
use Rattle.std.specs.List.{list_any}
use Rattle.bx_base.specs.declared.names.Actor.{Actor}
use Rattle.bx_base.specs.declared.names.Actor.TheVariants.{Node, Replica, Server, Member}
use Rattle.bx_global.specs.declared.state.GlobalState.{GlobalState}
use Rattle.bx_post.specs.Machines.{is_same}

-- whether a machine is one of those that are up
abbrev pub is_up : List Actor → Actor → Bool
is_up up who = list_any (λ one. is_same who one) up

-- those that are up, but one
abbrev pub up_without : Actor → List Actor → List Actor
up_without who up = filter (λ one. not (is_same who one)) up

-- the greater of two states
abbrev pub greater : GlobalState → GlobalState → GlobalState
greater state known = if nat_lt state.index known.index then known else state

-- machines of one kind, with the first so many numbers
abbrev pub named : (ℕ → Actor) → ℕ → List Actor
named name zero = []
named name (suc n) = named name n ++ name n ∷ []

-- all machines of so many nodes and devices
abbrev pub first_up : ℕ → ℕ → List Actor
first_up nodes devices = named Node nodes ++ (named Replica 3 ++ (named Server 2 ++ named Member (2 * devices)))
