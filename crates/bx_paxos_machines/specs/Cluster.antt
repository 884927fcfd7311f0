-- The register of a cluster: its machines, and what each knows, has out and needs.
use Rattle.std.specs.Prelude.{◌≡◌, ◌≢◌, ℕ, ◌+◌, ◌-◌, ◌^◌, ◌<◌, ◌≤◌, nat_lt, List, length, Option, Some, None, IsSome, IsSomeAnd, if◌then◌else◌}
use Rattle.bx_base.specs.declared.names.Actor.{Actor}
use Rattle.bx_base.specs.declared.names.Actor.TheVariants.{Node, Replica, Server, Member}
use Rattle.bx_facts.specs.Machines.{IsMachine}
use Rattle.bx_global.specs.Allowed.{IsAllowed}
use Rattle.bx_global.specs.declared.state.GlobalState.{GlobalState}
use Rattle.bx_paxos.specs.Fits.{Voters}
use Rattle.bx_paxos_found.specs.Origins.{origin_in}
use Rattle.bx_paxos_found.specs.declared.origins.Origins.{Origins}
use Rattle.bx_rounds.specs.declared.course.Course.{Course}
use Rattle.bx_paxos_machines.specs.declared.machine.Machine.{Machine}
use Rattle.bx_paxos_machines.specs.Parts.{AreParts, IsOut, cell_of, course_in, machine_at, sectors_for}

-- How many nodes there are, the state that it was made with, the one with which its machines began, how the cells of replicas came to be, and all
-- machines.
pub record Cluster : Type 0 where
  pub nodes : ℕ
  pub made : GlobalState
  pub first : GlobalState
  pub origins : Origins
  pub machines : List Machine

-- What holds of each: there are at most sixteen nodes; the state that it was made with meets the conditions, and another may follow; so does its
-- first state, of as many devices; each machine is there and is one of this cluster's.
pub record IsCluster (g : Cluster) : Type 0 where
  pub few : g.nodes ≤ 16
  pub allowed : IsAllowed g.made
  pub index : g.made.index + 1 < 2 ^ 64
  pub first_allowed : IsAllowed g.first
  pub first_index : g.first.index + 1 < 2 ^ 64
  pub devices : length g.first.devices ≡ length g.made.devices
  pub parts : AreParts g.nodes g.first g.origins g.machines
  pub all : (who : Actor) → IsMachine g.nodes who → IsSome (machine_at g.machines who)

-- the machine with this number in its ballots
abbrev pub named : ℕ → Actor
named me = if nat_lt me 16 then Node me else (if nat_lt me 32 then Replica (me - 16) else (if nat_lt me 48 then Server (me - 32) else Member (me - 48)))

abbrev pub course_at : Cluster → Actor → Course
course_at g who = course_in g.first (machine_at g.machines who)

-- the state that a machine knows; whether it has a proposal out
abbrev pub knows : Cluster → Actor → GlobalState
knows g who = (course_at g who).known

abbrev pub is_busy : Cluster → Actor → Type 0
is_busy g who = IsSomeAnd (machine_at g.machines who) IsOut

-- how many sectors are needed of a disk: those of a replica that has its cell
abbrev pub needs_in : Option Machine → ℕ
needs_in None = 0
needs_in (Some m) = sectors_for (cell_of m)

abbrev pub needs : Cluster → ℕ → ℕ
needs g disk = if nat_lt disk 3 then needs_in (machine_at g.machines (Replica disk)) else 0

-- its machines as voters
abbrev pub voters_of : Cluster → Voters
voters_of g = record { nodes = g.nodes; first = g.first; origins = origin_in g.origins; courses = λ me. course_at g (named me) }

-- Every other machine is as it was.
pub record OnlyMachine (who : Actor) (old new : Cluster) : Type 0 where
  pub others : (other : Actor) → other ≢ who → machine_at new.machines other ≡ machine_at old.machines other

-- The machine is there, and goes so from what it was to what it is.
pub record Moves (who : Actor) (Goes : Machine → Machine → Type 0) (old new : Cluster) : Type 0 where
  pub was : Machine
  pub is : Machine
  pub there : machine_at old.machines who ≡ Some was
  pub here : machine_at new.machines who ≡ Some is
  pub goes : Goes was is
