-- Machines that begin: in which order they stand, and what each has and knows.
use Rattle.std.specs.Prelude.{◌≡◌, ℕ, ◌-◌, ◌<◌, nat_lt, false, List, [], ◌∷◌, Some, None, IfSome, IsSome, if◌then◌else◌}
use Rattle.bx_answers.specs.Handling.{first_held}
use Rattle.bx_base.specs.declared.names.Actor.{Actor}
use Rattle.bx_base.specs.declared.names.Actor.TheVariants.{Node, Replica, Server, Member}
use Rattle.bx_cell.specs.Formats.{first}
use Rattle.bx_cell.specs.Halves.{cell_in}
use Rattle.bx_disk.specs.Disks.{Disks, Image}
use Rattle.bx_facts.specs.Machines.{IsMachine}
use Rattle.bx_global.specs.Bytes.{held_text}
use Rattle.bx_global.specs.declared.state.GlobalState.{GlobalState}
use Rattle.bx_paxos_found.specs.declared.origins.Origins.{Origins}
use Rattle.bx_rounds.specs.Courses.{started}
use Rattle.bx_paxos_machines.specs.declared.machine.Machine.{Machine}
use Rattle.bx_paxos_machines.specs.Parts.{AreParts, HasCells, acceptor_of, cell_of, course_of, machine_at}

-- the order of the machines: replicas, servers, members, nodes
abbrev pub name_in : ℕ → Actor
name_in place = if nat_lt place 3 then Replica place else (if nat_lt place 5 then Server (place - 3) else (if nat_lt place 13 then Member (place - 5) else Node (place - 13)))

-- nothing was done with it: it knows the first state, and so does its acceptor; it has nothing out, and no cell
pub record IsNew (made : GlobalState) (m : Machine) : Type 0 where
  pub course : course_of m ≡ started 0 0 made
  pub cell : cell_of m ≡ None
  pub knows : IfSome (acceptor_of m) (λ a. a.held.decided ≡ made)

abbrev pub AreNew : GlobalState → List Machine → Type 0
AreNew made [] = Unit {0}
AreNew made (m ∷ ms) = IsNew made m × AreNew made ms

-- each knows the first state, and has nothing out
abbrev pub AreIdle : GlobalState → List Machine → Type 0
AreIdle made [] = Unit {0}
AreIdle made (m ∷ ms) = (course_of m ≡ started 0 0 made) × AreIdle made ms

-- it has begun: it knows the first state, and so does its acceptor, whose cell stands in each image
pub record IsBegun (made : GlobalState) (x : Disks) (m : Machine) : Type 0 where
  pub course : course_of m ≡ started 0 0 made
  pub cells : HasCells m x
  pub knows : IfSome (acceptor_of m) (λ a. a.held.decided ≡ made)

abbrev pub AreBegun : GlobalState → Disks → List Machine → Type 0
AreBegun made x [] = Unit {0}
AreBegun made x (m ∷ ms) = IsBegun made x m × AreBegun made x ms

-- These are the machines of a cluster of so many nodes, all of them.
pub record AreMachines (nodes : ℕ) (made : GlobalState) (origins : Origins) (ms : List Machine) : Type 0 where
  pub parts : AreParts nodes made origins ms
  pub all : (who : Actor) → IsMachine nodes who → IsSome (machine_at ms who)

-- Each replica's cell has the first state, as it was written with the volume.
pub record HasFirst (made : GlobalState) (image : Image) : Type 0 where
  pub each : (n : ℕ) → n < 3 → cell_in (image n) 1 ≡ Some (first (held_text (first_held made)))

-- All reads as it did, and what was sure is sure.
pub record IsCalm (old new : Disks) : Type 0 where
  pub reads : new.reads ≡ old.reads
  pub sure : (d s : ℕ) → old.unsure d s ≡ false → new.unsure d s ≡ false
