-- The machines of a register: what each has, and what is said of it among voters and over disks.
use Rattle.std.specs.Prelude.{◌≡◌, ℕ, ◌+◌, ◌≤◌, List, [], ◌∷◌, ◌++◌, Option, Some, None, IfSome, IsSome, if◌then◌else◌, slice_index}
use Rattle.bx_acceptor.specs.Standing.{HasCell, AcceptorView as Acceptor}
use Rattle.bx_base.specs.declared.names.Actor.{Actor}
use Rattle.bx_cell.specs.Cells.{Known}
use Rattle.bx_cell.specs.Images.{EachSure}
use Rattle.bx_disk.specs.Disks.{Disks}
use Rattle.bx_facts.specs.Chains.{Chain, IsPlace}
use Rattle.bx_facts.specs.Machines.{is_same}
use Rattle.bx_facts.specs.declared.input.Input.{Input}
use Rattle.bx_global.specs.declared.state.GlobalState.{GlobalState}
use Rattle.bx_paxos.specs.Fits.{Voters}
use Rattle.bx_paxos.specs.Machines.{AreHalves, AreOf, KnowsAll, StartsBoth, TakesBoth}
use Rattle.bx_places.specs.Places.{replica_sectors}
use Rattle.bx_post.specs.declared.packets.Letter.{Letter}
use Rattle.bx_rounds.specs.Courses.{started}
use Rattle.bx_proposer.specs.Letters.{asks_of}
use Rattle.bx_proposer.specs.Standing.{IsProposerView as IsProposer, ProposerView as Proposer, Takes, going_on}
use Rattle.bx_rounds.specs.declared.course.Course.{Course}
use Rattle.bx_paxos_found.specs.Origins.{origin_in}
use Rattle.bx_paxos_found.specs.declared.origins.Origins.{Origins}
use Rattle.bx_paxos_machines.specs.declared.machine.Machine.{Machine}
use Rattle.bx_paxos_machines.specs.declared.machine.Machine.TheVariants.{Replica, Other}

-- its proposer, its acceptor, its name, and what it knows and has out
abbrev pub proposer_of : Machine → Proposer
proposer_of (Replica r) = r.proposer
proposer_of (Other p) = p

abbrev pub acceptor_of : Machine → Option Acceptor
acceptor_of (Replica r) = Some r.acceptor
acceptor_of (Other p) = None

abbrev pub name_of : Machine → Actor
name_of m = (proposer_of m).at

abbrev pub course_of : Machine → Course
course_of m = (proposer_of m).course

-- a proposal is out
abbrev pub IsOut : Machine → Type 0
IsOut m = IsSome (course_of m).out

-- the cell of an acceptor, where there is one; how many sectors a cell needs of its disk
abbrev pub cell_held : Option Acceptor → Option Known
cell_held None = None
cell_held (Some a) = a.cell

abbrev pub cell_of : Machine → Option Known
cell_of m = cell_held (acceptor_of m)

abbrev pub sectors_for : Option Known → ℕ
sectors_for None = 0
sectors_for (Some cell) = replica_sectors

-- The parts of a machine go together.
abbrev pub IsWhole : Machine → Type 0
IsWhole (Replica r) = AreHalves r.acceptor r.proposer
IsWhole (Other p) = IsProposer p

-- The machine of a cluster of so many nodes that began with this state, and with cells that came to be so.
pub record IsPart (nodes : ℕ) (made : GlobalState) (origins : Origins) (m : Machine) : Type 0 where
  pub whole : IsWhole m
  pub nodes_are : (proposer_of m).nodes ≡ nodes
  pub first : (proposer_of m).first ≡ made
  pub origin : IfSome (acceptor_of m) (λ a. a.origin ≡ origin_in origins a.replica)

-- It is one of these voters.
abbrev pub IsOf : Voters → Machine → Type 0
IsOf v (Replica r) = AreOf v r.acceptor r.proposer
IsOf v (Other p) = (v.first ≡ p.first) × (v.courses p.actor ≡ p.course)

-- Each image has what its cell holds; what its acceptor knows is a place of the chain.
abbrev pub HasCells : Machine → Disks → Type 0
HasCells m x = IfSome (acceptor_of m) (λ a. EachSure x (HasCell a))

abbrev pub KnowsPlace : Chain → Machine → Type 0
KnowsPlace chain m = IfSome (acceptor_of m) (λ a. IsPlace chain a.held.decided)

-- A rack has the disk of a replica; it has those of all machines that have a cell.
abbrev pub HasDisk : List ℕ → Machine → Type 0
HasDisk sizes m = IfSome (acceptor_of m) (λ a. replica_sectors ≤ slice_index sizes a.replica)

abbrev pub HasCellDisk : List ℕ → Machine → Type 0
HasCellDisk sizes m = IfSome (acceptor_of m) (λ a. IfSome a.cell (λ _. replica_sectors ≤ slice_index sizes a.replica))

-- the machine with this name, and its place in the list: its length, where there is none
abbrev pub machine_at : List Machine → Actor → Option Machine
machine_at [] who = None
machine_at (m ∷ ms) who = if is_same (name_of m) who then Some m else machine_at ms who

abbrev pub place_in : List Machine → Actor → ℕ
place_in [] who = 0
place_in (m ∷ ms) who = if is_same (name_of m) who then 0 else place_in ms who + 1

-- what a machine knows and has out; one that isn't there knows the first state
abbrev pub course_in : GlobalState → Option Machine → Course
course_in made None = started 0 0 made
course_in made (Some m) = course_of m

-- each machine of a list is such a part
abbrev pub AreParts : ℕ → GlobalState → Origins → List Machine → Type 0
AreParts nodes made origins [] = Unit {0}
AreParts nodes made origins (m ∷ ms) = IsPart nodes made origins m × AreParts nodes made origins ms

-- A machine takes what comes: a replica by both its parts, any other by its proposer.
abbrev pub MachineTakes : Machine → Input → Machine → List Letter → List Letter → Type 0 → Type 0
MachineTakes (Replica r) input (Replica new) before after Same = TakesBoth r.acceptor r.proposer input new.acceptor new.proposer before after Same
MachineTakes (Replica r) input (Other p) before after Same = ⊥
MachineTakes (Other p) input (Replica new) before after Same = ⊥
MachineTakes (Other p) input (Other new) before after Same = Takes p input new before after

-- It starts again in a boot: a replica by both its parts; any other knows the first state, has nothing out, and asks for what was decided.
abbrev pub MachineStarts : Machine → ℕ → Machine → List Letter → List Letter → Type 0
MachineStarts (Replica r) boot (Replica new) before after = StartsBoth r.proposer boot new.acceptor new.proposer before after
MachineStarts (Replica r) boot (Other p) before after = ⊥
MachineStarts (Other p) boot (Replica new) before after = ⊥
MachineStarts (Other p) boot (Other new) before after = (new ≡ going_on p (started boot p.course.reading p.first)) × (after ≡ before ++ asks_of p.at)

-- It knows no less than its acceptor.
abbrev pub KnowsNoLess : Machine → Type 0
KnowsNoLess m = IfSome (acceptor_of m) (λ a. KnowsAll a (proposer_of m))
