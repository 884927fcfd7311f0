-- What the calls of nodes make of the clerks.
use Rattle.std.specs.Prelude.{◌≡◌, ℕ, ◌≤◌}
use Rattle.bx_base.specs.declared.names.Actor.TheVariants.{Node}
use Rattle.bx_base.specs.declared.names.Mode.{Mode}
use Rattle.bx_clerk.specs.Clerks.{Clerking, asking, giving_up}
use Rattle.bx_global.specs.Table.{greatest}
use Rattle.bx_global.specs.declared.state.GlobalState.{GlobalState}
use Rattle.bx_lock_machines.specs.Keeps.{IsStart}
use Rattle.bx_rows.specs.Conditions.{Fits}
use Rattle.bx_locks.specs.Machines.{AreMade, LockMachines, OnlyMachine, clerk_of, nodes_of}

-- New ones, in a cluster that begins with some state.
pub record AreNew (o : LockMachines) : Type 0 where
  pub state : GlobalState
  pub made : AreMade (nodes_of o) state o

-- They are made for so many nodes, and for a state that a cluster may begin with.
pub record IsFor (nodes : ℕ) (s : GlobalState) (o : LockMachines) : Type 0 where
  pub made : AreMade nodes s o
  pub start : IsStart s
  pub index_fits : Fits s.index

-- the greatest number is drawn
abbrev pub IsSpent : Clerking → Type 0
IsSpent c = greatest ≤ c.drawn

-- A node's clerk asks for a block, and all else is as it was: what is granted later comes by a packet.
pub record Asks (node block : ℕ) (mode : Mode) (old new : LockMachines) : Type 0 where
  pub here : clerk_of new node ≡ asking block mode (clerk_of old node)
  pub only : OnlyMachine (Node node) old new

-- A node's clerk gives a block up at some index, and all else is as it was: who has it next is told by a packet.
pub record GivesUp (node block : ℕ) (old new : LockMachines) : Type 0 where
  pub index : ℕ
  pub here : clerk_of new node ≡ giving_up block index (clerk_of old node)
  pub only : OnlyMachine (Node node) old new
