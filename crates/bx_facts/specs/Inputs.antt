-- What comes to a machine: letters of its layer, and readings of its clock.
use Rattle.std.specs.Prelude.{ℕ, ◌+◌, ◌≤◌, ◌⊎◌, max, List, Contains}
use Rattle.bx_calls.specs.bx_disk.specs.declared.fault.RackError.{RackError}
use Rattle.bx_calls.specs.bx_disk.specs.declared.fault.RackError.TheVariants.{Fault, OutOfMemory as NoMemory}
use Rattle.bx_facts.specs.declared.input.FactError.{FactError}
use Rattle.bx_facts.specs.declared.input.FactError.TheVariants.{Disk, OutOfMemory}
use Rattle.bx_facts.specs.declared.input.Input.{Input}
use Rattle.bx_facts.specs.declared.input.Input.TheVariants.{Packet, Tick, Synced}
use Rattle.bx_post.specs.declared.packets.Letter.{Letter}
use Rattle.bx_post.specs.Posts.{letter_of}

-- the error that a rack's makes
abbrev pub fact_of : RackError → FactError
fact_of Fault = Disk
fact_of NoMemory = OutOfMemory

-- The kinds of letters: those of the register are asks, decided states, prepares, promises, accepts, accepted and refused ones; those of the owners
-- wants, grants, revokes, releases, renewals and leases; those of the store writes, reads, copies, their answers, and signs of life.
pub record IsRegisters (letter : Letter) : Type 0 where
  pub least : 1 ≤ letter.kind
  pub most : letter.kind ≤ 7

pub record IsOwners (letter : Letter) : Type 0 where
  pub least : 8 ≤ letter.kind
  pub most : letter.kind ≤ 13

pub record IsStores (letter : Letter) : Type 0 where
  pub least : 14 ≤ letter.kind
  pub most : letter.kind ≤ 24

-- What comes, where it is a packet, is one of these letters.
abbrev pub IsComing : List Letter → Input → Type 0
IsComing letters (Packet packet reading) = Contains letters (letter_of packet.now)
IsComing letters (Tick reading) = Unit {0}
IsComing letters Synced = Unit {0}

-- Of these letters those of one layer are among the others.
pub record AreAmong (IsOwn : Letter → Type 0) (letters others : List Letter) : Type 0 where
  pub each : (letter : Letter) → IsOwn letter → Contains letters letter → Contains others letter

-- The letters that were in the box are there, and the others are of one layer.
pub record SendsOnly (IsOwn : Letter → Type 0) (old new : List Letter) : Type 0 where
  pub kept : (letter : Letter) → Contains old letter → Contains new letter
  pub each : (letter : Letter) → Contains new letter → Contains old letter ⊎ IsOwn letter

-- the greatest reading, with that of an input
abbrev pub greatest_with : ℕ → Input → ℕ
greatest_with greatest (Packet packet reading) = max greatest reading
greatest_with greatest (Tick reading) = max greatest reading
greatest_with greatest Synced = greatest

-- an input's reading isn't more than 500 below the greatest one
abbrev pub IsSteady : ℕ → Input → Type 0
IsSteady greatest (Packet packet reading) = greatest ≤ reading + 500
IsSteady greatest (Tick reading) = greatest ≤ reading + 500
IsSteady greatest Synced = Unit {0}
