-- What the disks of replicas have, by how their cells came to be.
use Rattle.std.specs.Prelude.{◌≡◌, ℕ, ◌<◌, ◌≤◌, ◌⊎◌, List, length, Option, Some, None}
use Rattle.bx_acceptor.specs.Standing.{IsFound}
use Rattle.bx_acceptor.specs.declared.origin.Origin.{Origin}
use Rattle.bx_acceptor.specs.declared.origin.Origin.TheVariants.{Made, Found as FoundAs, Apart}
use Rattle.bx_cell.specs.Halves.{Found}
use Rattle.bx_disk.specs.Disks.{Image}
use Rattle.bx_facts.specs.Labelled.{IsReplicaLabelled}
use Rattle.bx_global.specs.declared.held.Held.{Held}
use Rattle.bx_global.specs.declared.state.GlobalState.{GlobalState}
use Rattle.bx_paxos.specs.Reading.{AreMade, Tells}

-- The replica isn't labelled, or its disk has no cell that can be read.
pub record IsUnread (devices : ℕ) (sizes : List ℕ) (image : Image) (n : ℕ) : Type 0 where
  pub none : (found : Found) (held : Held) → IsReplicaLabelled devices sizes image n → IsFound devices (image n) found held → ⊥

-- The replica is labelled, and its disk has a cell under this number, or under a later one. Under this one it has what was found.
pub record IsKnown (devices number : ℕ) (was : Held) (sizes : List ℕ) (image : Image) (n : ℕ) : Type 0 where
  pub label : IsReplicaLabelled devices sizes image n
  pub found : Found
  pub held : Held
  pub is : IsFound devices (image n) found held
  pub later : number ≤ found.number
  pub as_found : found.number ≡ number → held ≡ was

-- What a replica's disk has: a cell, where that was made with the volume; where it was found, a label too; and where the replica takes no part,
-- nothing that is read.
abbrev pub ShowsOne : ℕ → Origin → Option Held → List ℕ → Image → ℕ → Type 0
ShowsOne devices Made was sizes image n = (found : Found) × (held : Held) × IsFound devices (image n) found held
ShowsOne devices (FoundAs number) was sizes image n = (held : Held) × (was ≡ Some held) × IsKnown devices number held sizes image n
ShowsOne devices Apart was sizes image n = (was ≡ None) × IsUnread devices sizes image n

pub record Shows (first : GlobalState) (origins : ℕ → Origin) (was : ℕ → Option Held) (sizes : List ℕ) (image : Image) : Type 0 where
  pub each : (n : ℕ) → n < 3 → ShowsOne (length first.devices) (origins n) (was n) sizes image n

-- The same of a disk that stands as it was found.
abbrev pub IsAsItWas : ℕ → Origin → Option Held → List ℕ → Image → ℕ → Type 0
IsAsItWas devices Made was sizes image n = ⊥
IsAsItWas devices (FoundAs number) was sizes image n = (held : Held) × (was ≡ Some held) × IsReplicaLabelled devices sizes image n × ((found : Found) × (found.number ≡ number) × IsFound devices (image n) found held)
IsAsItWas devices Apart was sizes image n = (was ≡ None) × IsUnread devices sizes image n

pub record StandsAsFound (first : GlobalState) (origins : ℕ → Origin) (was : ℕ → Option Held) (sizes : List ℕ) (image : Image) : Type 0 where
  pub each : (n : ℕ) → n < 3 → IsAsItWas (length first.devices) (origins n) (was n) sizes image n

-- The cells that were found told the first state.
pub record HasFound (first : GlobalState) (origins : ℕ → Origin) (was : ℕ → Option Held) : Type 0 where
  pub low : (n : ℕ) (held : Held) → was n ≡ Some held → n < 3
  pub none_made : (n : ℕ) → n < 3 → origins n ≡ Made → ⊥
  pub tells : Tells was first

-- The cells were made with the volume, or found.
abbrev pub HasBegun : GlobalState → (ℕ → Origin) → (ℕ → Option Held) → Type 0
HasBegun first origins was = AreMade origins ⊎ HasFound first origins was
