-- What images are read as.
use Rattle.std.specs.Prelude.{◌≡◌, ℕ, ◌<◌, ◌≤◌, ◌⊎◌, List, length, Option, Some, None}
use Rattle.bx_acceptor.specs.Standing.{IsFound}
use Rattle.bx_acceptor.specs.declared.origin.Origin.{Origin}
use Rattle.bx_acceptor.specs.declared.origin.Origin.TheVariants.{Made}
use Rattle.bx_agreement.specs.Sound.{HasTwo, IsAhead, IsLevel}
use Rattle.bx_cell.specs.Halves.{Found}
use Rattle.bx_disk.specs.Disks.{Image}
use Rattle.bx_facts.specs.Chains.{IsNext, last}
use Rattle.bx_facts.specs.Labelled.{IsReplicaLabelled}
use Rattle.bx_facts.specs.Pasts.{RegisterPast}
use Rattle.bx_global.specs.declared.held.Held.{Held}
use Rattle.bx_global.specs.declared.state.GlobalState.{GlobalState}

-- These are the cells that can be read on the disks of replicas that are labelled.
pub record AreSeen (devices : ℕ) (sizes : List ℕ) (image : Image) (seen : ℕ → Option Held) : Type 0 where
  pub some : (n : ℕ) (held : Held) → seen n ≡ Some held → IsReplicaLabelled devices sizes image n × ((found : Found) × IsFound devices (image n) found held)
  pub none : (n : ℕ) (found : Found) (held : Held) → seen n ≡ None → IsReplicaLabelled devices sizes image n → IsFound devices (image n) found held → ⊥

-- The accepted state of a replica is read, or where none is above each decided one, the decided state of a replica. Among equals the lowest
-- replica's counts.
pub record IsAheadFirst (cells : ℕ → Option Held) (n : ℕ) (held : Held) : Type 0 where
  pub ahead : IsAhead cells n held
  pub lowest : (m : ℕ) (other : Held) → IsAhead cells m other → n ≤ m

pub record IsLevelFirst (cells : ℕ → Option Held) (n : ℕ) (held : Held) : Type 0 where
  pub level : IsLevel cells n held
  pub lowest : (m : ℕ) (other : Held) → IsLevel cells m other → n ≤ m

abbrev pub ReadsFirst : (ℕ → Option Held) → GlobalState → Type 0
ReadsFirst cells s = ((n : ℕ) × (held : Held) × IsAheadFirst cells n held × (s ≡ held.accepted)) ⊎ ((n : ℕ) × (held : Held) × IsLevelFirst cells n held × (s ≡ held.decided))

-- Cells, two at least, tell a state.
pub record Tells (cells : ℕ → Option Held) (s : GlobalState) : Type 0 where
  pub one : ℕ
  pub other : ℕ
  pub one_held : Held
  pub other_held : Held
  pub two : HasTwo cells one other one_held other_held
  pub reads : ReadsFirst cells s

-- The image of disks of these sizes is read as a state: the accepted one of the highest ballot at the greatest index above each decided one, or where there is none,
-- the decided one of the greatest index, of the cells of replicas that are labelled.
pub record ReadsState (made : GlobalState) (sizes : List ℕ) (image : Image) (s : GlobalState) : Type 0 where
  pub seen : ℕ → Option Held
  pub are : AreSeen (length made.devices) sizes image seen
  pub tells : Tells seen s

-- each cell was made with the volume
abbrev pub AreMade : (ℕ → Origin) → Type 0
AreMade origins = (n : ℕ) → n < 3 → origins n ≡ Made

-- The image is read as the last state of the chain, or as what a change that was handed in makes of it.
abbrev pub ReadsNext : GlobalState → RegisterPast → List ℕ → Image → Type 0
ReadsNext made past sizes image = (s : GlobalState) → ReadsState made sizes image s → IsNext past.proposed (last past.chain) s
