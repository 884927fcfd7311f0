-- What three replicas count as holding in an image.
use Rattle.std.specs.Prelude.{◌≡◌, ℕ, ◌<◌, List, length, Option, Some, None}
use Rattle.bx_acceptor.specs.Standing.{CatchesUp, IsFound, TakesPart}
use Rattle.bx_acceptor.specs.declared.origin.Origin.{Origin}
use Rattle.bx_agreement.specs.History.{History}
use Rattle.bx_agreement.specs.Sound.{IsSound}
use Rattle.bx_cell.specs.Halves.{Found}
use Rattle.bx_disk.specs.Disks.{Image}
use Rattle.bx_global.specs.declared.held.Held.{Held}
use Rattle.bx_global.specs.declared.state.GlobalState.{GlobalState}

-- By the sectors of its disk a replica holds this: it takes part with its cell, and has what stands there, or what that is once it has caught
-- up with the first state.
pub record IsCounted (first : GlobalState) (origin : Origin) (sectors : ℕ → List ℕ) (held : Held) : Type 0 where
  pub found : Found
  pub raw : Held
  pub part : TakesPart origin found.number
  pub is : IsFound (length first.devices) sectors found raw
  pub catches : CatchesUp origin first found.number raw held

-- these are what the replicas hold in an image; a replica that holds nothing has none
pub record AreCounted (first : GlobalState) (origins : ℕ → Origin) (image : Image) (cells : ℕ → Option Held) : Type 0 where
  pub some : (n : ℕ) (held : Held) → cells n ≡ Some held → (n < 3) × IsCounted first (origins n) (image n) held
  pub none : (n : ℕ) (held : Held) → n < 3 → cells n ≡ None → IsCounted first (origins n) (image n) held → ⊥

-- what an image holds is sound
pub record IsHeldSound (first : GlobalState) (origins : ℕ → Origin) (h : History) (image : Image) : Type 0 where
  pub cells : ℕ → Option Held
  pub are : AreCounted first origins image cells
  pub sound : IsSound h cells
