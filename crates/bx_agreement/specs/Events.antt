-- Three cells and all proposers at once.
use Rattle.std.specs.Prelude.{◌≡◌, ◌≢◌, ℕ, ◌⊎◌, Option}
use Rattle.bx_global.specs.declared.held.Held.{Held}
use Rattle.bx_global.specs.declared.state.GlobalState.{GlobalState}
use Rattle.bx_facts.specs.Chains.{GrowsBy, IsPlace, last}
use Rattle.bx_agreement.specs.History.{History}
use Rattle.bx_agreement.specs.Round.{IsProposer, Round}
use Rattle.bx_agreement.specs.Sound.{IsSound}

-- a machine that proposes, as its number in a ballot names it
pub record Machine : Type 0 where
  pub boot : ℕ
  pub seen : ℕ
  pub known : GlobalState
  pub out : Option Round

pub record HistoryStands (h : History) (cells : ℕ → Option Held) (machines : ℕ → Machine) : Type 0 where
  pub sound : IsSound h cells
  pub each : (me : ℕ) → IsProposer h me (machines me).boot (machines me).seen (machines me).known (machines me).out

-- one machine becomes this, and the others stay
pub record Turns (me : ℕ) (machine : Machine) (old new : ℕ → Machine) : Type 0 where
  pub at : new me ≡ machine
  pub others : (m : ℕ) → m ≢ me → new m ≡ old m

abbrev pub Is : History → ℕ → Machine → Type 0
Is h me x = IsProposer h me x.boot x.seen x.known x.out

-- A state is known: the chain has it, as it was or grown by one change, which makes it.
pub record Decides (h new : History) (cells : ℕ → Option Held) (machines : ℕ → Machine) (s : GlobalState) : Type 0 where
  pub stands : HistoryStands new cells machines
  pub place : IsPlace new.chain s
  pub grows : GrowsBy h.proposed h.chain new.chain
  pub told : (new.chain ≡ h.chain) ⊎ (s ≡ last new.chain)
