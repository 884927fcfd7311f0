-- The store and the rack of the tests of stores.
use Rattle.std.specs.Prelude.{◌≡◌, ℕ, List}
use Rattle.bx_facts.specs.Disks.{HasRoom}
use Rattle.bx_facts.specs.Writes.{Made}
use Rattle.bx_global.specs.Allowed.{IsAllowed}
use Rattle.bx_global.specs.declared.state.GlobalState.{GlobalState}

-- what the store is for
abbrev pub made : Made
made = record { volume = 7; nodes = 2; devices = 1; areas = 1 }

-- A store is for it, and a rack has room for it.
pub record IsBench (of_store : Made) (needs : ℕ → ℕ) (sizes : List ℕ) : Type 0 where
  pub made_is : of_store ≡ made
  pub room : HasRoom needs sizes

-- Two nodes use a register and owners beside the store, and the rack has room for both.
pub record IsShared (of_register of_owners : ℕ) (of_store : Made) (register_needs store_needs : ℕ → ℕ) (sizes : List ℕ) : Type 0 where
  pub register : of_register ≡ 2
  pub owners : of_owners ≡ 2
  pub room : HasRoom register_needs sizes
  pub store : IsBench of_store store_needs sizes

-- All machines know a state that is allowed.
pub record IsDesk (of_store : Made) (needs : ℕ → ℕ) (sizes : List ℕ) (state : GlobalState) : Type 0 where
  pub bench : IsBench of_store needs sizes
  pub known : IsAllowed state
