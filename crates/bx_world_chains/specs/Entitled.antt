-- Whose a log slot is to write.
use Rattle.std.specs.Prelude.{◌≡◌, ◌⊎◌, ℕ, true, false, Some}
use Rattle.bx_locking.specs.bx_facts.specs.Chains.{Chain, IsPlace, LivesIn}
use Rattle.bx_global.specs.Allowed.{IsAllowed}
use Rattle.bx_global.specs.declared.change.Change.{Change}
use Rattle.bx_global.specs.declared.change.Change.TheVariants.{Close}
use Rattle.bx_global.specs.declared.state.GlobalState.{GlobalState}
use Rattle.bx_global.specs.Table.{effect}
use Rattle.bx_rows.specs.declared.session.SessionRow.{SessionRow}
use Rattle.bx_rows.specs.Words.{is_taken, row_in}

-- In a state the log slot of a session is another's to write: that is live, and it is the session itself, or has claimed it, which is dead.
pub record IsEntitled (s : GlobalState) (owner slot session : ℕ) : Type 0 where
  pub row : SessionRow
  pub is : row_in s.sessions owner ≡ Some row
  pub at : row.slot ≡ slot
  pub lives : LivesIn s session
  pub whose : (owner ≡ session) ⊎ ((row.dead ≡ 1) × (row.by ≡ session))

-- each state of a chain meets the conditions
pub record AreAllowed (chain : Chain) : Type 0 where
  pub each : (s : GlobalState) → IsPlace chain s → IsAllowed s

-- A slot has a row then as before; or one is opened in it; or its session is closed.
pub record ClosesSlot (s : GlobalState) (change : Change) (slot : ℕ) : Type 0 where
  pub gone : ℕ
  pub by : ℕ
  pub row : SessionRow
  pub is : change ≡ Close gone by
  pub had : row_in s.sessions gone ≡ Some row
  pub at : row.slot ≡ slot
  pub was : is_taken s.sessions slot ≡ true
  pub now : is_taken (effect s change).sessions slot ≡ false

abbrev pub SlotGoes : GlobalState → Change → ℕ → Type 0
SlotGoes s change slot =
    (is_taken (effect s change).sessions slot ≡ is_taken s.sessions slot)
    ⊎ (((is_taken s.sessions slot ≡ false) × (is_taken (effect s change).sessions slot ≡ true)) ⊎ ClosesSlot s change slot)
