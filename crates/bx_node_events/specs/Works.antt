-- What an event leaves of what is under way in the log slots, and of the records in doubt.
use Rattle.std.specs.Prelude.{◌≡◌, ◌≢◌, ℕ, Option, Some}
use Rattle.bx_facts.specs.Chains.{last}
use Rattle.bx_rows.specs.Words.{row_in}
use Rattle.bx_rows.specs.declared.session.SessionRow.{SessionRow}
use Rattle.bx_world_standing.specs.Standing.{Course}

-- All of both stays.
pub record KeepsWorks (old new : Course) : Type 0 where
  pub slots : new.slots ≡ old.slots
  pub doubts : new.doubts ≡ old.doubts

-- A node did something under its own session, where it has one: what is of all other sessions stays.
pub record LeavesWorks (own : Option ℕ) (old new : Course) : Type 0 where
  pub slots : (session : ℕ) (row : SessionRow) → own ≢ Some session → row_in (last old.register.chain).sessions session ≡ Some row → (new.slots row.slot).activity ≡ (old.slots row.slot).activity
  pub doubts : (session : ℕ) → own ≢ Some session → new.doubts session ≡ old.doubts session
