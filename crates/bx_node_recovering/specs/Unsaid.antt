-- The calls that lack a point though their records may be found open.
use Rattle.std.specs.Prelude.{◌≡◌, ◌≢◌, ◌↔◌, ℕ, true, List, Contains, Option, Some}
use Rattle.bx_rows.specs.Words.{row_in}
use Rattle.bx_rows.specs.declared.session.SessionRow.{SessionRow}
use Rattle.bx_world_logs.specs.Logs.{Slot, opens}
use Rattle.bx_world_views.specs.Views.{Unacknowledged}

-- A call lacks its point: it is that of a session's record in doubt, whose gate is being opened in the session's slot.
pub record LacksPoint (rows : List SessionRow) (slots : ℕ → Slot) (doubts : ℕ → Option Unacknowledged) (call : ℕ) : Type 0 where
  pub session : ℕ
  pub row : SessionRow
  pub doubt : Unacknowledged
  pub is_row : row_in rows session ≡ Some row
  pub is : doubts session ≡ Some doubt
  pub opened : opens (slots row.slot).activity ≡ true
  pub call_is : doubt.call ≡ call
  pub some : call ≢ 0

-- these are the calls that lack a point, and no others
abbrev pub AreUnsaid : List SessionRow → (ℕ → Slot) → (ℕ → Option Unacknowledged) → List ℕ → Type 0
AreUnsaid rows slots doubts unsaid = (call : ℕ) → Contains unsaid call ↔ LacksPoint rows slots doubts call
