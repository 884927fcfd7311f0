-- Records that are under way in log slots, and the records in doubt of their sessions: they are the same.
use Rattle.std.specs.Prelude.{◌≡◌, ℕ, true, List, Option, Some, IsSomeAnd}
use Rattle.bx_rows.specs.Words.{row_in}
use Rattle.bx_rows.specs.declared.session.SessionRow.{SessionRow}
use Rattle.bx_world_logs.specs.bx_volume.specs.Records.{Logged}
use Rattle.bx_world_logs.specs.Logs.{Slot, begins}
use Rattle.bx_world_views.specs.Views.{Act, Unacknowledged, OfCall, OfTidy}

-- What the header of a record tells of what the record does: of a call its moment and its numbers, of a tidy that it is of no call.
abbrev pub IsActOf : Logged → Act → Type 0
IsActOf more OfTidy = more.head.call ≡ 0
IsActOf more (OfCall deed) = (deed.moment ≡ more.head.moment) × (deed.spare ≡ more.head.spare) × (deed.made ≡ more.head.made)

-- The record of a slot is that in doubt: of the same blocks and the same call, at its point.
pub record IsRecordOf (more : Logged) (doubt : Unacknowledged) : Type 0 where
  pub draft : more.changed ≡ doubt.draft
  pub call : more.head.call ≡ doubt.call
  pub act : IsActOf more doubt.act

-- Where a record is under way in a slot, its session's record in doubt is that one; and each record in doubt is under way in a slot whose session has a row.
pub record DoubtsStand (rows : List SessionRow) (slots : ℕ → Slot) (doubts : ℕ → Option Unacknowledged) : Type 0 where
  pub each : (session : ℕ) (row : SessionRow) → row_in rows session ≡ Some row → begins (slots row.slot).activity ≡ true → IsSomeAnd (doubts session) (IsRecordOf (slots row.slot).more)
  pub only : (session : ℕ) (doubt : Unacknowledged) → doubts session ≡ Some doubt → (row : SessionRow) × (row_in rows session ≡ Some row) × (begins (slots row.slot).activity ≡ true)
