-- Rows of sessions and of devices, and what a change makes of them.
use Rattle.std.specs.Prelude.{◌≡◌, ℕ, zero, suc, ◌+◌, Bool, not, ◌==◌, ◌&&◌, if◌then◌else◌, List, [], ◌∷◌, filter}
use Rattle.bx_rows.specs.declared.device.DeviceRow.{DeviceRow}
use Rattle.bx_rows.specs.declared.session.SessionRow.{SessionRow}

-- whether it is the live session of a node and boot
abbrev pub is_of : ℕ → ℕ → SessionRow → Bool
is_of node boot row = row.node == node && (row.boot == boot && row.dead == 0)

-- a row that is dead
abbrev pub dead : SessionRow → SessionRow
dead row = record row { dead = 1 }

-- the row of a session is dead, and all others as they were
abbrev pub expired : ℕ → SessionRow → SessionRow
expired session row = if row.number == session then dead row else row

-- the row of a session is claimed, and all others as they were
abbrev pub claimed : ℕ → ℕ → SessionRow → SessionRow
claimed session by row = if row.number == session then record row { by = by } else row

-- the rows but that of a session
abbrev pub without : ℕ → List SessionRow → List SessionRow
without session rows = filter (λ row. not (row.number == session)) rows

-- What stays of a session's row as long as there is one: its number, whose it is, its slot and its end. Once dead it
-- stays dead.
pub record GoesOn (old new : SessionRow) : Type 0 where
  pub number : new.number ≡ old.number
  pub node : new.node ≡ old.node
  pub boot : new.boot ≡ old.boot
  pub slot : new.slot ≡ old.slot
  pub until : new.until ≡ old.until
  pub dead : old.dead ≡ 1 → new.dead ≡ 1

-- a device in another mode
abbrev pub shifted : ℕ → Bool → ℕ → DeviceRow → DeviceRow
shifted mode second boot row =
    if second then record row { mode = mode; epoch = row.epoch + 1; boot_b = boot } else record row { mode = mode; epoch = row.epoch + 1; boot_a = boot }

-- the rows, of which the one at a place is changed
abbrev pub at_place : ℕ → (DeviceRow → DeviceRow) → List DeviceRow → List DeviceRow
at_place n change [] = []
at_place zero change (row ∷ rows) = change row ∷ rows
at_place (suc n) change (row ∷ rows) = row ∷ at_place n change rows
