-- The greatest boot in a cell: those of its ballots and of its states.
use Rattle.std.specs.Prelude.{ℕ, max, List, [], ◌∷◌}
use Rattle.bx_global.specs.declared.held.Held.{Held}
use Rattle.bx_global.specs.declared.state.GlobalState.{GlobalState}
use Rattle.bx_rows.specs.declared.device.DeviceRow.{DeviceRow}
use Rattle.bx_rows.specs.declared.session.SessionRow.{SessionRow}

abbrev pub boot_of_sessions : List SessionRow → ℕ
boot_of_sessions [] = 0
boot_of_sessions (row ∷ rows) = max row.boot (boot_of_sessions rows)

abbrev pub boot_of_devices : List DeviceRow → ℕ
boot_of_devices [] = 0
boot_of_devices (row ∷ rows) = max (max row.boot_a row.boot_b) (boot_of_devices rows)

abbrev pub boot_of_state : GlobalState → ℕ
boot_of_state s = max s.master_boot (max (boot_of_sessions s.sessions) (boot_of_devices s.devices))

abbrev pub boot_of_held : Held → ℕ
boot_of_held held = max (max held.promise.boot held.ballot.boot) (max (boot_of_state held.accepted) (boot_of_state held.decided))
