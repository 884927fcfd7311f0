-- How many bytes there are.
use Rattle.std.proofs.Common.{◌≡◌, ℕ, ◌+◌, ◌*◌, ◌≤◌, List, [], ◌∷◌, length, refl, ap, ◌∙◌, arith, length-append}
use Rattle.std.specs.List.{flat_map}
use Rattle.std.proofs.lemmas.List.Concat.{flat_map-cons}
use Rattle.bx_rows.specs.declared.device.DeviceRow.{DeviceRow}
use Rattle.bx_global.specs.declared.held.Held.{Held}
use Rattle.bx_rows.specs.declared.session.SessionRow.{SessionRow}
use Rattle.bx_global.specs.declared.state.GlobalState.{GlobalState}
use Rattle.bx_global.specs.Allowed.{IsAllowed}
use Rattle.bx_global.specs.Bytes.{heads_text, state_text, marks_text, held_text, IsHeld}
use Rattle.bx_rows.specs.Spelling.{pair_text, session_text, device_text, sessions_text, devices_text, ballot_text}

length-session : (row : SessionRow) → length (session_text row) ≡ 44
unfolding session_text pair_text
length-session row = refl

length-device : (row : DeviceRow) → length (device_text row) ≡ 28
unfolding device_text pair_text
length-device row = refl

length-session_rows : (rows : List SessionRow) → length (flat_map session_text rows) ≡ 44 * length rows
length-session_rows [] = refl
length-session_rows (row ∷ rows) =
    ap length (flat_map-cons session_text row rows) ∙ omega (arith, length-append (session_text row) (flat_map session_text rows), length-session row, length-session_rows rows)

length-device_rows : (rows : List DeviceRow) → length (flat_map device_text rows) ≡ 28 * length rows
length-device_rows [] = refl
length-device_rows (row ∷ rows) =
    ap length (flat_map-cons device_text row rows) ∙ omega (arith, length-append (device_text row) (flat_map device_text rows), length-device row, length-device_rows rows)

length-sessions : (rows : List SessionRow) → length (sessions_text rows) ≡ 4 + 44 * length rows
unfolding sessions_text
length-sessions rows = omega (arith, length-session_rows rows)

length-devices : (rows : List DeviceRow) → length (devices_text rows) ≡ 4 + 28 * length rows
unfolding devices_text
length-devices rows = omega (arith, length-device_rows rows)

pub length-state : (s : GlobalState) → length (state_text s) ≡ 52 + 44 * length s.sessions + 28 * length s.devices
unfolding state_text heads_text pair_text
length-state s = omega (arith, length-append (sessions_text s.sessions) (devices_text s.devices), length-sessions s.sessions, length-devices s.devices)

pub length-allowed : (s : GlobalState) → IsAllowed s → length (state_text s) ≤ 516
length-allowed s is = omega (arith, length-state s, is.session_count, is.most_devices)

pub length-held : (held : Held) (devices : ℕ) → IsHeld devices held → length (held_text held) ≤ 1084
unfolding held_text marks_text ballot_text pair_text
length-held held devices is =
    omega (arith, length-append (state_text held.accepted) (state_text held.decided), length-allowed held.accepted is.accepted, length-allowed held.decided is.decided)
