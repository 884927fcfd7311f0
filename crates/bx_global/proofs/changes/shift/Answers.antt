use Rattle.std.proofs.Common.{◌≡◌, ℕ, ◌+◌, ◌≤◌, Bool, List, Some, refl, sym, arith, rules}
use Rattle.std.specs.Prelude.{slice_get, slice_set}
use Rattle.bx_global.specs.declared.change.Change.TheVariants.{Shift}
use Rattle.bx_global.specs.declared.state.GlobalState.{GlobalState}
use Rattle.bx_global.specs.Table.{IsLegal, effect, greatest}
use Rattle.bx_global.proofs.Places.{set_at_place}
use Rattle.bx_global.proofs.changes.shift.Goals as goal
use Rattle.bx_rows.specs.declared.device.DeviceRow.{DeviceRow}
use Rattle.bx_rows.specs.Modes.{IsReachable}
use Rattle.bx_rows.specs.Rows.{shifted}

legal : (s : GlobalState) (device epoch mode : ℕ) (second : Bool) (boot : ℕ) (row : DeviceRow) → s.index + 1 ≤ greatest
    → slice_get s.devices device ≡ Some row → epoch ≡ row.epoch → IsReachable row.mode mode → row.epoch + 1 ≤ greatest
    → IsLegal s (Shift device epoch mode second boot)
legal s device epoch mode second boot row index here is reach fits = record { index = index; row = rw here (is, reach, fits) }

made : (s new : GlobalState) (device epoch mode : ℕ) (second : Bool) (boot : ℕ) (row new_row : DeviceRow) (devices : List DeviceRow)
    → slice_get s.devices device ≡ Some row → new_row ≡ shifted mode second boot row → new ≡ record s { index = s.index + 1 }
    → devices ≡ slice_set new.devices device new_row
    → record new { devices = devices } ≡ effect s (Shift device epoch mode second boot)
made s new device epoch mode second boot row new_row devices here is next set =
    rw (set, next, is, set_at_place device (shifted mode second boot) s.devices row here) refl

pub returns : goal.returns
returns c = (
  legal c.args.state.now c.args.device c.args.epoch c.args.mode c.args.second c.args.boot c.in-Some.row.now (omega arith) (sym c.in-Some.ensures) c.if-epoch-row.false (search rules) (omega arith),
  made c.args.state.now c.in_ok-new.new c.args.device c.args.epoch c.args.mode c.args.second c.args.boot c.in-Some.row.now c.shifted_row-new_row.result _ (sym c.in-Some.ensures) c.shifted_row-new_row.ensures c.in_ok-new.ensures c.set.ensures,
)
