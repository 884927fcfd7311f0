-- The calls in doubt whose records disks may show, by log slot: where a record is sent to be opened in a slot, that of the session whose slot it is, at the point at which it is to act.
use Rattle.std.specs.Prelude.{ℕ, ◌==◌, find, if◌then◌else◌, List, Option, None, Some}
use Rattle.bx_base.specs.declared.names.Point.{Point}
use Rattle.bx_cluster.specs.Closing.{Doubt}
use Rattle.bx_history.specs.Trace.{Taking, taking_of}
use Rattle.bx_rows.specs.declared.session.SessionRow.{SessionRow}
use Rattle.bx_script.specs.declared.trace_line.TraceLine.{TraceLine}
use Rattle.bx_views.specs.Attempts.{Deed}
use Rattle.bx_world_logs.specs.Logs.{Slot, opens}
use Rattle.bx_world_views.specs.Views as views
use Rattle.bx_world_views.specs.Views.{Act, OfCall, OfTidy}

-- the point of a call by what its record does
abbrev pub point_by : ℕ → Deed → Point
point_by call deed = record { call = call; moment = deed.moment; spare = deed.spare; made = deed.made }

-- the call as it was taken, with its point
abbrev pub doubt_at : Point → Option Taking → Option Doubt
doubt_at point None = None
doubt_at point (Some taking) = Some (record { call = taking; point = point })

-- of a record of this call that does this; a tidy is of no call
abbrev pub doubt_by : List TraceLine → ℕ → Act → Option Doubt
doubt_by trace call (OfCall deed) = doubt_at (point_by call deed) (taking_of trace call)
doubt_by trace call OfTidy = None

abbrev pub doubt_of : List TraceLine → Option views.Unacknowledged → Option Doubt
doubt_of trace None = None
doubt_of trace (Some doubt) = doubt_by trace doubt.call doubt.act

-- of the session with this row
abbrev pub doubt_in : List TraceLine → (ℕ → Option views.Unacknowledged) → Option SessionRow → Option Doubt
doubt_in trace doubts None = None
doubt_in trace doubts (Some row) = doubt_of trace (doubts row.number)

-- the row of a slot
abbrev pub row_at : List SessionRow → ℕ → Option SessionRow
row_at rows slot = find (λ row. row.slot == slot) rows

abbrev pub doubts_by : List TraceLine → List SessionRow → (ℕ → Slot) → (ℕ → Option views.Unacknowledged) → ℕ → Option Doubt
doubts_by trace rows slots doubts slot = if opens (slots slot).activity then doubt_in trace doubts (row_at rows slot) else None
