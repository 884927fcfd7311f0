-- The state that the one-machine forms are made with.
use Rattle.std.specs.Prelude.{ℕ, List}
use Rattle.bx_global.specs.Opening.{opening_state, row_until, rows_until}
use Rattle.bx_global.specs.declared.state.GlobalState.{GlobalState}
use Rattle.bx_rows.specs.declared.session.SessionRow.{SessionRow}

-- the session of a node
abbrev pub plain_row : ℕ → SessionRow
plain_row node = row_until 4294967295999 node

abbrev pub plain_rows : ℕ → List SessionRow
plain_rows nodes = rows_until 4294967295999 nodes

-- the opening state, but for its sessions and its term, which don't end
abbrev pub plain_state : ℕ → ℕ → GlobalState
plain_state nodes devices = record (opening_state nodes devices) { term_end = 4294967295999; sessions = plain_rows nodes }
