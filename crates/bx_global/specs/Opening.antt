-- The states to begin with.
use Rattle.std.specs.Prelude.{ℕ, zero, suc, ◌+◌, List, [], ◌∷◌, ◌++◌, replicate}
use Rattle.bx_global.specs.declared.state.GlobalState.{GlobalState}
use Rattle.bx_rows.specs.declared.device.DeviceRow.{DeviceRow}
use Rattle.bx_rows.specs.declared.session.SessionRow.{SessionRow}
use Rattle.bx_rows.specs.Modes.{both}

-- the session of a node that lasts up to a moment: its slot has the node's number
abbrev pub row_until : ℕ → ℕ → SessionRow
row_until until node = record { number = node + 1; node = node; boot = 0; slot = node; until = until; dead = 0; by = 0 }

-- such sessions of the first nodes
abbrev pub rows_until : ℕ → ℕ → List SessionRow
rows_until until zero = []
rows_until until (suc n) = rows_until until n ++ row_until until n ∷ []

-- the sessions that nodes begin with
abbrev pub node_row : ℕ → SessionRow
node_row node = row_until 4000 node

abbrev pub node_rows : ℕ → List SessionRow
node_rows nodes = rows_until 4000 nodes

-- a device of which no mode was ever set
abbrev pub first_device : DeviceRow
first_device = record { mode = both; epoch = 1; boot_a = 0; boot_b = 0 }

-- the state where no session was opened
abbrev pub formatted_state : ℕ → GlobalState
formatted_state devices = record {
  index = 1;
  master = 0;
  master_boot = 0;
  term = 1;
  term_end = 0;
  next_session = 1;
  sessions = [];
  devices = replicate devices first_device;
}

-- the same in its first term, with a session for each node
abbrev pub opening_state : ℕ → ℕ → GlobalState
opening_state nodes devices = record (formatted_state devices) {
  term_end = 8000;
  next_session = nodes + 1;
  sessions = node_rows nodes;
}
