-- Reading rows and ballots from the front of bytes.
use Rattle.std.specs.Prelude.{ℕ, Bool, nat_lt, ◌&&◌, List}
use Rattle.std.specs.Int.{w32, w64}
use Rattle.bx_base.specs.Reading.{Reader, number_at, then_at, as_at, tested_at, sized_at, list_at}
use Rattle.bx_rows.specs.declared.ballot.Ballot.{Ballot}
use Rattle.bx_rows.specs.declared.device.DeviceRow.{DeviceRow}
use Rattle.bx_rows.specs.declared.session.SessionRow.{SessionRow}

-- a number of 32 bits and one of 64
unfoldable pub pair_at : Reader (ℕ × ℕ)
pair_at bytes = then_at (number_at w32) (number_at w64) bytes

-- a session's row: number, node, boot, slot, end, dead or not, and who recovers it
abbrev pub SessionFields : Type 0
SessionFields = ℕ × ((ℕ × ℕ) × ((ℕ × ℕ) × (ℕ × ℕ)))

abbrev pub session_with : SessionFields → SessionRow
session_with x = record {
  number = x.0;
  node = x.1.0.0;
  boot = x.1.0.1;
  slot = x.1.1.0.0;
  until = x.1.1.0.1;
  dead = x.1.1.1.0;
  by = x.1.1.1.1;
}

abbrev pub session_fields : SessionRow → SessionFields
session_fields row = (row.number, ((row.node, row.boot), ((row.slot, row.until), (row.dead, row.by))))

unfoldable pub session_at : Reader SessionRow
session_at bytes = as_at session_with (then_at (number_at w64) (then_at pair_at (then_at pair_at pair_at))) bytes

-- a device's row: mode, epoch, and the boots of its members
abbrev pub DeviceFields : Type 0
DeviceFields = (ℕ × ℕ) × (ℕ × ℕ)

abbrev pub device_with : DeviceFields → DeviceRow
device_with x = record { mode = x.0.0; epoch = x.0.1; boot_a = x.1.0; boot_b = x.1.1 }

abbrev pub device_fields : DeviceRow → DeviceFields
device_fields row = ((row.mode, row.epoch), (row.boot_a, row.boot_b))

unfoldable pub device_at : Reader DeviceRow
device_at bytes = as_at device_with (then_at pair_at (then_at (number_at w64) (number_at w64))) bytes

-- how many sessions there are, at most 8, and as many rows
abbrev pub few_sessions : ℕ → Bool
few_sessions n = nat_lt n 9

unfoldable pub sessions_at : Reader (List SessionRow)
sessions_at bytes = sized_at (tested_at few_sessions (number_at w32)) (λ n. list_at n session_at) bytes

-- how many devices there are, 1 to 4, and as many rows
abbrev pub few_devices : ℕ → Bool
few_devices n = nat_lt 0 n && nat_lt n 5

unfoldable pub devices_at : Reader (List DeviceRow)
devices_at bytes = sized_at (tested_at few_devices (number_at w32)) (λ n. list_at n device_at) bytes

-- a ballot: round, actor and boot
abbrev pub ballot_with : ℕ × (ℕ × ℕ) → Ballot
ballot_with x = record { round = x.0; actor = x.1.0; boot = x.1.1 }

abbrev pub ballot_fields : Ballot → ℕ × (ℕ × ℕ)
ballot_fields ballot = (ballot.round, (ballot.actor, ballot.boot))

unfoldable pub ballot_at : Reader Ballot
ballot_at bytes = as_at ballot_with (then_at (number_at w64) pair_at) bytes
