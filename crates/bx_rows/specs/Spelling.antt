-- The bytes of rows and of ballots. Of each number the highest byte comes first.
use Rattle.std.specs.Prelude.{ℕ, List, ◌++◌, length}
use Rattle.std.specs.List.{flat_map}
use Rattle.std.specs.Int.{w32, w64, to_be_bytes}
use Rattle.bx_rows.specs.declared.ballot.Ballot.{Ballot}
use Rattle.bx_rows.specs.declared.device.DeviceRow.{DeviceRow}
use Rattle.bx_rows.specs.declared.session.SessionRow.{SessionRow}

-- a number of 32 bits and one of 64, such as an actor and its boot
unfoldable pub pair_text : ℕ → ℕ → List ℕ
pair_text a b = to_be_bytes w32 a ++ to_be_bytes w64 b

-- the 44 bytes of a session's row: its number, its node and the node's boot, its slot and its end, whether it is dead
-- and who recovers it
unfoldable pub session_text : SessionRow → List ℕ
session_text row = to_be_bytes w64 row.number ++ (pair_text row.node row.boot ++ (pair_text row.slot row.until ++ pair_text row.dead row.by))

-- the 28 bytes of a device's row: its mode and its epoch, and the boots of its members
unfoldable pub device_text : DeviceRow → List ℕ
device_text row = pair_text row.mode row.epoch ++ (to_be_bytes w64 row.boot_a ++ to_be_bytes w64 row.boot_b)

-- how many sessions there are, and their rows
unfoldable pub sessions_text : List SessionRow → List ℕ
sessions_text rows = to_be_bytes w32 (length rows) ++ flat_map session_text rows

-- how many devices there are, and their rows
unfoldable pub devices_text : List DeviceRow → List ℕ
devices_text rows = to_be_bytes w32 (length rows) ++ flat_map device_text rows

-- the 20 bytes of a ballot: its round, its actor and the actor's boot
unfoldable pub ballot_text : Ballot → List ℕ
ballot_text ballot = to_be_bytes w64 ballot.round ++ pair_text ballot.actor ballot.boot
