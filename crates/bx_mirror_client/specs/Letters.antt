-- The letters of a node to members.
use Rattle.std.specs.Prelude.{ℕ, ◌+◌, ◌==◌, ◌&&◌, ◌||◌, not, Bool, true, false, List, [], ◌∷◌, ◌++◌, Option, Some, None, slice_get, if◌then◌else◌}
use Rattle.bx_base.specs.declared.names.Actor.TheVariants.{Member, Node}
use Rattle.bx_post.specs.declared.packets.Letter.{Letter}
use Rattle.bx_rows.specs.declared.device.DeviceRow.{DeviceRow}
use Rattle.bx_mirror_packets.specs.DeviceMessages.{letter_with}
use Rattle.bx_mirror_packets.specs.Parting.{write_of}
use Rattle.bx_mirror_packets.specs.declared.message.DeviceMessage.TheVariants.{Read, Write}
use Rattle.bx_mirror_packets.specs.declared.parting.WriteHead.{WriteHead}
use Rattle.bx_mirror_client.specs.declared.asking.Asking.{Asking}
use Rattle.bx_mirror_client.specs.declared.sending.Sending.{Sending}
use Rattle.bx_mirror_client.specs.Asks.{is_awaited}
use Rattle.bx_mirror_client.specs.Sends.{has_runs, is_missing, member_at, write_kind}

-- The epoch of a device isn't what it was before, or the device wasn't there. With no rows before, each is new.
abbrev pub is_new : Option DeviceRow → DeviceRow → Bool
is_new None row = true
is_new (Some known) row = not (known.epoch == row.epoch)

abbrev pub is_new_epoch : List DeviceRow → ℕ → DeviceRow → Bool
is_new_epoch before device row = is_new (slice_get before device) row

-- the same of a device of these rows
abbrev pub is_new_in : List DeviceRow → ℕ → Option DeviceRow → Bool
is_new_in before device None = false
is_new_in before device (Some row) = is_new_epoch before device row

abbrev pub is_new_for : List DeviceRow → List DeviceRow → ℕ → Bool
is_new_for before rows device = is_new_in before device (slice_get rows device)

-- ---- of a write

abbrev pub head_of : Sending → ℕ → DeviceRow → WriteHead
head_of s device row = record { kind = write_kind s.runs.0; session = s.session; device = device; epoch = row.epoch; sequence = s.sequence; until = s.until }

-- what a member of a device is told: the runs on the device, in the epoch of its row
abbrev pub write_letter : ℕ → Sending → ℕ → DeviceRow → Bool → Letter
write_letter node s device row second = letter_with (Node node) (Member (member_at device second)) (Write (write_of (head_of s device row) s.runs.1))

-- it is told where it is missing
abbrev pub to_member : ℕ → Sending → ℕ → DeviceRow → Bool → List Letter
to_member node s device row second = if is_missing s.acks device row second then write_letter node s device row second ∷ [] else []

-- A before B, of a device with some of the runs, in a new epoch
abbrev pub to_device : List DeviceRow → ℕ → Sending → ℕ → DeviceRow → List Letter
to_device before node s device row = if is_new_epoch before device row && has_runs device s.runs.1 then to_member node s device row false ++ to_member node s device row true else []

-- the devices in their order, from one on
abbrev pub letters_from : List DeviceRow → ℕ → Sending → ℕ → List DeviceRow → List Letter
letters_from before node s device [] = []
letters_from before node s device (row ∷ rows) = to_device before node s device row ++ letters_from before node s (device + 1) rows

-- of a write for which a number was left
abbrev pub write_letters : List DeviceRow → ℕ → Option Sending → List DeviceRow → List Letter
write_letters before node None rows = []
write_letters before node (Some s) rows = if s.sequence == 0 then [] else letters_from before node s 0 rows

-- ---- of a read

-- reads go to member B, and not to A, in a mode
abbrev pub reads_second : ℕ → Bool
reads_second mode = not ((mode == 0) || ((mode == 1) || (mode == 3)))

abbrev pub read_letter : ℕ → Asking → DeviceRow → Letter
read_letter node a row = letter_with (Node node) (Member (member_at a.device (reads_second row.mode)))
    (Read (record { session = a.session; device = a.device; epoch = row.epoch; tag = a.tag; place = a.place; sectors = a.sectors }))

abbrev pub to_reader : ℕ → Asking → DeviceRow → List Letter
to_reader node a row = read_letter node a row ∷ []

-- of a read whose answer may come, in a new epoch of its device
abbrev pub read_in : List DeviceRow → ℕ → Asking → Option DeviceRow → List Letter
read_in before node a None = []
read_in before node a (Some row) = if is_new_epoch before a.device row && is_awaited a then to_reader node a row else []

abbrev pub read_letters : List DeviceRow → ℕ → Option Asking → List DeviceRow → List Letter
read_letters before node None rows = []
read_letters before node (Some a) rows = read_in before node a (slice_get rows a.device)
