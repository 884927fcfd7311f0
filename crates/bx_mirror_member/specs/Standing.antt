-- What a member of a mirrored device knows, and what it owes.
use Rattle.std.specs.Prelude.{◌≡◌, ℕ, ◌+◌, ◌-◌, ◌*◌, ◌/◌, ◌%◌, ◌<◌, ◌≤◌, ◌==◌, ◌&&◌, not, min, Bool, true, false, List, [], Option, Some, None, slice_get, if◌then◌else◌}
use Rattle.bx_base.specs.declared.names.Actor.{Actor}
use Rattle.bx_base.specs.declared.names.Actor.TheVariants as actors
use Rattle.bx_facts.specs.Writes.{Made, store_room}
use Rattle.bx_global.specs.declared.state.GlobalState.{GlobalState}
use Rattle.bx_rows.specs.declared.device.DeviceRow.{DeviceRow}
use Rattle.bx_rows.specs.Modes.{copy_ab, copy_ba}
use Rattle.bx_mirror_laws.specs.Acting.{boot_in}
use Rattle.bx_mirror_tables.specs.declared.answers.Owing.{Owing}
use Rattle.bx_mirror_tables.specs.declared.lasts.Last.{Last}
use Rattle.bx_mirror_member.specs.declared.copies.Piece.{Piece}

-- A member: its number, what it is made for, and its boot; the row of its device that it learned last since it started; the last sequences that
-- it took in that row's epoch; the answers that it owes, and whether it owes a sync; when it heard its partner last; and the place of the current
-- piece of a copy that it makes, 0 where it makes none.
pub record MemberView : Type 0 where
  pub number : ℕ
  pub made : Made
  pub boot : ℕ
  pub row : Option DeviceRow
  pub lasts : List Last
  pub owed : List Owing
  pub due : Bool
  pub heard : ℕ
  pub place : ℕ

-- ---- which member it is: A, or B (second), of its device

abbrev pub device_in : MemberView → ℕ
device_in m = m.number / 2

abbrev pub is_second : MemberView → Bool
is_second m = m.number % 2 == 1

abbrev pub disk_in : MemberView → ℕ
disk_in m = 3 + m.number

abbrev pub room_in : MemberView → ℕ
room_in m = store_room m.made

abbrev pub me : MemberView → Actor
me m = actors.Member m.number

abbrev pub partner : MemberView → Actor
partner m = actors.Member (if is_second m then m.number - 1 else m.number + 1)

-- The volume has such a member, the current piece begins within the device, and where no sync is owed nothing is.
pub record IsMemberView (m : MemberView) : Type 0 where
  pub least_devices : 1 ≤ m.made.devices
  pub most_devices : m.made.devices ≤ 4
  pub least_areas : 1 ≤ m.made.areas
  pub most_areas : m.made.areas ≤ 64
  pub number : m.number < 2 * m.made.devices
  pub place : m.place < room_in m
  pub quiet : m.due ≡ false → m.owed ≡ []

-- one that nothing was done with
abbrev pub new_member : ℕ → Made → MemberView
new_member number made = record { number = number; made = made; boot = 0; row = None; lasts = []; owed = []; due = false; heard = 0; place = 0 }

-- one that has stopped: what it knew and owed is gone
abbrev pub stopped : MemberView → MemberView
stopped m = record { number = m.number; made = m.made; boot = m.boot; row = None; lasts = []; owed = []; due = false; heard = m.heard; place = 0 }

-- and that starts in a boot
abbrev pub started : ℕ → MemberView → MemberView
started boot m = record { number = m.number; made = m.made; boot = boot; row = None; lasts = []; owed = []; due = false; heard = m.heard; place = 0 }

-- it hears its partner
abbrev pub hearing : ℕ → MemberView → MemberView
hearing reading m = record m { heard = reading }

-- ---- rows

-- the mode in which this member is copied from
abbrev pub copy_from : Bool → ℕ
copy_from false = copy_ab
copy_from true = copy_ba

abbrev pub is_named : MemberView → DeviceRow → Bool
is_named m row = boot_in (is_second m) row == m.boot

-- in this row it makes a copy
abbrev pub copies : MemberView → DeviceRow → Bool
copies m row = is_named m row && (row.mode == copy_from (is_second m))

-- a row of another epoch is new
abbrev pub is_news : Option DeviceRow → DeviceRow → Bool
is_news None row = true
is_news (Some known) row = not (known.epoch == row.epoch)

-- in a new row nothing was taken yet, and a copy begins behind the label
abbrev pub with_row : MemberView → DeviceRow → MemberView
with_row m row = record m { row = Some row; lasts = []; place = if copies m row then 1 else 0 }

abbrev pub learned_row : MemberView → Option DeviceRow → MemberView
learned_row m None = m
learned_row m (Some row) = if is_news m.row row then with_row m row else m

abbrev pub learned : GlobalState → MemberView → MemberView
learned known m = learned_row m (slice_get known.devices (device_in m))

-- ---- pieces of a copy: of 64 sectors, the last one of what is left

abbrev pub piece_at : MemberView → ℕ → ℕ → Piece
piece_at m epoch place = record { epoch = epoch; place = place; sectors = min 64 (room_in m - place) }

-- the piece with which a copy begins as a row is learned
abbrev pub first_piece_in : MemberView → Option DeviceRow → Option Piece
first_piece_in m None = None
first_piece_in m (Some row) = if is_news m.row row && copies m row then Some (piece_at m row.epoch 1) else None

abbrev pub first_piece : GlobalState → MemberView → Option Piece
first_piece known m = first_piece_in m (slice_get known.devices (device_in m))

-- the current one
abbrev pub piece_in : MemberView → Option DeviceRow → Option Piece
piece_in m None = None
piece_in m (Some row) = if copies m row && not (m.place == 0) then Some (piece_at m row.epoch m.place) else None

abbrev pub current_piece : MemberView → Option Piece
current_piece m = piece_in m m.row
