-- The logs of a volume as they are read: their records, the oldest first.
use Rattle.std.specs.Prelude.{◌≡◌, ℕ, ◌<◌, Bool, List, [], length, map, reverse, slice_get, unwrap_or}
use Rattle.std.specs.List.{flat_map}
use Rattle.bx_base.specs.declared.names.Point.{Point}
use Rattle.bx_disk.specs.Disks.{Image}
use Rattle.bx_rows.specs.declared.session.SessionRow.{SessionRow}
use Rattle.bx_homes.specs.bx_volume.specs.Records.{Logged, IsLog, LogWhere, HasLog}
use Rattle.bx_logs.specs.declared.members.Members.{Members}
use Rattle.bx_logs.specs.Members.{held_by}
use Rattle.bx_logs.specs.Bodies.{point_of}

-- these are the records of the log in a slot, the oldest first
abbrev pub IsLogOf : Image → Members → ℕ → List Logged → Type 0
IsLogOf image members slot records = IsLog (held_by image members) members.devices members.areas slot (reverse records)

-- no records are
abbrev pub HasNoLog : Image → Members → ℕ → Type 0
HasNoLog image members slot = (records : List Logged) → IsLog (held_by image members) members.devices members.areas slot records → ⊥

-- the same of a slot that has a row, or hasn't
abbrev pub IsLogWhere : Bool → Image → Members → ℕ → List Logged → Type 0
IsLogWhere taken image members slot records = LogWhere taken (held_by image members) members.devices members.areas slot (reverse records)

abbrev pub HasNoLogWhere : Bool → Image → Members → ℕ → Type 0
HasNoLogWhere taken image members slot = (records : List Logged) → LogWhere taken (held_by image members) members.devices members.areas slot records → ⊥

-- the records of a slot
abbrev pub log_in : List (List Logged) → ℕ → List Logged
log_in logs slot = unwrap_or (slice_get logs slot) []

-- these are the records of the eight logs, slot by slot, the oldest first
pub record AreLogs (image : Image) (members : Members) (rows : List SessionRow) (logs : List (List Logged)) : Type 0 where
  pub count : length logs ≡ 8
  pub each : (slot : ℕ) → slot < 8 → HasLog rows (held_by image members) members.devices members.areas slot (reverse (log_in logs slot))

-- some slot has no log
abbrev pub HaveNoLogs : Image → Members → List SessionRow → Type 0
HaveNoLogs image members rows = (logs : ℕ → List Logged) → ((slot : ℕ) → slot < 8 → HasLog rows (held_by image members) members.devices members.areas slot (logs slot)) → ⊥

-- the points of records, slot by slot
abbrev pub points_in : List (List Logged) → List Point
points_in logs = flat_map (λ records. map point_of records) logs
