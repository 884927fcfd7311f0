-- The logs of all sessions, and the homes. `Sure` says of a sector of a device that it stands so, surely, and that nobody writes anything else there.
use Rattle.std.specs.Prelude.{◌≡◌, ◌⊎◌, ℕ, ◌+◌, ◌/◌, ◌<◌, Bool, true, false, List, length, Some, IsSome}
use Rattle.bx_base.specs.declared.names.Point.{Point}
use Rattle.bx_disk.specs.Disks.{Image}
use Rattle.bx_places.specs.Places.{IsVolume, IsBlock, block_place, body_place, gate_place, log_device}
use Rattle.bx_views.specs.bx_records.specs.Drafts.{Block, block_in}
use Rattle.bx_redo.specs.Stands.{AreClosed, IsUnderWay, is_written}
use Rattle.bx_redo.specs.View.{LogView}
use Rattle.bx_redo.specs.declared.work.Work.{Work}
use Rattle.bx_redo.specs.declared.work.Work.TheVariants as works
use Rattle.bx_rows.specs.declared.session.SessionRow.{SessionRow}
use Rattle.bx_rows.specs.Words.{is_taken}
use Rattle.bx_views.specs.Truths.{Truth}
use Rattle.bx_redo.specs.bx_volume.specs.Overlay.{Logs, IsHome, IsOverlaidTruth, IsUnlogged, filled_of}
use Rattle.bx_redo.specs.bx_volume.specs.Records.{Logged, IsInBody, gate_of, logged_text, newest_in}

-- What is under way in a log slot: a work of its log, by whom ever; or nothing, while gates behind its run may be open, as a recovery finds them.
pub data Activity : Type 0 where
  OfLog : Work → Activity
  Found : Activity

abbrev pub idle : Activity
idle = OfLog works.Idle

-- a log slot: what is under way, and the record that is, if one is
pub record Slot : Type 0 where
  pub activity : Activity
  pub more : Logged

-- the point of a record
abbrev pub point_in : Logged → Point
point_in logged = record { call = logged.head.call; moment = logged.head.moment; spare = logged.head.spare; made = logged.head.made }

-- the log of a slot, as the machine that drives it sees it
abbrev pub view_of : ℕ → ℕ → ℕ → Work → LogView
view_of devices slot count work = record { slot = slot; device = log_device slot devices; count = count; work = work; out = true }

-- whether a sector of a device is written by what is under way in a slot
abbrev pub writes_in : ℕ → ℕ → ℕ → Activity → ℕ → ℕ → Bool
writes_in devices slot count (OfLog work) d s = is_written (view_of devices slot count work) d s
writes_in devices slot count Found d s = false

-- a record is under way, at this point
pub record IsBegun (before : Image) (devices areas : ℕ) (logs : Logs) (more : Logged) (slot : ℕ) (point : Point) : Type 0 where
  pub under_way : IsUnderWay before devices areas logs more slot (length (logs slot))
  pub at : point_in more ≡ point

module _ (Sure : ℕ → ℕ → List ℕ → Type 0) (devices areas : ℕ) (before : Image) where
  -- so many sectors from a place on stand so
  abbrev pub AreSure : ℕ × ℕ → ℕ → Type 0
  AreSure place count = (i : ℕ) → i < count → Sure place.0 (place.1 + i) (before place.0 (place.1 + i))

  -- the home of a block stands so
  abbrev pub IsHomeSure : ℕ → Type 0
  IsHomeSure at = AreSure (block_place at devices) 9

  -- each block of the log of a slot is home, surely
  pub record AreHomed (logs : Logs) (slot : ℕ) : Type 0 where
    pub home : (at : ℕ) (block : Block) → IsBlock areas at → newest_in (logs slot) at ≡ Some block → IsHome before devices at block
    pub sure : (at : ℕ) → IsBlock areas at → IsSome (newest_in (logs slot) at) → IsHomeSure at

  -- what is found while a work is under way
  abbrev pub Finds : Logs → Logged → ℕ → Activity → Type 0
  Finds logs more slot (OfLog works.Idle) = AreClosed before devices slot (length (logs slot))
  Finds logs more slot (OfLog (works.Body text point)) = (text ≡ logged_text more) × IsBegun before devices areas logs more slot point
  Finds logs more slot (OfLog (works.Opens point)) =
      IsInBody before devices areas slot (length (logs slot)) more × IsBegun before devices areas logs more slot point × AreSure (body_place slot (length (logs slot)) devices) (length (logged_text more) / 512)
  Finds logs more slot (OfLog works.Closes) = (0 < length (logs slot)) × AreHomed logs slot
  Finds logs more slot (OfLog works.Shuts) = length (logs slot) ≡ 0
  Finds logs more slot Found = Unit {0}

  -- The log of a slot whose session has a row: its gates stand, but for what is being written, and so do the bodies of its records.
  pub record IsLogOf (logs : Logs) (slot : ℕ) (is : Slot) : Type 0 where
    pub gates : (gate : ℕ) → gate < 8 → writes_in devices slot (length (logs slot)) is.activity (gate_place slot gate devices).0 (gate_place slot gate devices).1 ≡ false
        → Sure (gate_place slot gate devices).0 (gate_place slot gate devices).1 (gate_of before devices slot gate)
    pub bodies : (body i : ℕ) → body < length (logs slot) → i < filled_of (logs slot) body
        → Sure (body_place slot body devices).0 ((body_place slot body devices).1 + i) (before (body_place slot body devices).0 ((body_place slot body devices).1 + i))
    pub finds : Finds logs is.more slot is.activity

  -- A slot without a row: all its gates are closed, surely, and nothing is under way.
  pub record IsShut (slot : ℕ) (is : Slot) : Type 0 where
    pub gates : (gate : ℕ) → gate < 8 → Sure (gate_place slot gate devices).0 (gate_place slot gate devices).1 (gate_of before devices slot gate)
    pub closed : AreClosed before devices slot 0
    pub still : is.activity ≡ idle

  abbrev pub SlotStands : Bool → Logs → ℕ → Slot → Type 0
  SlotStands true logs slot is = IsLogOf logs slot is
  SlotStands false logs slot is = IsShut slot is

-- whether a record is under way in a slot; whether its gate is being opened; whether gate 0 is being closed
abbrev pub begins : Activity → Bool
begins (OfLog works.Idle) = false
begins (OfLog (works.Body text point)) = true
begins (OfLog (works.Opens point)) = true
begins (OfLog works.Closes) = false
begins (OfLog works.Shuts) = false
begins Found = false

abbrev pub opens : Activity → Bool
opens (OfLog works.Idle) = false
opens (OfLog (works.Body text point)) = false
opens (OfLog (works.Opens point)) = true
opens (OfLog works.Closes) = false
opens (OfLog works.Shuts) = false
opens Found = false

abbrev pub closes : Activity → Bool
closes (OfLog works.Idle) = false
closes (OfLog (works.Body text point)) = false
closes (OfLog (works.Opens point)) = false
closes (OfLog works.Closes) = true
closes (OfLog works.Shuts) = false
closes Found = false

-- a block is in the log of a slot, or in the record that is under way there
abbrev pub IsInLog : Logs → (ℕ → Slot) → ℕ → ℕ → Type 0
IsInLog logs slots slot at = IsSome (newest_in (logs slot) at) ⊎ ((begins (slots slot).activity ≡ true) × IsSome (block_in (slots slot).more.changed at))

-- The devices hold the truth, by the logs of all slots: what of it isn't being written stands so. No block is in two logs.
pub record LogsStand (Sure : ℕ → ℕ → List ℕ → Type 0) (devices areas : ℕ) (rows : List SessionRow) (before : Image) (logs : Logs) (slots : ℕ → Slot) (truth : Truth) : Type 0 where
  pub volume : IsVolume devices areas
  pub is_truth : IsOverlaidTruth before devices areas rows logs truth
  pub homes : (at : ℕ) → IsBlock areas at → IsUnlogged logs at → IsHomeSure Sure devices areas before at
  pub each : (slot : ℕ) → slot < 8 → SlotStands Sure devices areas before (is_taken rows slot) logs slot (slots slot)
  pub once : (slot other at : ℕ) → slot < 8 → other < 8 → IsInLog logs slots slot at → IsInLog logs slots other at → slot ≡ other
