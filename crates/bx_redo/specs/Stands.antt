-- What disks hold of a log, at every moment of its writes. `Sure` says of a sector of a device that each image that a crash may leave has
-- this content there, on each member that it is read off.
use Rattle.std.specs.Prelude.{◌≡◌, ◌≢◌, ℕ, ◌+◌, ◌-◌, ◌*◌, ◌/◌, ◌<◌, ◌≤◌, ◌⊎◌, Bool, true, false, if◌then◌else◌, List, [], ◌∷◌, length, Some, None}
use Rattle.bx_disk.specs.Disks.{Image, is_within, sector_of}
use Rattle.bx_calls.specs.Regions.{ReadsAs}
use Rattle.bx_layout.specs.declared.block.Block.{Block}
use Rattle.bx_layout.specs.Labels.{IsOpenGate, gate_text}
use Rattle.bx_layout.specs.declared.gate.Gate.TheVariants.{Open, Closed as Shut}
use Rattle.bx_places.specs.Places.{IsVolume, IsBlock, log_device, log_start}
use Rattle.bx_records.specs.Drafts.{block_in}
use Rattle.bx_records.specs.declared.runs.Run.{Run}
use Rattle.bx_rows.specs.declared.session.SessionRow.{SessionRow}
use Rattle.bx_rows.specs.Words.{is_taken}
use Rattle.bx_volume.specs.bx_views.specs.Truths.{Truth, with_draft}
use Rattle.bx_volume.specs.Overlay.{Logs, IsHome, IsOfLogged, IsOverlaidTruth, Matters, with_log}
use Rattle.bx_volume.specs.Records.{Logged, IsInBody, IsLogged, gate_of, logged_text, newest_in}
use Rattle.bx_redo.specs.Steps.{shut_text}
use Rattle.bx_redo.specs.View.{LogView}
use Rattle.bx_redo.specs.declared.work.Work.{Work}
use Rattle.bx_redo.specs.declared.work.Work.TheVariants.{Idle, Body, Opens, Closes, Shuts}

-- ---- what is written

-- where the write of a work begins on the log's device, how many sectors it has, and its bytes
abbrev pub begins_at : LogView → Work → ℕ
begins_at log Idle = 0
begins_at log (Body text point) = log_start log.slot + 8 + 145 * log.count
begins_at log (Opens point) = log_start log.slot + log.count
begins_at log Closes = log_start log.slot
begins_at log Shuts = log_start log.slot + 1

abbrev pub sectors_of : Work → ℕ
sectors_of Idle = 0
sectors_of (Body text point) = length text / 512
sectors_of (Opens point) = 1
sectors_of Closes = 1
sectors_of Shuts = 7

abbrev pub bytes_of : Work → List ℕ
bytes_of Idle = []
bytes_of (Body text point) = text
bytes_of (Opens point) = gate_text Open
bytes_of Closes = gate_text Shut
bytes_of Shuts = shut_text

-- the run that a work asks for
abbrev pub run_of : LogView → Work → Run
run_of log work = record { device = log.device; place = begins_at log work; bytes = bytes_of work }

-- whether a sector of a device is written by what is under way
abbrev pub is_written : LogView → ℕ → ℕ → Bool
is_written log d s = is_within log.device (begins_at log log.work) (sectors_of log.work) d s

-- ---- what holds

-- whether a sector of a device is one of the log's gates
abbrev pub is_gate : LogView → ℕ → ℕ → Bool
is_gate log d s = is_within log.device (log_start log.slot) 8 d s

-- the gates from one on are closed
abbrev pub AreClosed : Image → ℕ → ℕ → ℕ → Type 0
AreClosed before devices slot from = (gate : ℕ) → from ≤ gate → gate < 8 → IsOpenGate (gate_of before devices slot gate) → ⊥

-- no other log has a block of the record
abbrev pub IsAlone : Logs → ℕ → Logged → Type 0
IsAlone logs slot more = (s at : ℕ) (block : Block) → s < 8 → s ≢ slot → block_in more.changed at ≡ Some block → newest_in (logs s) at ≡ None

-- each block of the log is home
abbrev pub AreHome : Image → ℕ → ℕ → Logs → ℕ → Type 0
AreHome before devices areas logs slot = (at : ℕ) (block : Block) → IsBlock areas at → newest_in (logs slot) at ≡ Some block → IsHome before devices at block

-- a record is under way: its body is written, or stands there and its gate is
pub record IsUnderWay (before : Image) (devices areas : ℕ) (logs : Logs) (more : Logged) (slot count : ℕ) : Type 0 where
  pub room : count < 8
  pub is : IsLogged areas more
  pub alone : IsAlone logs slot more
  pub closed : AreClosed before devices slot count

module _ (Sure : ℕ → ℕ → List ℕ → Type 0) (devices areas : ℕ) (rows : List SessionRow) (before : Image) (logs : Logs) (truth : Truth) (more : Logged) where
  -- The log is being closed: its blocks are home, and surely.
  pub record IsClosing (log : LogView) : Type 0 where
    pub some : 0 < log.count
    pub home : AreHome before devices areas logs log.slot
    pub sure : (d s : ℕ) → Matters devices areas (with_log logs log.slot []) d s → is_written log d s ≡ false → Sure d s (before d s)

  -- The body of the record that is under way is sure.
  abbrev pub IsBodySure : LogView → Type 0
  IsBodySure log = (sector : ℕ) → sector < length (logged_text more) / 512
      → Sure log.device (log_start log.slot + 8 + 145 * log.count + sector) (before log.device (log_start log.slot + 8 + 145 * log.count + sector))

  -- what each work finds, where `more` is the record that is under way
  abbrev pub Finds : LogView → Work → Type 0
  Finds log Idle = AreClosed before devices log.slot log.count
  Finds log (Body text point) = (text ≡ logged_text more) × IsUnderWay before devices areas logs more log.slot log.count
  Finds log (Opens point) = IsInBody before devices areas log.slot log.count more × IsUnderWay before devices areas logs more log.slot log.count × IsBodySure log
  Finds log Closes = IsClosing log
  Finds log Shuts = log.count ≡ 0

  -- The devices hold the truth, of which the log has its records, but for what is being written: `before` has there what was there before.
  -- All else on which the truth depends is sure, and so are the log's gates.
  pub record LogStands (log : LogView) : Type 0 where
    pub volume : IsVolume devices areas
    pub is_slot : log.slot < 8
    pub on_device : log.device ≡ log_device log.slot devices
    pub taken : is_taken rows log.slot ≡ true
    pub is_truth : IsOverlaidTruth before devices areas rows logs truth
    pub run : length (logs log.slot) ≡ log.count
    pub sure : (d s : ℕ) → Matters devices areas logs d s → is_written log d s ≡ false → Sure d s (before d s)
    pub own : (d s : ℕ) → is_gate log d s ≡ true → is_written log d s ≡ false → Sure d s (before d s)
    pub finds : Finds log log.work

  -- The same with nothing under way, but that gates behind the run may be open: so a recovery finds the log of a slot.
  pub record IsFound (slot : ℕ) : Type 0 where
    pub volume : IsVolume devices areas
    pub is_slot : slot < 8
    pub taken : is_taken rows slot ≡ true
    pub is_truth : IsOverlaidTruth before devices areas rows logs truth
    pub sure : (d s : ℕ) → Matters devices areas logs d s → Sure d s (before d s)
    pub gates : (gate : ℕ) → gate < 8 → Sure (log_device slot devices) (log_start slot + gate) (before (log_device slot devices) (log_start slot + gate))

-- ---- what images have

module _ (devices areas : ℕ) (rows : List SessionRow) (logs : Logs) (truth : Truth) (more : Logged) where
  -- A content of the devices has the truth by the log's whole run; while a gate is opened, by that run or with the record that is in doubt;
  -- and while gate 0 is closed, the same truth, by the whole run or by none.
  abbrev pub Shows : Image → ℕ → Work → Type 0
  Shows now slot Idle = IsOverlaidTruth now devices areas rows logs truth
  Shows now slot (Body text point) = IsOverlaidTruth now devices areas rows logs truth
  Shows now slot (Opens point) =
      IsOverlaidTruth now devices areas rows logs truth ⊎ IsOverlaidTruth now devices areas rows (with_log logs slot (more ∷ logs slot)) (with_draft truth more.changed)
  Shows now slot Closes = IsOverlaidTruth now devices areas rows logs truth ⊎ IsOverlaidTruth now devices areas rows (with_log logs slot []) truth
  Shows now slot Shuts = IsOverlaidTruth now devices areas rows logs truth

-- ---- events

-- the log with a write of a work out, and with nothing under way
abbrev pub doing : LogView → Work → LogView
doing log work = record log { work = work; out = true }

abbrev pub resting : LogView → LogView
resting log = record log { work = Idle; out = false }

-- the content has all that is sure
abbrev pub HasSure : (ℕ → ℕ → List ℕ → Type 0) → Image → Type 0
HasSure Sure now = (d s : ℕ) (content : List ℕ) → Sure d s content → now d s ≡ content

-- What is under way is written, in part or whole, or isn't yet: all that was sure elsewhere is.
abbrev pub IsOut : (ℕ → ℕ → List ℕ → Type 0) → (ℕ → ℕ → List ℕ → Type 0) → LogView → Type 0
IsOut Sure Sure_then log = (d s : ℕ) (content : List ℕ) → is_written log d s ≡ false → Sure d s content → Sure_then d s content

-- It is acknowledged: these bytes stand in its sectors, and surely; elsewhere all is as it was.
pub record IsAcknowledged (Sure Sure_then : ℕ → ℕ → List ℕ → Type 0) (before now : Image) (log : LogView) (bytes : List ℕ) : Type 0 where
  pub out : IsOut Sure Sure_then log
  pub same : (d s : ℕ) → is_written log d s ≡ false → now d s ≡ before d s
  pub sure : (d s : ℕ) → is_written log d s ≡ true → Sure_then d s (now d s)
  pub reads : ReadsAs now log.device (begins_at log log.work) bytes

-- what devices hold once it is
abbrev pub stored : Image → LogView → Image
stored before log d s = if is_written log d s then sector_of (bytes_of log.work) (s - begins_at log log.work) else before d s

-- Nothing but homes of blocks that logs have is written: all else stays, and what was sure there is.
abbrev pub WritesHomes : (ℕ → ℕ → List ℕ → Type 0) → (ℕ → ℕ → List ℕ → Type 0) → ℕ → ℕ → Image → Image → Logs → Type 0
WritesHomes Sure Sure_then devices areas before now logs =
    (d s : ℕ) → IsOfLogged devices areas logs d s ⊎ ((now d s ≡ before d s) × ((content : List ℕ) → Sure d s content → Sure_then d s content))
