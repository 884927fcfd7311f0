-- What a recovery makes of a log whose session stopped: it reads the gates, writes all of them back as they were read, and makes them sure.
use Rattle.std.specs.Prelude.{◌≡◌, ℕ, ◌+◌, ◌-◌, ◌<◌, ◌⊎◌, true, false, if◌then◌else◌, List, [], ◌∷◌, length}
use Rattle.bx_calls.specs.Regions.{ReadsAs}
use Rattle.bx_disk.specs.Disks.{Image, sector_of}
use Rattle.bx_places.specs.Places.{log_start}
use Rattle.bx_records.specs.declared.runs.Run.{Run}
use Rattle.bx_rows.specs.declared.session.SessionRow.{SessionRow}
use Rattle.bx_volume.specs.bx_views.specs.Truths.{Truth, with_draft}
use Rattle.bx_volume.specs.Overlay.{Logs, with_log}
use Rattle.bx_volume.specs.Records.{Logged}
use Rattle.bx_redo.specs.Stands.{IsFound, is_gate, is_written}
use Rattle.bx_redo.specs.View.{LogView}
use Rattle.bx_redo.specs.declared.work.Work.{Work}
use Rattle.bx_redo.specs.declared.work.Work.TheVariants.{Idle, Body, Opens, Closes, Shuts}

-- The gates were read: each as it was, but that one which was being written may read as anything.
pub record AreGatesRead (before : Image) (log : LogView) (bytes : List ℕ) : Type 0 where
  pub long : length bytes ≡ 4096
  pub each : (gate : ℕ) → gate < 8 → is_written log log.device (log_start log.slot + gate) ≡ false → sector_of bytes gate ≡ before log.device (log_start log.slot + gate)

-- They are written back, and surely. Elsewhere all is as it was.
pub record AreSettled (Sure Sure_then : ℕ → ℕ → List ℕ → Type 0) (before now : Image) (log : LogView) (bytes : List ℕ) : Type 0 where
  pub same : (d s : ℕ) → is_gate log d s ≡ false → now d s ≡ before d s
  pub out : (d s : ℕ) (content : List ℕ) → is_gate log d s ≡ false → is_written log d s ≡ false → Sure d s content → Sure_then d s content
  pub sure : (d s : ℕ) → is_gate log d s ≡ true → Sure_then d s (now d s)
  pub reads : ReadsAs now log.device (log_start log.slot) bytes

-- the run that writes them back, and what devices hold once it is written
abbrev pub gates_run : LogView → List ℕ → Run
gates_run log bytes = record { device = log.device; place = log_start log.slot; bytes = bytes }

abbrev pub with_gates : Image → LogView → List ℕ → Image
with_gates before log bytes d s = if is_gate log d s then sector_of bytes (s - log_start log.slot) else before d s

module _ (Sure : ℕ → ℕ → List ℕ → Type 0) (devices areas : ℕ) (rows : List SessionRow) (now : Image) (logs : Logs) (truth : Truth) (more : Logged) where
  -- What is found then: the truth by the whole run; where the session stopped with a gate that it opened, that or the one with the record in
  -- doubt; and where it stopped closing gate 0, the same truth by the whole run or by none.
  abbrev pub Settles : ℕ → Work → Type 0
  Settles slot Idle = IsFound Sure devices areas rows now logs truth more slot
  Settles slot (Body text point) = IsFound Sure devices areas rows now logs truth more slot
  Settles slot (Opens point) =
      IsFound Sure devices areas rows now logs truth more slot ⊎ IsFound Sure devices areas rows now (with_log logs slot (more ∷ logs slot)) (with_draft truth more.changed) more slot
  Settles slot Closes = IsFound Sure devices areas rows now logs truth more slot ⊎ IsFound Sure devices areas rows now (with_log logs slot []) truth more slot
  Settles slot Shuts = IsFound Sure devices areas rows now logs truth more slot
