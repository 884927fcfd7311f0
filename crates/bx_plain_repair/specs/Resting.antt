-- What the steps of a recovery find and leave: a log in slot 0 whose gates are settled.
use Rattle.std.specs.Prelude.{◌≡◌, ◌⊎◌, ℕ, ◌≤◌, List, [], ◌∷◌, Contains, length, map, reverse, slice_get, Option, Some, None, false}
use Rattle.bx_base.specs.declared.names.Point.{Point}
use Rattle.bx_disk.specs.Disks.{Disks, Image}
use Rattle.bx_facts.specs.Writes.{IsSettled}
use Rattle.bx_global.specs.Opening.{opening_state}
use Rattle.bx_steps.specs.Steps.{StandsWith}
use Rattle.bx_logs.specs.Bodies.{point_of}
use Rattle.bx_logs.specs.Newest.{Newest, newest_at}
use Rattle.bx_model.specs.declared.tree.Tree.{Tree}
use Rattle.bx_redo.specs.Stands.{AreClosed, AreHome, IsFound, LogStands}
use Rattle.bx_redo.specs.View.{LogView}
use Rattle.bx_redo.specs.declared.work.Work.TheVariants.{Closes, Shuts}
use Rattle.bx_views.specs.Truths.{Truth, no_hints}
use Rattle.bx_volume.specs.Overlay.{Logs, Matters, with_log}
use Rattle.bx_volume.specs.Records.{Logged, newest_in}
use Rattle.bx_plain_repair.specs.Bench.{IsLabelledBench}
use Rattle.bx_plain_repair.specs.Left.{OpenDoubt, IsOfDoubt}
use Rattle.bx_plain_repair.specs.declared.reading.OpenLog.{OpenLog}

-- the logs where slot 0 alone has records, the newest first
abbrev pub only : List Logged → Logs
only records = with_log (λ slot. []) 0 records

-- The blocks of the records are home, and all on which the truth depends without them is settled.
pub record AreHomed (disks : Disks) (before : Image) (records : List Logged) : Type 0 where
  pub home : AreHome before 1 1 (only records) 0
  pub sure : (d s : ℕ) → Matters 1 1 (with_log (only records) 0 []) d s → IsSettled disks (opening_state 1 1) d s (before d s)

-- The disks hold the tree. These records are open, all of calls that were told, and nothing is under way. The gates behind theirs are closed, or
-- their blocks are home.
pub record Rests (volume floor : ℕ) (tree : Tree) (records : List Logged) (disks : Disks) : Type 0 where
  pub before : Image
  pub truth : Truth
  pub more : Logged
  pub found : IsFound (IsSettled disks (opening_state 1 1)) 1 1 (opening_state 1 1).sessions before (only records) truth more 0
  pub behind : AreClosed before 1 0 (length records) ⊎ AreHomed disks before records
  pub told : (logged : Logged) → Contains records logged → logged.head.call ≤ floor
  pub tree_is : StandsWith volume 1 truth no_hints tree
  pub labelled : IsLabelledBench disks volume

-- The newest record is that of the call in doubt, which acted: the disks hold the next tree.
pub record HasActed (volume floor : ℕ) (tree : Tree) (doubt : Option OpenDoubt) (records : List Logged) (disks : Disks) : Type 0 where
  pub point : Point
  pub next : Tree
  pub acted : IsOfDoubt floor tree doubt point next
  pub newest : Logged
  pub older : List Logged
  pub records_are : records ≡ newest ∷ older
  pub of : point_of newest ≡ point
  pub told : (logged : Logged) → Contains older logged → logged.head.call ≤ floor
  pub rests : Rests volume point.call next records disks

-- the records' calls were told, or the newest one's acted
abbrev pub RestsOrActed : ℕ → ℕ → Tree → Option OpenDoubt → List Logged → Disks → Type 0
RestsOrActed volume floor tree doubt records disks = Rests volume floor tree records disks ⊎ HasActed volume floor tree doubt records disks

-- a log whose gate 0 is being closed, and one whose other gates are
abbrev pub closes_log : ℕ → LogView
closes_log count = record { slot = 0; device = 0; count = count; work = Closes; out = false }

abbrev pub shuts_log : LogView
shuts_log = record { slot = 0; device = 0; count = 0; work = Shuts; out = false }

-- The log stands so, with these records, all of calls that were told.
pub record StandsAs (volume floor : ℕ) (tree : Tree) (records : List Logged) (log : LogView) (disks : Disks) : Type 0 where
  pub before : Image
  pub truth : Truth
  pub more : Logged
  pub stands : LogStands (IsSettled disks (opening_state 1 1)) 1 1 (opening_state 1 1).sessions before (only records) truth more log
  pub told : (logged : Logged) → Contains records logged → logged.head.call ≤ floor
  pub tree_is : StandsWith volume 1 truth no_hints tree
  pub labelled : IsLabelledBench disks volume

-- What was read of these records: their points, the oldest first, and the newest blocks.
pub record IsOpenLog (records : List Logged) (log : OpenLog) : Type 0 where
  pub points : log.points ≡ map point_of (reverse records)
  pub first : Newest
  pub first_is : slice_get log.newest 0 ≡ Some first
  pub newest : (at : ℕ) → newest_at first at ≡ newest_in records at

-- these records were read, and it isn't that there are none to be read
abbrev pub IsReadOf : List Logged → Option OpenLog → Type 0
IsReadOf records None = ⊥
IsReadOf records (Some log) = IsOpenLog records log
