-- What a recovery did since it began.
use Rattle.std.specs.Prelude.{◌≡◌, ◌⊎◌, ℕ, ◌<◌, Bool, true, List, [], ◌∷◌, ◌++◌, length, map, slice_get, Option, Some}
use Rattle.bx_base.specs.declared.names.Point.{Point}
use Rattle.bx_logs.specs.Bodies.{point_of}
use Rattle.bx_records.specs.Drafts.{Changed}
use Rattle.bx_records.specs.declared.runs.Run.{Run}
use Rattle.bx_redo.specs.declared.work.Work.TheVariants as works
use Rattle.bx_redo.specs.bx_volume.specs.Records.{Logged}
use Rattle.bx_recover.specs.Bodies.{HasNoRecord, IsRecordIn}
use Rattle.bx_recover.specs.Gates.{IsOpenRun}
use Rattle.bx_recover.specs.HomesOf.{AreNewestOf, home_runs}
use Rattle.bx_recover.specs.Recovering.{RecoveryView, Steps, brings_home, closes, reads_body, reads_gates, settles}
use Rattle.bx_recover.specs.declared.moves.Move.{Move}
use Rattle.bx_recover.specs.declared.moves.Move.TheVariants.{Write, Read, Acked, Closed as Ended, Wait}
use Rattle.bx_recover.specs.declared.stage.Stage.{Stage}
use Rattle.bx_recover.specs.declared.stage.Stage.TheVariants.{Begins, Gates, Settles, Bodies, Told, Homes, Closes, Shuts, Closed}

-- ---- steps

-- A step: what came of a read, whether its write was done, and what it said.
pub record RecoveryStep : Type 0 where
  pub arrived : Option (List ℕ)
  pub done : Bool
  pub said : Move

-- These steps, the newest first, made of a recovery that began what it is.
abbrev pub StepsLead : RecoveryView → List RecoveryStep → RecoveryView → Type 0
StepsLead first [] recovery = recovery ≡ first
StepsLead first (step ∷ steps) recovery = (old : RecoveryView) × StepsLead first steps old × Steps old step.arrived step.done recovery step.said

-- It said this last, but that it waits.
abbrev pub IsLast : List RecoveryStep → Move → Type 0
IsLast [] move = ⊥
IsLast (step ∷ steps) move = (step.said ≡ move) ⊎ ((step.said ≡ Wait) × IsLast steps move)

-- It asked for a write, and that was done.
abbrev pub WasDone : List RecoveryStep → Move → Type 0
WasDone [] move = ⊥
WasDone (step ∷ steps) move = ((step.done ≡ true) × IsLast steps move) ⊎ WasDone steps move

-- It asked for a read, and these bytes came.
abbrev pub WasRead : List RecoveryStep → Move → List ℕ → Type 0
WasRead [] move bytes = ⊥
WasRead (step ∷ steps) move bytes = ((step.arrived ≡ Some bytes) × IsLast steps move) ⊎ WasRead steps move bytes

-- the points that it told, in their order
abbrev pub points_in : Move → List Point
points_in (Write runs) = []
points_in (Read device place sectors) = []
points_in (Acked points) = points
points_in Ended = []
points_in Wait = []

abbrev pub told : List RecoveryStep → List Point
told [] = []
told (step ∷ steps) = told steps ++ points_in step.said

-- ---- what was done

module _ (recovery : RecoveryView) (steps : List RecoveryStep) where
  -- All eight gates were read, and so many are open.
  pub record HasGates (gates : List ℕ) (opened : ℕ) : Type 0 where
    pub came : WasRead steps (reads_gates recovery) gates
    pub long : length gates ≡ 4096
    pub run : IsOpenRun gates opened

  -- They were written back as they were read, and that is done.
  pub record HasSettled (opened : ℕ) : Type 0 where
    pub gates : List ℕ
    pub has : HasGates gates opened
    pub back : WasDone steps (settles recovery gates)

  -- A body was read that begins with the record.
  pub record IsReadIn (body : ℕ) (logged : Logged) : Type 0 where
    pub bytes : List ℕ
    pub came : WasRead steps (reads_body recovery body) bytes
    pub is : IsRecordIn recovery.areas bytes logged

  -- The records were read, each in its body.
  abbrev pub AreRead : Type 0
  AreRead = (body : ℕ) (logged : Logged) → slice_get recovery.records body ≡ Some logged → IsReadIn body logged

  -- A body was read that begins with no record.
  pub record IsEmptyBody (body : ℕ) : Type 0 where
    pub bytes : List ℕ
    pub came : WasRead steps (reads_body recovery body) bytes
    pub none : HasNoRecord recovery.areas bytes

  -- The records are those behind the run of open gates, up to the first body without one.
  pub record HasRun : Type 0 where
    pub opened : ℕ
    pub settled : HasSettled opened
    pub each : AreRead
    pub ends : (length recovery.records ≡ opened) ⊎ ((length recovery.records < opened) × IsEmptyBody (length recovery.records))

  -- Their points were told, once each, the oldest first.
  abbrev pub HasTold : Type 0
  HasTold = told steps ≡ map point_of recovery.records

  -- The newest block of each number that they have was written home, and that is done; or there are none.
  pub record AreHome : Type 0 where
    pub run : HasRun
    pub points : HasTold
    pub home : (recovery.records ≡ []) ⊎ ((blocks : List Changed) × AreNewestOf recovery.records blocks × WasDone steps (brings_home recovery blocks))

  -- These runs write the newest block of each number of the run's records home, which were all read, and whose points were told.
  pub record BringsHome (runs : List Run) : Type 0 where
    pub run : HasRun
    pub points : HasTold
    pub blocks : List Changed
    pub newest : AreNewestOf recovery.records blocks
    pub runs_are : runs ≡ home_runs recovery.devices blocks

  -- Gate 0 isn't open: it was so when it was read, or it was closed, and that is done.
  abbrev pub IsFirstClosed : Type 0
  IsFirstClosed = HasSettled 0 ⊎ WasDone steps (closes recovery works.Closes)

  -- What was done by a stage.
  abbrev pub HasDone : Stage → Type 0
  HasDone Begins = (recovery.records ≡ []) × (told steps ≡ [])
  HasDone Gates = (recovery.records ≡ []) × (told steps ≡ []) × IsLast steps (reads_gates recovery)
  HasDone (Settles opened) = (recovery.records ≡ []) × (told steps ≡ []) × ((gates : List ℕ) × HasGates gates opened × IsLast steps (settles recovery gates))
  HasDone (Bodies opened) = (told steps ≡ []) × HasSettled opened × AreRead × (length recovery.records < opened) × IsLast steps (reads_body recovery (length recovery.records))
  HasDone Told = HasRun × HasTold × (0 < length recovery.records)
  HasDone Homes = HasRun × HasTold × ((blocks : List Changed) × AreNewestOf recovery.records blocks × IsLast steps (brings_home recovery blocks))
  HasDone Closes = AreHome × IsLast steps (closes recovery works.Closes)
  HasDone Shuts = AreHome × IsFirstClosed × IsLast steps (closes recovery works.Shuts)
  HasDone Closed = AreHome × IsFirstClosed × WasDone steps (closes recovery works.Shuts)
