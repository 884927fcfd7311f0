-- What a log asks for, and what it is then.
use Rattle.std.specs.Prelude.{◌≡◌, ℕ, ◌+◌, ◌*◌, ◌==◌, Bool, true, false, if◌then◌else◌, List, [], ◌∷◌, ◌++◌, map, replicate, Some}
use Rattle.std.specs.List.{AllByRecursion, flat_map}
use Rattle.bx_base.specs.declared.names.Point.{Point}
use Rattle.bx_layout.specs.declared.block.Block.{Block}
use Rattle.bx_layout.specs.Blocks.{HasParts, block_text}
use Rattle.bx_layout.specs.Labels.{gate_text}
use Rattle.bx_layout.specs.declared.gate.Gate.TheVariants.{Open, Closed as Shut}
use Rattle.bx_places.specs.Places.{IsBlock, log_start}
use Rattle.bx_records.specs.Drafts.{Changed, IsDraft, block_in}
use Rattle.bx_records.specs.Records.{head_text}
use Rattle.bx_records.specs.declared.record_head.RecordHead.{RecordHead}
use Rattle.bx_base.specs.Writing.{padded}
use Rattle.bx_records.specs.Runs.{KindAndRuns}
use Rattle.bx_volume.specs.Records.{Logged}
use Rattle.bx_redo.specs.View.{LogView}
use Rattle.bx_redo.specs.declared.work.Move.{Move}
use Rattle.bx_redo.specs.declared.work.Move.TheVariants.{Write, Acked, Closed, Wait}
use Rattle.bx_redo.specs.declared.work.Work.{Work}
use Rattle.bx_redo.specs.declared.work.Work.TheVariants.{Idle, Body, Opens, Closes, Shuts}

-- ---- records

-- each is a block of a volume with so many areas
abbrev pub AreBlocksOf : ℕ → List Changed → Type 0
AreBlocksOf areas changed = (at : ℕ) (block : Block) → block_in changed at ≡ Some block → IsBlock areas at × HasParts block

-- what a call changed may be logged: it is a draft, of blocks of some volume
pub record IsLoggable (changed : List Changed) : Type 0 where
  pub draft : IsDraft changed
  pub blocks : AllByRecursion (λ change. IsBlock 64 change.0 × HasParts change.1) changed

-- the record of a call at a point, of the blocks that it changes
abbrev pub record_of : Point → List Changed → Logged
record_of point changed =
    record {
      head = record { call = point.call; moment = point.moment; spare = point.spare; made = point.made; blocks = map (λ change. change.0) changed };
      changed = changed;
    }

-- a header's sector, and the blocks behind it
abbrev pub record_bytes : RecordHead → List Changed → List ℕ
record_bytes head changed = padded 512 (head_text head) ++ flat_map (λ change. block_text change.1) changed

-- ---- a log begins

abbrev pub closed_log : ℕ → ℕ → LogView
closed_log slot device = record { slot = slot; device = device; count = 0; work = Idle; out = false }

-- a log that was found with so many records open, whose closing is under way; where none is, that of the gates behind gate 0
abbrev pub found_log : ℕ → ℕ → ℕ → LogView
found_log slot device count = record { slot = slot; device = device; count = count; work = if count == 0 then Shuts else Closes; out = false }

-- the log with a work under way, of which nothing is asked for yet
abbrev pub with_work : LogView → Work → LogView
with_work log work = record log { work = work; out = false }

-- ---- what it asks for

-- one run, of a kind
abbrev pub one_run : ℕ → ℕ × ℕ → List ℕ → KindAndRuns
one_run kind place bytes = (kind, record { device = place.0; place = place.1; bytes = bytes } ∷ [])

-- the sectors of the seven gates behind gate 0, closed
unfoldable pub shut_text : List ℕ
shut_text = replicate 3584 0

-- the device and the sector of a gate, and of the beginning of a body
abbrev pub gate_at : LogView → ℕ → ℕ × ℕ
gate_at log gate = (log.device, log_start log.slot + gate)

abbrev pub body_at : LogView → ℕ → ℕ × ℕ
body_at log body = (log.device, log_start log.slot + 8 + 145 * body)

-- what each work writes: a body behind those of the open records, its gate, gate 0, and the gates behind it
abbrev pub writes : LogView → Work → KindAndRuns
writes log Idle = (0, [])
writes log (Body text point) = one_run 14 (body_at log log.count) text
writes log (Opens point) = one_run 15 (gate_at log log.count) (gate_text Open)
writes log Closes = one_run 17 (gate_at log 0) (gate_text Shut)
writes log Shuts = one_run 17 (gate_at log 1) shut_text

-- ---- steps

-- it asks for what a work writes
pub record Asks (old new : LogView) (move : Move) (work : Work) : Type 0 where
  pub now : new ≡ record old { work = work; out = true }
  pub asks : move ≡ Write (writes old work)

-- it says a thing, and nothing is under way
pub record Ends (old new : LogView) (move said : Move) : Type 0 where
  pub now : new ≡ record old { work = Idle; out = false }
  pub says : move ≡ said

-- What comes when a write is acknowledged: behind a body its gate, then the record is open; behind gate 0, with which all its records
-- are closed, the other gates, then the log is closed.
abbrev pub WorkGoes : LogView → LogView → Move → Work → Type 0
WorkGoes old new move Idle = Unit {0}
WorkGoes old new move (Body text point) = Asks old new move (Opens point)
WorkGoes old new move (Opens point) = Ends (record old { count = old.count + 1 }) new move (Acked point)
WorkGoes old new move Closes = Asks (record old { count = 0 }) new move Shuts
WorkGoes old new move Shuts = Ends old new move Closed

-- A step: a write that is out is waited for, a work that has none asks for its own, and what was acknowledged goes on.
abbrev pub Steps : Bool → Bool → LogView → LogView → Move → Type 0
Steps true false old new move = (new ≡ old) × (move ≡ Wait)
Steps true true old new move = WorkGoes old new move old.work
Steps false done old new move = Asks old new move old.work
