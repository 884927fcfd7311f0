-- The records of the logs: a record stands behind an open gate, and a log's records are those from its first gate on.
use Rattle.std.specs.Prelude.{◌≡◌, ℕ, ◌<◌, ◌≤◌, Bool, true, false, List, [], ◌∷◌, ◌++◌, length, map, Option, Some, None}
use Rattle.std.specs.List.{flat_map, AllByRecursion}
use Rattle.bx_base.specs.Writing.{padded}
use Rattle.bx_disk.specs.Disks.{Image}
use Rattle.bx_calls.specs.Regions.{ReadsAs}
use Rattle.bx_rows.specs.declared.session.SessionRow.{SessionRow}
use Rattle.bx_rows.specs.Words.{is_taken}
use Rattle.bx_layout.specs.declared.block.Block.{Block}
use Rattle.bx_truth.specs.bx_records.specs.declared.record_head.RecordHead.{RecordHead}
use Rattle.bx_layout.specs.Blocks.{HasParts, block_text}
use Rattle.bx_truth.specs.bx_records.specs.Drafts.{Changed, IsDraft, block_in}
use Rattle.bx_layout.specs.Labels.{IsOpenGate}
use Rattle.bx_places.specs.Places.{IsBlock, gate_place, body_place}
use Rattle.bx_truth.specs.bx_records.specs.Records.{IsHead, head_text}

-- a record: its header, and the blocks behind it with their numbers
pub record Logged : Type 0 where
  pub head : RecordHead
  pub changed : List Changed

-- what every record of a volume with so many areas is: its blocks are a draft's, of the numbers that its header has
pub record IsLogged (areas : ℕ) (logged : Logged) : Type 0 where
  pub is_head : IsHead logged.head
  pub numbers : logged.head.blocks ≡ map (λ change. change.0) logged.changed
  pub draft : IsDraft logged.changed
  pub blocks : AllByRecursion (λ change. IsBlock areas change.0 × HasParts change.1) logged.changed

-- the header's sector, and nine sectors for each block
abbrev pub logged_text : Logged → List ℕ
logged_text logged = padded 512 (head_text logged.head) ++ flat_map (λ change. block_text change.1) logged.changed

-- the content of a gate's sector
abbrev pub gate_of : Image → ℕ → ℕ → ℕ → List ℕ
gate_of held devices slot gate = held (gate_place slot gate devices).0 (gate_place slot gate devices).1

-- the record stands in this body of a log slot
pub record IsInBody (held : Image) (devices areas slot body : ℕ) (logged : Logged) : Type 0 where
  pub is : IsLogged areas logged
  pub reads : ReadsAs held (body_place slot body devices).0 (body_place slot body devices).1 (logged_text logged)

-- The records, the newest first, stand in the first bodies, and their gates are open.
abbrev pub StandOpen : Image → ℕ → ℕ → ℕ → List Logged → Type 0
StandOpen held devices areas slot [] = Unit {0}
StandOpen held devices areas slot (newest ∷ older) =
    IsOpenGate (gate_of held devices slot (length older)) × IsInBody held devices areas slot (length older) newest × StandOpen held devices areas slot older

-- The log's records, the newest first: the run of open gates from gate 0.
pub record IsLog (held : Image) (devices areas slot : ℕ) (records : List Logged) : Type 0 where
  pub most : length records ≤ 8
  pub stand : StandOpen held devices areas slot records
  pub end : length records < 8 → IsOpenGate (gate_of held devices slot (length records)) → ⊥

-- the log of a slot with a session, live or dead; a slot without one has no records
abbrev pub LogWhere : Bool → Image → ℕ → ℕ → ℕ → List Logged → Type 0
LogWhere true held devices areas slot records = IsLog held devices areas slot records
LogWhere false held devices areas slot records = records ≡ []

abbrev pub HasLog : List SessionRow → Image → ℕ → ℕ → ℕ → List Logged → Type 0
HasLog rows held devices areas slot records = LogWhere (is_taken rows slot) held devices areas slot records

-- a block, or else another
abbrev pub or_older : Option Block → Option Block → Option Block
or_older None older = older
or_older (Some block) older = Some block

-- the newest block with a number among records, the newest of which comes first
abbrev pub newest_in : List Logged → ℕ → Option Block
newest_in [] at = None
newest_in (newest ∷ older) at = or_older (block_in newest.changed at) (newest_in older at)
