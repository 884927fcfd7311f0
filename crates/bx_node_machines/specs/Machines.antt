-- What nodes have under way, and how it goes with the logs, the writes and the reads of their sessions.
use Rattle.std.specs.Prelude.{◌≡◌, ◌⊎◌, ℕ, ◌+◌, ◌<◌, ◌&&◌, ◌==◌, Bool, true, false, List, [], Contains, length, Option, Some, None, IsSomeAnd}
use Rattle.bx_base.specs.declared.names.Mode.{Mode}
use Rattle.bx_base.specs.declared.names.Point.{Point}
use Rattle.bx_disk.specs.Disks.{Image}
use Rattle.bx_facts.specs.Holds.{Holds}
use Rattle.bx_facts.specs.Writes.{Asked, Sent, WritesIn}
use Rattle.bx_places.specs.Places.{IsBlock, block_place, log_device}
use Rattle.bx_records.specs.Drafts.{Block as Content, Changed, block_in}
use Rattle.bx_records.specs.declared.runs.Run.{Run}
use Rattle.bx_recover.specs.Recovering.{RecoveryView}
use Rattle.bx_node_views.specs.bx_redo.specs.Homes.{AreItsHomes}
use Rattle.bx_node_views.specs.bx_redo.specs.Steps.{writes}
use Rattle.bx_node_views.specs.bx_redo.specs.View.{LogView}
use Rattle.bx_node_views.specs.bx_redo.specs.declared.work.Work.{Work}
use Rattle.bx_node_views.specs.bx_redo.specs.declared.work.Work.TheVariants as works
use Rattle.bx_rows.specs.declared.session.SessionRow.{SessionRow}
use Rattle.bx_rows.specs.Words.{row_in}
use Rattle.bx_views.specs.Truths.{Held, Hints}
use Rattle.bx_node_views.specs.bx_volume.specs.Overlay.{Logs, IsUnlogged}
use Rattle.bx_node_views.specs.bx_volume.specs.Records.{newest_in}
use Rattle.bx_node_views.specs.bx_world_logs.specs.Logs as world_logs
use Rattle.bx_node_views.specs.bx_world_logs.specs.Logs.{Slot, begins, idle}
use Rattle.bx_world_views.specs.Views.{Act, Allows, Unacknowledged, OfCall, OfTidy}

-- ---- a node

-- The call that a record is of: its number, whose it is, its bytes, and the reply that it gets.
pub record Replying : Type 0 where
  pub number : ℕ
  pub client : ℕ
  pub call : List ℕ
  pub reply : List ℕ

abbrev pub number_of : Option Replying → ℕ
number_of None = 0
number_of (Some call) = call.number

-- what a record does at its point: the deed of its call, or nothing that the tree shows, where it is of none
abbrev pub act_of : Option Replying → Point → Act
act_of None point = OfTidy
act_of (Some call) point = OfCall (record { client = call.client; call = call.call; moment = point.moment; spare = point.spare; made = point.made; reply = call.reply })

-- What a node's log is for: nothing; a record of these blocks, of a call or of none; the blocks of its records go home; it is closed. Or it rests while its
-- node recovers the log of a session that is gone, as far as this.
pub data Stage : Type 0 where
  Idle : Stage
  Records : Option Replying → List Changed → Stage
  Homes : Stage
  Closes : Stage
  Recovers : ℕ → RecoveryView → Stage

-- What a node reads: nothing; a block, to hold it so; one that it has let go meanwhile, so that what comes counts for nothing; or what a recovery asked for.
pub data Fetch : Type 0 where
  Nothing : Fetch
  Block : ℕ → Mode → Fetch
  Dropped : Fetch
  OfLog : Fetch

-- A node: under which session it has what it has; what its cache shows, which blocks there were committed and aren't home yet, and hints of other
-- blocks; its log, and what that is for; what it reads; the sessions whose logs it has recovered.
pub record MachineView : Type 0 where
  pub session : Option ℕ
  pub held : Held
  pub away : ℕ → Option Content
  pub hints : Hints
  pub log : LogView
  pub stage : Stage
  pub fetch : Fetch
  pub finished : List ℕ

abbrev pub is_one : Option ℕ → Option ℕ → Bool
is_one None other = false
is_one (Some a) None = false
is_one (Some a) (Some b) = a == b

-- whether a node has what it has under a session that is its own
abbrev pub is_under : Option MachineView → Option ℕ → ℕ → Bool
is_under None own session = false
is_under (Some machine) own session = is_one machine.session (Some session) && is_one own (Some session)

-- ---- what is out

-- A session's write of these runs is out, the only one of it that members may take.
pub record IsFlying (session : ℕ) (runs : List Run) (out : Option Sent) (sent : List Sent) : Type 0 where
  pub write : Sent
  pub whose : write.session ≡ session
  pub runs_are : write.runs ≡ runs
  pub once : (d s : ℕ) (content other : List ℕ) → WritesIn runs d s content → WritesIn runs d s other → other ≡ content
  pub is_out : out ≡ Some write
  pub only : (other : Sent) → Contains sent other → other.session ≡ session → other ≡ write

-- It is done: what it brought stands so, surely.
pub record IsLanded (Sure : ℕ → ℕ → List ℕ → Type 0) (runs : List Run) (out : Option Sent) : Type 0 where
  pub none_out : out ≡ None
  pub sure : (d s : ℕ) (content : List ℕ) → WritesIn runs d s content → Sure d s content

abbrev pub IsWriting : (ℕ → ℕ → List ℕ → Type 0) → ℕ → List Run → Option Sent → List Sent → Type 0
IsWriting Sure session runs out sent = IsFlying session runs out sent ⊎ IsLanded Sure runs out

-- the body of a record or its gate is written; the log is being closed
abbrev pub IsOfRecord : Work → Type 0
IsOfRecord works.Idle = ⊥
IsOfRecord (works.Body text point) = Unit {0}
IsOfRecord (works.Opens point) = Unit {0}
IsOfRecord works.Closes = ⊥
IsOfRecord works.Shuts = ⊥

abbrev pub IsOfClosing : Work → Type 0
IsOfClosing works.Idle = ⊥
IsOfClosing (works.Body text point) = ⊥
IsOfClosing (works.Opens point) = ⊥
IsOfClosing works.Closes = Unit {0}
IsOfClosing works.Shuts = Unit {0}

-- the record in doubt of a session is of these blocks and of this call, at a point that has its number
pub record IsDoubtOf (call : Option Replying) (draft : List Changed) (point : Point) (doubt : Unacknowledged) : Type 0 where
  pub draft_is : doubt.draft ≡ draft
  pub call_is : doubt.call ≡ number_of call
  pub numbered : point.call ≡ number_of call
  pub act_is : doubt.act ≡ act_of call point

-- at the point of the record that is written
abbrev pub IsDoubtIn : Work → Option Replying → List Changed → Unacknowledged → Type 0
IsDoubtIn works.Idle call draft doubt = ⊥
IsDoubtIn (works.Body text point) call draft doubt = IsDoubtOf call draft point doubt
IsDoubtIn (works.Opens point) call draft doubt = IsDoubtOf call draft point doubt
IsDoubtIn works.Closes call draft doubt = ⊥
IsDoubtIn works.Shuts call draft doubt = ⊥

-- the read of a block's home
abbrev pub home_of : ℕ → ℕ → Asked
home_of devices at = record { device = (block_place at devices).0; place = (block_place at devices).1; count = 9 }

-- ---- what a node is about

-- What the nodes' work goes with: each node, where there is one, and its own session, where it is up; the rows of sessions; each node's write and
-- read that are out; what sessions hold, and the writes that members may take; a content of the devices, logs, what is under way, what is in doubt.
pub record Scene : Type 0 where
  pub machines : ℕ → Option MachineView
  pub own : ℕ → Option ℕ
  pub rows : List SessionRow
  pub out : ℕ → Option Sent
  pub asked : ℕ → Option Asked
  pub holding : Holds
  pub sent : List Sent
  pub before : Image
  pub logs : Logs
  pub slots : ℕ → Slot
  pub doubts : ℕ → Option Unacknowledged

-- what isn't home yet is what the log of a slot has
abbrev pub AreAway : Logs → ℕ → MachineView → Type 0
AreAway logs slot machine = (at : ℕ) → machine.away at ≡ newest_in (logs slot) at

-- no record that is under way has a block
abbrev pub IsUnwritten : (ℕ → Slot) → ℕ → Type 0
IsUnwritten slots block = (slot : ℕ) → slot < 8 → begins (slots slot).activity ≡ true → block_in (slots slot).more.changed block ≡ None

-- what is read isn't shown
abbrev pub IsUnseen : Held → Fetch → Type 0
IsUnseen held Nothing = Unit {0}
IsUnseen held (Block block mode) = (way : Mode) → held block way ≡ None
IsUnseen held Dropped = Unit {0}
IsUnseen held OfLog = Unit {0}

module _ (devices areas : ℕ) where
  -- The read of a block: its session holds it so, and neither a log nor a record under way has it. It may not have been asked for yet; else each answer
  -- that may come has in each sector what stands there. (`Reads` says this of the node's answers.)
  pub record IsFetched (Reads : ℕ → List ℕ → Type 0) (s : Scene) (node session block : ℕ) (mode : Mode) : Type 0 where
    pub is : IsBlock areas block
    pub allows : Allows (s.holding session block) mode
    pub unlogged : IsUnlogged s.logs block
    pub unwritten : IsUnwritten s.slots block
    pub asked : (s.asked node ≡ None) ⊎ ((s.asked node ≡ Some (home_of devices block))
        × ((i : ℕ) → i < 9 → Reads ((block_place block devices).1 + i) (s.before (block_place block devices).0 ((block_place block devices).1 + i))))

  abbrev pub IsFetching : (ℕ → List ℕ → Type 0) → Scene → ℕ → ℕ → Fetch → Type 0
  IsFetching Reads s node session Nothing = s.asked node ≡ None
  IsFetching Reads s node session (Block block mode) = IsFetched Reads s node session block mode
  IsFetching Reads s node session Dropped = Unit {0}
  IsFetching Reads s node session OfLog = Unit {0}

  -- What its log does, by what it is for; where it rests it has no records, and where it rests for a recovery the node's write is that one's. (`Sure` says of a sector of a device that it stands so, surely.)
  module _ (Sure : ℕ → ℕ → List ℕ → Type 0) (s : Scene) (node session slot : ℕ) (machine : MachineView) where
    abbrev pub IsAtWork : Stage → Type 0
    IsAtWork Idle = (machine.log.work ≡ works.Idle) × ((s.slots slot).activity ≡ idle) × (s.logs slot ≡ []) × (s.out node ≡ None) × (s.doubts session ≡ None) × AreAway s.logs slot machine
    IsAtWork (Records call draft) = IsOfRecord machine.log.work × (machine.log.out ≡ true) × ((s.slots slot).activity ≡ world_logs.OfLog machine.log.work)
        × IsWriting Sure session (writes machine.log machine.log.work).1 (s.out node) s.sent × IsSomeAnd (s.doubts session) (IsDoubtIn machine.log.work call draft) × AreAway s.logs slot machine
    IsAtWork Homes = (machine.log.work ≡ works.Idle) × ((s.slots slot).activity ≡ idle) × (0 < length (s.logs slot))
        × ((runs : List Run) × AreItsHomes devices areas s.logs slot runs × IsWriting Sure session runs (s.out node) s.sent) × (s.doubts session ≡ None) × AreAway s.logs slot machine
    IsAtWork Closes = IsOfClosing machine.log.work × (machine.log.out ≡ true) × ((s.slots slot).activity ≡ world_logs.OfLog machine.log.work)
        × IsWriting Sure session (writes machine.log machine.log.work).1 (s.out node) s.sent × (s.doubts session ≡ None) × ((at : ℕ) → machine.away at ≡ None)
    IsAtWork (Recovers gone recovery) = (machine.log.work ≡ works.Idle) × ((s.slots slot).activity ≡ idle) × (s.logs slot ≡ []) × (s.doubts session ≡ None) × AreAway s.logs slot machine

  -- The node has its session's log, and what it is about.
  pub record IsAbout (Sure : ℕ → ℕ → List ℕ → Type 0) (Reads : ℕ → List ℕ → Type 0) (s : Scene) (node session slot : ℕ) (machine : MachineView) : Type 0 where
    pub is_slot : machine.log.slot ≡ slot
    pub device : machine.log.device ≡ log_device slot devices
    pub count : machine.log.count ≡ length (s.logs slot)
    pub work : IsAtWork Sure s node session slot machine machine.stage
    pub fetch : IsFetching Reads s node session machine.fetch
    pub unseen : IsUnseen machine.held machine.fetch

-- A session that its node didn't use yet: its log has no records, and nothing is under way, in doubt or out.
pub record IsFresh (s : Scene) (node session slot : ℕ) : Type 0 where
  pub none : s.logs slot ≡ []
  pub still : (s.slots slot).activity ≡ idle
  pub undoubted : s.doubts session ≡ None
  pub unwritten : s.own node ≡ Some session → s.out node ≡ None
  pub unasked : s.own node ≡ Some session → s.asked node ≡ None

-- Each node that has what it has under a live session of its own is about what that session's log, writes and reads are; any other live session that
-- is a node's own or may come to be, and is no other's, is fresh. (`IsOf` says that a row is one that may.)
pub record AreAbout (devices areas : ℕ) (Sure : ℕ → ℕ → List ℕ → Type 0) (Reads : ℕ → ℕ → List ℕ → Type 0) (IsOf : ℕ → SessionRow → Type 0) (s : Scene) : Type 0 where
  pub each : (node session : ℕ) (machine : MachineView) (row : SessionRow) → s.machines node ≡ Some machine → machine.session ≡ Some session → s.own node ≡ Some session
      → row_in s.rows session ≡ Some row → row.dead ≡ 0 → IsAbout devices areas Sure (Reads node) s node session row.slot machine
  pub fresh : (node session : ℕ) (row : SessionRow) → IsOf node row ⊎ (s.own node ≡ Some session) → ((other : ℕ) → s.own other ≡ Some session → other ≡ node) → row_in s.rows session ≡ Some row → row.dead ≡ 0
      → is_under (s.machines node) (s.own node) session ≡ false → IsFresh s node session row.slot
  pub marked : (node session : ℕ) (machine : MachineView) (row : SessionRow) → IsOf node row → s.machines node ≡ Some machine → machine.session ≡ Some session → row_in s.rows session ≡ Some row → row.dead ≡ 0 → s.own node ≡ Some session
