-- What the disks hold of a node that stopped: the log stands as it did, and a record that was under way may be found open, or not.
use Rattle.std.specs.Prelude.{◌≡◌, ◌≢◌, ◌⊎◌, ℕ, ◌<◌, ◌≤◌, List, [], Contains, Option, Some}
use Rattle.bx_base.specs.declared.names.Point.{Point}
use Rattle.bx_disk.specs.Disks.{Disks, Image}
use Rattle.bx_facts.specs.Writes.{IsSettled}
use Rattle.bx_global.specs.Opening.{opening_state}
use Rattle.bx_logs.specs.Bodies.{point_of}
use Rattle.bx_model.specs.declared.tree.Tree.{Tree}
use Rattle.bx_redo.specs.Stands.{LogStands}
use Rattle.bx_redo.specs.Steps.{closed_log}
use Rattle.bx_redo.specs.View.{LogView}
use Rattle.bx_redo.specs.declared.work.Work.{Work}
use Rattle.bx_redo.specs.declared.work.Work.TheVariants as works
use Rattle.bx_steps.specs.Steps.{StandsWith, StepOfTree}
use Rattle.bx_views.specs.Attempts.{Deed}
use Rattle.bx_views.specs.Truths.{Truth, no_hints, with_draft}
use Rattle.bx_volume.specs.Overlay.{Logs}
use Rattle.bx_volume.specs.Records.{Logged}
use Rattle.bx_plain_repair.specs.Bench.{IsLabelledBench}

-- a call that waited for its reply: its number, whose it is, and its bytes
pub record Waiting : Type 0 where
  pub number : ℕ
  pub client : ℕ
  pub datagram : List ℕ

-- what it does at a point, where it is answered so
abbrev pub deed_of : Waiting → Point → List ℕ → Deed
deed_of call point reply = record { client = call.client; call = call.datagram; moment = point.moment; spare = point.spare; made = point.made; reply = reply }

-- the point of a record that is under way
abbrev pub IsAt : Work → Point → Type 0
IsAt works.Idle point = ⊥
IsAt (works.Body text at) point = at ≡ point
IsAt (works.Opens at) point = at ≡ point
IsAt works.Closes point = ⊥
IsAt works.Shuts point = ⊥

-- a call whose record may be open though nobody was told: the call, and the record's point
pub record OpenDoubt : Type 0 where
  pub call : Waiting
  pub point : Point

-- The call in doubt has this point. Its number is above those of the calls that were told, and by it the tree takes one step.
pub record IsOfDoubt (floor : ℕ) (tree : Tree) (doubt : Option OpenDoubt) (point : Point) (next : Tree) : Type 0 where
  pub call : Waiting
  pub is : doubt ≡ Some (record { call = call; point = point })
  pub of : point.call ≡ call.number
  pub above : floor < point.call
  pub reply : List ℕ
  pub step : StepOfTree tree (deed_of call point reply) next

-- What a record at this point does to the tree: what the call in doubt does; or nothing, where it is of no call.
abbrev pub RecordLeads : ℕ → Tree → Option OpenDoubt → Point → Tree → Type 0
RecordLeads floor tree doubt point next = ((next ≡ tree) × (point.call ≤ floor)) ⊎ IsOfDoubt floor tree doubt point next

-- The record under way is of this point, and its blocks lead the truth to the next tree.
pub record IsUnsettled (volume floor : ℕ) (tree : Tree) (doubt : Option OpenDoubt) (truth : Truth) (more : Logged) (point : Point) : Type 0 where
  pub of : point_of more ≡ point
  pub next : Tree
  pub stands : StandsWith volume 1 (with_draft truth more.changed) no_hints next
  pub leads : RecordLeads floor tree doubt point next

-- The disks hold the tree: a log in slot 0 stands, and the calls of its open records, with numbers up to the floor, were told. A record under way leads to
-- what the call in doubt does.
pub record IsLeft (volume floor : ℕ) (tree : Tree) (doubt : Option OpenDoubt) (disks : Disks) : Type 0 where
  pub before : Image
  pub logs : Logs
  pub truth : Truth
  pub more : Logged
  pub log : LogView
  pub slot : log.slot ≡ 0
  pub stands : LogStands (IsSettled disks (opening_state 1 1)) 1 1 (opening_state 1 1).sessions before logs truth more log
  pub others : (slot : ℕ) → slot ≢ 0 → logs slot ≡ []
  pub told : (logged : Logged) → Contains (logs 0) logged → logged.head.call ≤ floor
  pub tree_is : StandsWith volume 1 truth no_hints tree
  pub leads : (point : Point) → IsAt log.work point → IsUnsettled volume floor tree doubt truth more point
  pub labelled : IsLabelledBench disks volume

-- The disks hold the tree, and the log is closed: a node may begin.
pub record IsClosed (volume : ℕ) (tree : Tree) (disks : Disks) : Type 0 where
  pub before : Image
  pub truth : Truth
  pub more : Logged
  pub stands : LogStands (IsSettled disks (opening_state 1 1)) 1 1 (opening_state 1 1).sessions before (λ slot. []) truth more (closed_log 0 0)
  pub tree_is : StandsWith volume 1 truth no_hints tree
  pub labelled : IsLabelledBench disks volume
