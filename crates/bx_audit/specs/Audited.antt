-- What an audit says of the disks of a volume.
use Rattle.std.specs.Prelude.{◌≡◌, ◌⊎◌, ℕ, List}
use Rattle.bx_audit.specs.declared.listing.Listing.{Listing}
use Rattle.bx_audit.specs.Blocks.{IsTornBlock, blocks_of}
use Rattle.bx_audit.specs.Walked.{IsRightFromRoot, IsWrongFromRoot}
use Rattle.bx_base.specs.declared.names.Point.{Point}
use Rattle.bx_disk.specs.Disks.{Disks}
use Rattle.bx_global.specs.declared.state.GlobalState.{GlobalState}
use Rattle.bx_layout.specs.declared.block.Block.{Block}
use Rattle.bx_layout.specs.declared.label.Label.{Label}
use Rattle.bx_model.specs.declared.tree.Tree.{Tree}
use Rattle.bx_model.specs.Listing.{listing}
use Rattle.bx_overlay.specs.declared.error.AuditError.{AuditError}
use Rattle.bx_logs.specs.declared.members.Members.{Members}
use Rattle.bx_overlay.specs.declared.volume_disks.VolumeDisks.{VolumeDisks}
use Rattle.bx_logs.specs.Logs.{AreLogs, points_in}
use Rattle.bx_overlay.specs.Reading.{AreMembers, IsRead, IsRefused}
use Rattle.bx_homes.specs.bx_volume.specs.Images.{ImageStandsFor, IsFirstLabel}
use Rattle.bx_homes.specs.bx_volume.specs.Records.{Logged}

-- as they read, and in this global state, the disks stand for the tree
abbrev pub StandFor : Disks → GlobalState → Tree → Type 0
StandFor disks state tree = ImageStandsFor disks.sizes (λ image told. told ≡ state) disks.reads tree

-- they stand for none
abbrev pub StandForNone : Disks → GlobalState → Type 0
StandForNone disks state = (tree : Tree) → StandFor disks state tree → ⊥

-- the points of the records that are open on the members that reads go to, slot by slot, the oldest first in each
pub record AreOpen (disks : Disks) (state : GlobalState) (points : List Point) : Type 0 where
  pub first : Label
  pub is_first : IsFirstLabel disks.sizes disks.reads first
  pub members : Members
  pub are_members : AreMembers first state.devices members
  pub logs : List (List Logged)
  pub are_logs : AreLogs disks.reads members state.sessions logs
  pub points_are : points ≡ points_in logs

-- the listing of a tree that the disks stand for, and the points of the records found open
pub record IsListed (disks : Disks) (state : GlobalState) (listed : Listing) : Type 0 where
  pub tree : Tree
  pub stands : StandFor disks state tree
  pub text_is : listed.text ≡ listing tree
  pub doubt : AreOpen disks state listed.doubt

-- Nothing that the walk from the root meets is wrong, and still a block is: it is the first, slot by slot, that isn't as the slots ask; or
-- slots are right, and what the walk doesn't meet isn't as it should be.
pub record IsTornElse (areas : ℕ) (stands : ℕ → Block → Type 0) (error : AuditError) : Type 0 where
  pub right : IsRightFromRoot areas stands
  pub why : IsTornBlock areas stands error

-- Why blocks are refused, and what is told of the one that is torn: the walk from the root meets it; or, where nothing that it meets is wrong,
-- another one.
abbrev pub IsTorn : ℕ → (ℕ → Block → Type 0) → AuditError → Type 0
IsTorn areas stands error = IsWrongFromRoot areas stands error ⊎ IsTornElse areas stands error

-- labels, members and logs are those of a volume, and a block is wrong
pub record HasWrongBlocks (disks : Disks) (state : GlobalState) (error : AuditError) : Type 0 where
  pub read : VolumeDisks
  pub is : IsRead disks state read
  pub torn : IsTorn read.members.areas (blocks_of disks read) error

-- why disks are refused: for their labels, members or logs; or else for a block
abbrev pub Refuses : Disks → GlobalState → AuditError → Type 0
Refuses disks state error = IsRefused disks state error ⊎ HasWrongBlocks disks state error

-- the disks are refused for this, and stand for no file tree
pub record IsAuditRefusal (disks : Disks) (state : GlobalState) (error : AuditError) : Type 0 where
  pub why : Refuses disks state error
  pub none : StandForNone disks state
