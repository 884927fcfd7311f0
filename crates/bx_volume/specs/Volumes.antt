-- Records in doubt, and a rack that is a volume for a tree.
use Rattle.std.specs.Prelude.{◌≡◌, ℕ, ◌+◌, ◌<◌, ◌⊎◌, Bool, false, List, [], ◌∷◌, length, Contains, Some, None}
use Rattle.bx_disk.specs.Disks.{Image, Disks, IsImage}
use Rattle.bx_global.specs.declared.state.GlobalState.{GlobalState}
use Rattle.bx_rows.specs.Words.{is_taken}
use Rattle.bx_layout.specs.declared.block.Block.{Block}
use Rattle.bx_truth.specs.bx_records.specs.Drafts.{block_in}
use Rattle.bx_layout.specs.Labels.{IsOpenGate}
use Rattle.bx_places.specs.Places.{IsBlock, block_place, body_place}
use Rattle.bx_tree_laws.specs.bx_model.specs.declared.tree.Tree.{Tree}
use Rattle.bx_volume.specs.Images.{devices_of, AreSources, ShowsTree}
use Rattle.bx_volume.specs.Records.{Logged, HasLog, gate_of, newest_in}
use Rattle.bx_volume.specs.Overlay.{IsHome, filled_of}

-- one way to read a rack: an image that a crash may leave, the global state that it tells, and a source member of the device for each sector
pub record Reading (disks : Disks) (IsState : Image → GlobalState → Type 0) : Type 0 where
  pub image : Image
  pub is_image : IsImage disks image
  pub state : GlobalState
  pub is_state : IsState image state
  pub second : ℕ → ℕ → Bool
  pub sources : AreSources state second

module _ (disks : Disks) (IsState : Image → GlobalState → Type 0) (devices areas : ℕ) where
  -- what the devices hold by this reading
  abbrev pub read_by : Reading disks IsState → Image
  read_by reading = devices_of reading.image reading.second

  -- the records of a log slot by this reading, the newest first
  abbrev pub HasRun : Reading disks IsState → ℕ → List Logged → Type 0
  HasRun reading slot records = HasLog reading.state.sessions (read_by reading) devices areas slot records

  -- all blocks of these records are home by this reading
  abbrev pub AreHome : Reading disks IsState → List Logged → Type 0
  AreHome reading records = (at : ℕ) (block : Block) → newest_in records at ≡ Some block → IsHome (read_by reading) devices at block

  -- A record is in doubt: it is in its log's run on some source member in some image, not on each of them in every image, and not all
  -- of its blocks are home.
  pub record InDoubt (slot : ℕ) (logged : Logged) : Type 0 where
    pub is_slot : slot < 8
    pub one : Reading disks IsState
    pub run : List Logged
    pub has_run : HasRun one slot run
    pub in_run : Contains run logged
    pub other : Reading disks IsState
    pub other_run : List Logged
    pub has_other : HasRun other slot other_run
    pub not_in_run : Contains other_run logged → ⊥
    pub another : Reading disks IsState
    pub at : ℕ
    pub block : Block
    pub changed : block_in logged.changed at ≡ Some block
    pub not_home : IsHome (read_by another) devices at block → ⊥

  -- two readings of one image
  pub record AreOfOne (one other : Reading disks IsState) : Type 0 where
    pub image : one.image ≡ other.image
    pub state : one.state ≡ other.state

  -- the runs of one log on two source members: they differ by one record at most, or one is empty and the blocks of the other are home on both
  abbrev pub AreClose : Reading disks IsState → Reading disks IsState → List Logged → List Logged → Type 0
  AreClose one other a b =
      (a ≡ b) ⊎ (((logged : Logged) × (a ≡ logged ∷ b)) ⊎ (((logged : Logged) × (b ≡ logged ∷ a))
      ⊎ (((a ≡ []) × AreHome one b × AreHome other b) ⊎ ((b ≡ []) × AreHome one a × AreHome other a))))

  -- no log has a block with this number, by this reading
  abbrev pub IsUnloggedBy : Reading disks IsState → ℕ → Type 0
  IsUnloggedBy reading at = (slot : ℕ) (records : List Logged) → slot < 8 → HasRun reading slot records → newest_in records at ≡ None

  -- The rack is a volume for the tree, where After leads from a tree to that tree, or to it after some of the calls in doubt.
  pub record IsVolumeFor (After : Tree → Tree → Type 0) (tree : Tree) : Type 0 where
    pub stands : (reading : Reading disks IsState) → (after : Tree) × After tree after × ShowsTree disks.sizes reading.image reading.state reading.second after
    pub homes : (one other : Reading disks IsState) → AreOfOne one other → (at i : ℕ) → IsBlock areas at → IsUnloggedBy one at → IsUnloggedBy other at → i < 9
        → read_by one (block_place at devices).0 ((block_place at devices).1 + i) ≡ read_by other (block_place at devices).0 ((block_place at devices).1 + i)
    pub bodies : (one other : Reading disks IsState) → AreOfOne one other → (slot : ℕ) (records : List Logged) → slot < 8 → HasRun one slot records
        → (body i : ℕ) → body < length records → i < filled_of records body
        → read_by one (body_place slot body devices).0 ((body_place slot body devices).1 + i) ≡ read_by other (body_place slot body devices).0 ((body_place slot body devices).1 + i)
    pub runs : (one other : Reading disks IsState) → AreOfOne one other → (slot : ℕ) (a b : List Logged) → slot < 8 → HasRun one slot a → HasRun other slot b → AreClose one other a b
    pub closed : (reading : Reading disks IsState) → (slot gate : ℕ) → slot < 8 → gate < 8 → is_taken reading.state.sessions slot ≡ false
        → IsOpenGate (gate_of (read_by reading) devices slot gate) → ⊥
