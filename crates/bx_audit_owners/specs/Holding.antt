-- What has the chunks of a volume, as it is found inode by inode.
use Rattle.std.specs.Prelude.{◌≡◌, ◌≢◌, ◌⊎◌, ◌<◌, ℕ, true, if◌then◌else◌, List, length, slice_index_or, Option, Some, None, ◌↔◌}
use Rattle.std.specs.BTreeMap.{BTreeMap, get}
use Rattle.std.specs.Ordering.{nat_cmp}
use Rattle.bx_audit_bodies.specs.declared.claims.Claim.{Claim}
use Rattle.bx_audit_owners.specs.declared.holders.Holder.{Holder}
use Rattle.bx_audit_owners.specs.declared.holders.Holder.TheVariants.{File as OfFile, Dead as OfDead, Page as OfPage, Piece as OfPiece}
use Rattle.bx_audit_slots.specs.declared.slots.UsedSlot.{UsedSlot}
use Rattle.bx_tree_files.specs.declared.file.File.{File}
use Rattle.bx_truth.specs.Chunks.{block_at}
use Rattle.bx_truth.specs.Stored.{Owner, Inodes, PageOf, DataOf}

-- what has each chunk, by its handle
abbrev pub Holdings : Type 0
Holdings = ℕ → Option Holder

-- as a map has them
abbrev pub holdings_of : BTreeMap ℕ Holder → Holdings
holdings_of holders handle = get nat_cmp holders handle

-- the owner that it is: an inode is its own
abbrev pub owner_of : Holder → Owner
owner_of OfFile = Inodes
owner_of OfDead = Inodes
owner_of (OfPage inode) = PageOf inode
owner_of (OfPiece inode index) = DataOf inode index

-- what a chunk has that the inode with this handle claims: as a page, or as the block of the piece with this index
abbrev pub holder_by : ℕ → Option ℕ → Holder
holder_by inode None = OfPage inode
holder_by inode (Some index) = OfPiece inode index

-- what an inode is: a file's, or a dead one where it has none
abbrev pub holder_for : Option File → Holder
holder_for None = OfDead
holder_for (Some file) = OfFile

-- the chunk has this holder, and had no other; all other chunks have what they had
pub record Puts (before : Holdings) (handle : ℕ) (holder : Holder) (now : Holdings) : Type 0 where
  pub itself : now handle ≡ Some holder
  pub free : (other : Holder) → before handle ≡ Some other → other ≡ holder
  pub others : (at : ℕ) → at ≢ handle → now at ≡ before at

-- the chunk has another holder
pub record HasOther (before : Holdings) (handle : ℕ) (holder : Holder) : Type 0 where
  pub other : Holder
  pub there : before handle ≡ Some other
  pub apart : other ≡ holder → ⊥

-- a claim is among so many first ones
abbrev pub IsAmong : List Claim → ℕ → Claim → Type 0
IsAmong claims count claim = (k : ℕ) × (k < count) × (slice_index_or claims k claim ≡ claim)

-- a chunk has a holder: it had it before, or is the inode itself, or is claimed by it
abbrev pub IsHeldAfter : Holdings → ℕ → Holder → List Claim → ℕ → ℕ → Holder → Type 0
IsHeldAfter before inode holder claims count at held =
    (before at ≡ Some held) ⊎ (((at ≡ inode) × (held ≡ holder)) ⊎ ((claim : Claim) × IsAmong claims count claim × (at ≡ claim.handle) × (held ≡ holder_by inode claim.piece)))

-- an inode and so many of its claims are put beside what was found before
pub record AddsHolder (before : Holdings) (inode : ℕ) (holder : Holder) (claims : List Claim) (count : ℕ) (now : Holdings) : Type 0 where
  pub itself : now inode ≡ Some holder
  pub each : (claim : Claim) → IsAmong claims count claim → now claim.handle ≡ Some (holder_by inode claim.piece)
  pub still : (at : ℕ) (held : Holder) → before at ≡ Some held → now at ≡ Some held
  pub only : (at : ℕ) (held : Holder) → now at ≡ Some held → IsHeldAfter before inode holder claims count at held

-- A claim is of a chunk that has another holder: the first such one, since those before it could be put beside what was found.
pub record Clashes (before : Holdings) (inode : ℕ) (holder : Holder) (claims : List Claim) : Type 0 where
  pub claim : Claim
  pub place : ℕ
  pub there : place < length claims
  pub is : slice_index_or claims place claim ≡ claim
  pub earlier : Holdings
  pub put : AddsHolder before inode holder claims place earlier
  pub other : Holder
  pub held : earlier claim.handle ≡ Some other
  pub apart : other ≡ holder_by inode claim.piece → ⊥

-- the chunk of a slot has a holder, and the slot is marked exactly where that is a dead inode
pub record IsHeld (holdings : Holdings) (slot : UsedSlot) : Type 0 where
  pub holder : Holder
  pub there : holdings slot.handle ≡ Some holder
  pub marked : (slot.dead ≡ true) ↔ (holder ≡ OfDead)

-- The chunk of a slot is torn: found by its handle, which is wanted where the slot is marked as a dead inode's; else nothing names it, and 0 is.
pub record IsTornSlot (slot : UsedSlot) (at found wanted : ℕ) : Type 0 where
  pub at_is : at ≡ block_at slot.handle
  pub found_is : found ≡ slot.handle
  pub wanted_is : wanted ≡ (if slot.dead then slot.handle else 0)
