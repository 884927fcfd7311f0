-- Bytes that were cut and aren't cleared, over which a file would grow; and what clears some of them first.
use Rattle.std.specs.Prelude.{◌≡◌, ℕ, ◌<◌, true, false, List, Some}
use Rattle.bx_places.specs.Handles.{named}
use Rattle.bx_inodes.specs.Inodes.{HoldsInode}
use Rattle.bx_layout.specs.declared.inode.Inode.{Inode}
use Rattle.bx_records.specs.Drafts.{Changed}
use Rattle.bx_tree_files.specs.Times.{is_given}
use Rattle.bx_views.specs.Truths.{Truth, with_draft}
use Rattle.bx_sizes.specs.Lengths.{grows_over}

-- The file with a handle may get a size: that grows over no bytes behind its end that were cut and aren't cleared.
abbrev pub ReadyToGrow : ℕ → Truth → ℕ → ℕ → Type 0
ReadyToGrow areas truth handle size = (inode : Inode) → HoldsInode areas truth handle inode → grows_over inode size ≡ false

-- A draft lowers the tail of the file with a handle, by its inode, which stays but for that: it clears bytes that were cut.
pub record LowersTail (areas : ℕ) (truth : Truth) (handle : ℕ) (inode : Inode) (draft : List Changed) : Type 0 where
  pub tail : ℕ
  pub lower : tail < inode.tail
  pub holds : HoldsInode areas (with_draft truth draft) handle (record inode { tail = tail })

-- A size would grow the file with a handle over bytes that were cut, and a draft clears some of them: so it comes only so often.
pub record ClearsFirst (areas : ℕ) (truth : Truth) (handle size : ℕ) (new : List Changed) : Type 0 where
  pub inode : Inode
  pub holds : HoldsInode areas truth handle inode
  pub over : grows_over inode size ≡ true
  pub lowers : LowersTail areas truth handle inode new

-- The file that a file handle names may get the size that is given, if one is.
abbrev pub ReadyToSet : ℕ → ℕ → Truth → List ℕ → ℕ → Type 0
ReadyToSet volume areas truth bytes size = is_given size ≡ true → (handle : ℕ) → named volume bytes ≡ Some handle → ReadyToGrow areas truth handle size

-- It may not yet, and a draft clears bytes.
pub record PreparesSetting (volume areas : ℕ) (truth : Truth) (bytes : List ℕ) (size : ℕ) (new : List Changed) : Type 0 where
  pub given : is_given size ≡ true
  pub handle : ℕ
  pub is_named : named volume bytes ≡ Some handle
  pub clears : ClearsFirst areas truth handle size new
