-- Where a directory has room for an entry, and what makes room where it hasn't, which is to be written first.
use Rattle.std.specs.Prelude.{◌≡◌, ℕ, ◌⊎◌, List, [], Some}
use Rattle.bx_changes.specs.declared.error.ChangeError.{ChangeError}
use Rattle.bx_changes.specs.declared.error.ChangeError.TheVariants.{Stopped, Full}
use Rattle.bx_chunks.specs.Taking.{NoSlots}
use Rattle.bx_places.specs.Handles.{named, parts_of}
use Rattle.bx_inodes.specs.Inodes.{HoldsInode}
use Rattle.bx_inodes.specs.declared.stop.Stop.TheVariants.{Need, Inner, Status, OutOfMemory}
use Rattle.bx_layout.specs.declared.inode.Inode.{Inode}
use Rattle.bx_ready.specs.Lacking.{FindsRoom, MakesRoom}
use Rattle.bx_records.specs.Drafts.{Changed}
use Rattle.bx_truth.specs.Keys.{entry_key, name_key}
use Rattle.bx_views.specs.Truths.{Truth, Held, Hints}

-- An entry finds room in the page tree of a root, under the key of a name and under that of a number.
abbrev pub FindsBoth : ℕ → Truth → ℕ → List ℕ → ℕ → Type 0
FindsBoth areas truth root name number = FindsRoom areas truth root (name_key name) × FindsRoom areas truth root (entry_key number)

-- A draft makes room under one of the two, where there is none.
abbrev pub MakesEither : ℕ → Held → Hints → Truth → ℕ → List ℕ → ℕ → List Changed → Type 0
MakesEither areas held hints truth root name number new = MakesRoom areas held hints truth root (name_key name) new ⊎ MakesRoom areas held hints truth root (entry_key number) new

-- The directory that a file handle names has room for its next entry, under a name.
abbrev pub ReadyToEnter : ℕ → ℕ → Truth → List ℕ → List ℕ → Type 0
ReadyToEnter volume areas truth bytes name =
    (handle : ℕ) (inode : Inode) → named volume bytes ≡ Some handle → HoldsInode areas truth handle inode → FindsBoth areas truth inode.tree name inode.next

-- It has none, and a draft makes it.
pub record MakesPlace (volume areas : ℕ) (held : Held) (hints : Hints) (truth : Truth) (bytes name : List ℕ) (new : List Changed) : Type 0 where
  pub handle : ℕ
  pub inode : Inode
  pub is_named : named volume bytes ≡ Some handle
  pub holds : HoldsInode areas truth handle inode
  pub makes : MakesEither areas held hints truth inode.tree name inode.next new

-- Near the directory that a file handle names no slot is left.
pub record NoSlotsNear (volume areas : ℕ) (held : Held) (bytes : List ℕ) (spare : ℕ) : Type 0 where
  pub handle : ℕ
  pub is_named : named volume bytes ≡ Some handle
  pub none : NoSlots held (parts_of handle).area areas [] spare

-- what holds of the blocks that are to be written first
abbrev pub IfFirst : (List Changed → Type 0) → ChangeError → Type 0
IfFirst Holds (Stopped (Inner blocks)) = Holds blocks
IfFirst Holds (Stopped (Need at mode)) = Unit {0}
IfFirst Holds (Stopped (Status status)) = Unit {0}
IfFirst Holds (Stopped OutOfMemory) = Unit {0}
IfFirst Holds (Full spare) = Unit {0}
