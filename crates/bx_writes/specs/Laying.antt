-- All pieces that bytes are in, laid on a file's inode.
use Rattle.std.specs.Prelude.{◌≡◌, ℕ, ◌+◌, ◌*◌, ◌<◌, ◌≤◌, ◌^◌, [], List, length, Result, Ok, Err}
use Rattle.std.specs.Int.{div_ceil}
use Rattle.bx_changes.specs.declared.error.ChangeError.{ChangeError}
use Rattle.bx_changes.specs.declared.error.ChangeError.TheVariants.{Stopped, Full}
use Rattle.bx_inodes.specs.declared.stop.Stop.TheVariants.{Need, Inner, Status, OutOfMemory}
use Rattle.bx_inodes.specs.Writing.{PutsInode}
use Rattle.bx_layout.specs.declared.inode.Inode.{Inode}
use Rattle.bx_model.specs.declared.tree.Tree.{Tree}
use Rattle.bx_records.specs.Drafts.{Changed}
use Rattle.bx_tree_files.specs.declared.file.Body.TheVariants.{Bytes}
use Rattle.bx_tree_files.specs.declared.file.File.{File}
use Rattle.bx_truth.specs.Stands.{StandsFor}
use Rattle.bx_truth.specs.Stored.{AreBytesOf, HasFields}
use Rattle.bx_layout.specs.declared.block.Block.{Block}
use Rattle.std.specs.Prelude.{Option}
use Rattle.bx_views.specs.Truths.{Truth, Held}
use Rattle.bx_writes.specs.Steps.{PutsOn}

-- in how many pieces bytes are from a place in the first one on
abbrev pub pieces_of : ℕ → List ℕ → ℕ
pieces_of place written = div_ceil (place + length written) 4096

-- A file's inode becomes this one, with these fields, and the file's bytes then are those of the same pieces.
pub record GrowsTo (was : File) (old inode : Inode) (file : File) (base : List ℕ) : Type 0 where
  pub bytes : List ℕ
  pub was_is : was.body ≡ Bytes bytes
  pub kind : inode.kind ≡ old.kind
  pub tree : inode.tree ≡ old.tree
  pub fields : HasFields inode file
  pub handle_is : file.handle ≡ was.handle
  pub grown : (pieces : ℕ → Option Block) → AreBytesOf pieces old.size old.tail bytes → AreBytesOf pieces inode.size inode.tail base
  pub long : length base ≡ inode.size
  pub small : inode.size < 2 ^ 31
  pub low : inode.size ≤ inode.tail

-- what laying them answers
abbrev pub LaysIn : (areas : ℕ) → Held → (truth : Truth) → (tree : Tree) → ℕ → File → StandsFor areas truth tree → Inode → List ℕ → ℕ × ℕ → List ℕ → Result (List Changed) ChangeError → Type 0
LaysIn areas held truth tree handle file is inode base place written result =
    PutsOn areas held truth tree handle file (is.stored handle).tree inode base (4096 * place.0 + place.1) written place.0 (pieces_of place.1 written) result

-- a draft with an inode alone, unless memory ran out
abbrev pub InodeAlone : ℕ → Inode → Result (List Changed) ChangeError → Type 0
InodeAlone handle inode (Ok draft) = PutsInode [] draft handle inode
InodeAlone handle inode (Err (Stopped OutOfMemory)) = Unit {0}
InodeAlone handle inode (Err (Stopped (Need at mode))) = ⊥
InodeAlone handle inode (Err (Stopped (Inner blocks))) = ⊥
InodeAlone handle inode (Err (Stopped (Status status))) = ⊥
InodeAlone handle inode (Err (Full spare)) = ⊥
