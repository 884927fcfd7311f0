-- The file that a file handle names, by its inode.
use Rattle.std.specs.Prelude.{◌≡◌, ℕ, ◌<◌, ◌^◌, List, [], Some, None, Result, Ok, Err}
use Rattle.bx_base.specs.declared.names.Mode.TheVariants.{Shared}
use Rattle.bx_files.specs.bx_blink.specs.Walks.{reads_with}
use Rattle.bx_places.specs.Handles.{named}
use Rattle.bx_files.specs.bx_inodes.specs.declared.stop.Stop.{Stop}
use Rattle.bx_files.specs.bx_inodes.specs.declared.stop.Stop.TheVariants.{Need, Inner, Status, OutOfMemory}
use Rattle.bx_files.specs.bx_inodes.specs.Inodes.{HoldsInode, LiveAt, shown_size}
use Rattle.bx_layout.specs.declared.inode.Inode.{Inode}
use Rattle.bx_model.specs.declared.tree.Tree.{Tree}
use Rattle.bx_model.specs.Reading.{named_file, path_of}
use Rattle.bx_tree_files.specs.declared.file.File.{File}
use Rattle.bx_tree_files.specs.Files.{file_at, size_of}
use Rattle.bx_files.specs.bx_truth.specs.Stored.{HasFields}
use Rattle.bx_views.specs.Truths.{Held, Hints, Truth}

-- The file handle names a file of the tree with this handle, of which the inode, which the truth has, says the fields, the size, and
-- a link's path.
pub record IsNamed (areas : ℕ) (truth : Truth) (tree : Tree) (bytes : List ℕ) (handle : ℕ) (inode : Inode) : Type 0 where
  pub file : File
  pub there : named_file tree bytes ≡ Some file
  pub found : file_at tree.files handle ≡ Some file
  pub holds : HoldsInode areas truth handle inode
  pub handle_is : file.handle ≡ handle
  pub fields : HasFields inode file
  pub size : size_of file.body ≡ shown_size inode
  pub size_fits : size_of file.body < 2 ^ 31
  pub path : inode.kind ≡ 5 → path_of file.body ≡ inode.path

-- What is found. The status 70 is STALE: the file handle names no file.
abbrev pub NamesFile : ℕ → Truth → Tree → List ℕ → Result (ℕ × Inode) Stop → Type 0
NamesFile areas truth tree bytes (Ok found) = IsNamed areas truth tree bytes found.0 found.1
NamesFile areas truth tree bytes (Err (Status status)) = (status ≡ 70) × (named_file tree bytes ≡ None)
NamesFile areas truth tree bytes (Err (Need at mode)) = Unit {0}
NamesFile areas truth tree bytes (Err (Inner blocks)) = ⊥
NamesFile areas truth tree bytes (Err OutOfMemory) = Unit {0}

-- The file handle names this handle, and the inode of a file is seen under it.
pub record IsSeen (held : Held) (hints : Hints) (volume areas : ℕ) (bytes : List ℕ) (handle : ℕ) (inode : Inode) : Type 0 where
  pub named_is : named volume bytes ≡ Some handle
  pub live : LiveAt (reads_with held hints []) areas handle Shared inode
