-- What READ comes to by the file, and what it asks for.
use Rattle.std.specs.Prelude.{ℕ, ◌⊎◌, min, if◌then◌else◌, List, Option, Some, None}
use Rattle.bx_base.specs.declared.names.Mode.{Mode}
use Rattle.bx_base.specs.declared.names.Mode.TheVariants.{Shared}
use Rattle.bx_files.specs.Paths.{OnRead}
use Rattle.bx_files.specs.bx_inodes.specs.Stops.{OnInode}
use Rattle.bx_layout.specs.declared.inode.Inode.{Inode}
use Rattle.bx_model.specs.declared.call.Call.{Call}
use Rattle.bx_model.specs.declared.permissions.Want.TheVariants as want
use Rattle.bx_model.specs.Permissions.{may}
use Rattle.bx_model.specs.Reading.{most_data}
use Rattle.bx_tree_files.specs.declared.file.File.{File}
use Rattle.bx_tree_files.specs.Files.{is_directory, is_link}
use Rattle.bx_views.specs.Truths.{Held, Hints}
use Rattle.bx_reads.specs.Files.{IsSeen}

-- the error that a caller who reads a file meets: ISDIR (21) of a directory, NXIO (6) of a link, and ACCES (13) without the right
abbrev pub read_error : Call → File → Option ℕ
read_error call file = if is_directory file then Some 21 else if is_link file then Some 6 else if may call file want.Read then None else Some 13

-- the path to bytes of the file that a file handle names, by the inode that is seen
pub record OnBytes (held : Held) (hints : Hints) (volume areas : ℕ) (bytes : List ℕ) (offset count at : ℕ) (mode : Mode) : Type 0 where
  pub handle : ℕ
  pub inode : Inode
  pub seen : IsSeen held hints volume areas bytes handle inode
  pub on : OnRead held hints inode offset count at mode

-- the path of READ: the inode of the file that is named, and those to its bytes
abbrev pub OnReading : Held → Hints → ℕ → ℕ → List ℕ → ℕ → ℕ → ℕ → Mode → Type 0
OnReading held hints volume areas bytes offset count at mode = OnInode volume bytes Shared at mode ⊎ OnBytes held hints volume areas bytes offset (min count most_data) at mode
