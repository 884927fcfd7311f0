-- What is answered with a file's attributes.
use Rattle.std.specs.Prelude.{◌≡◌, ℕ, ◌<◌, ◌^◌, List, Result, Ok, Err}
use Rattle.bx_changes.specs.declared.error.ChangeError.{ChangeError}
use Rattle.bx_changes.specs.declared.error.ChangeError.TheVariants.{Stopped, Full}
use Rattle.bx_inodes.specs.declared.stop.Stop.TheVariants.{Need, Inner, Status, OutOfMemory}
use Rattle.bx_inodes.specs.Inodes.{shown_size}
use Rattle.bx_layout.specs.declared.inode.Inode.{Inode}
use Rattle.bx_model.specs.declared.reply.Reply.{Reply}
use Rattle.bx_model.specs.declared.reply.Reply.TheVariants.{Attributes}
use Rattle.bx_records.specs.Drafts.{Changed}
use Rattle.bx_tree_files.specs.declared.file.File.{File}
use Rattle.bx_tree_files.specs.Attributes.{attributes_of}
use Rattle.bx_tree_files.specs.Files.{size_of}
use Rattle.bx_truth.specs.Stored.{HasFields}

-- a draft, and the attributes of the file that an inode is of
pub record TellsFile (volume handle : ℕ) (inode : Inode) (draft new : List Changed) (reply : Reply) : Type 0 where
  pub same : new ≡ draft
  pub told : (file : File) → file.handle ≡ handle → HasFields inode file → size_of file.body ≡ shown_size inode → size_of file.body < 2 ^ 31 → reply ≡ Attributes (attributes_of volume file)

-- it is, unless memory ran out
abbrev pub TellsWith : ℕ → ℕ → Inode → List Changed → Result (List Changed × Reply) ChangeError → Type 0
TellsWith volume handle inode draft (Ok made) = TellsFile volume handle inode draft made.0 made.1
TellsWith volume handle inode draft (Err (Stopped OutOfMemory)) = Unit {0}
TellsWith volume handle inode draft (Err (Stopped (Need at mode))) = ⊥
TellsWith volume handle inode draft (Err (Stopped (Inner blocks))) = ⊥
TellsWith volume handle inode draft (Err (Stopped (Status status))) = ⊥
TellsWith volume handle inode draft (Err (Full spare)) = ⊥
