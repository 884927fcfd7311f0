-- The path of a call over a view.
use Rattle.std.specs.Prelude.{◌≡◌, ℕ, ◌⊎◌, List}
use Rattle.bx_attempts.specs.Paths.{ChangePathOf}
use Rattle.bx_base.specs.declared.names.Mode.{Mode}
use Rattle.bx_base.specs.declared.names.Mode.TheVariants.{Shared}
use Rattle.bx_attempts.specs.bx_directory_reads.specs.Listings.{OnListing}
use Rattle.bx_attempts.specs.bx_directory_reads.specs.Lookups.{OnLooking}
use Rattle.bx_inodes.specs.Stops.{OnInode}
use Rattle.bx_model.specs.declared.call.Args.{Args}
use Rattle.bx_model.specs.declared.call.Args.TheVariants.{Handle, List as Listing, Name, Read}
use Rattle.bx_model.specs.declared.call.Call.{Call}
use Rattle.bx_nfs.specs.Wire.{ReadsAs}
use Rattle.bx_reads.specs.Bytes.{OnReading}
use Rattle.bx_truth.specs.Chunks.{own_block}
use Rattle.bx_views.specs.Truths.{Held, Hints}

-- the own block of an area, shared
pub record IsOwnShared (at : ℕ) (mode : Mode) : Type 0 where
  pub area : ℕ
  pub at_is : at ≡ own_block area
  pub mode_is : mode ≡ Shared

-- The path of a call that reads by its arguments, over what is held and hinted: the block of the inode of the file that it is about. STATFS (17)
-- has the own blocks of the areas on its path too, READ the pages and the pieces of the file that its bytes are in, LOOKUP the pages that lead to
-- the name, and the inode of what it means, and READDIR the pages that lead to the entries. All are shared.
abbrev pub ReadPathOf : Held → Hints → ℕ → ℕ → ℕ → Args → ℕ → Mode → Type 0
ReadPathOf held hints volume areas procedure (Handle handle) at mode = OnInode volume handle Shared at mode ⊎ ((procedure ≡ 17) × IsOwnShared at mode)
ReadPathOf held hints volume areas procedure (Read handle offset count total) at mode = OnReading held hints volume areas handle offset count at mode
ReadPathOf held hints volume areas procedure (Name handle name) at mode = (procedure ≡ 4) × OnLooking held hints volume areas handle name at mode
ReadPathOf held hints volume areas procedure (Listing handle cookie count) at mode = OnListing held hints volume areas handle cookie at mode
ReadPathOf held hints volume areas procedure _ at mode = ⊥

-- The path of a call: the one of a call that reads, or that of one that changes the tree.
abbrev pub PathOf : Held → Hints → ℕ → ℕ → ℕ → Args → ℕ → Mode → Type 0
PathOf held hints volume areas procedure args at mode =
    ReadPathOf held hints volume areas procedure args at mode ⊎ ChangePathOf held hints volume areas procedure args at mode

-- the same, of a call as bytes
pub record IsOnPath (held : Held) (hints : Hints) (volume areas : ℕ) (bytes : List ℕ) (at : ℕ) (mode : Mode) : Type 0 where
  pub xid : ℕ
  pub call : Call
  pub reads : ReadsAs bytes xid call
  pub on : PathOf held hints volume areas call.procedure call.args at mode
