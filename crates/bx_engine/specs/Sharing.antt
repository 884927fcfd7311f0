-- Whose paths there are.
use Rattle.std.proofs.Common.{◌≡◌, ℕ, ◌/◌, List, arith, inl, inr}
use Rattle.std.specs.Prelude.{◌⊎◌}
use Rattle.bx_attempts.specs.Paths.{ChangePathOf}
use Rattle.bx_base.specs.declared.names.Mode.{Mode}
use Rattle.bx_base.specs.declared.names.Mode.TheVariants.{Shared}
use Rattle.bx_attempts.specs.bx_directory_reads.specs.Listings.{OnListing}
use Rattle.bx_attempts.specs.bx_directory_reads.specs.Lookups.{IsMeantBlock, OnLooking}
use Rattle.bx_engine.specs.Datagrams.{path_of}
use Rattle.bx_engine.specs.Calls.{HasReadArgs, IsReadCall, IsReading}
use Rattle.bx_engine.specs.Paths.{IsOnPath, PathOf, ReadPathOf}
use Rattle.bx_reads.specs.bx_files.specs.Paths.{OnPiece, OnSearch}
use Rattle.bx_model.specs.declared.call.Args.{Args}
use Rattle.bx_model.specs.declared.call.Args.TheVariants.{Handle, Link, List as Listing, Make, Name, Read, Rename, Set, Symlink, Write}
use Rattle.bx_model.specs.declared.call.Call.{Call}
use Rattle.bx_reads.specs.Bytes.{OnReading}
use Rattle.bx_truth.specs.Keys.{name_key}
use Rattle.bx_views.specs.Truths.{Held, Hints}

module _ (held : Held) (hints : Hints) (volume areas : ℕ) where
  piece_shared : (root index at : ℕ) (mode : Mode) → OnPiece held hints root index at mode → mode ≡ Shared
  piece_shared root index at mode (inl on) = on.mode_is
  piece_shared root index at mode (inr on) = on.is.mode_is

  reading_shared : (bytes : List ℕ) (offset count at : ℕ) (mode : Mode) → OnReading held hints volume areas bytes offset count at mode → mode ≡ Shared
  reading_shared bytes offset count at mode (inl on) = on.3
  reading_shared bytes offset count at mode (inr on) = piece_shared on.inode.tree (on.on.place / 4096) at mode on.on.on

  looking_shared : (bytes name : List ℕ) (at : ℕ) (mode : Mode) → OnLooking held hints volume areas bytes name at mode → mode ≡ Shared
  looking_shared bytes name at mode (inl on) = on.3
  looking_shared bytes name at mode (inr on) = by on.on
    where
      by : OnSearch held hints on.inode.tree (name_key name) at mode ⊎ IsMeantBlock held hints on.directory on.inode name at mode → mode ≡ Shared
      by (inl search) = search.mode_is
      by (inr meant) = meant.is.mode_is

  listing_shared : (bytes : List ℕ) (cookie at : ℕ) (mode : Mode) → OnListing held hints volume areas bytes cookie at mode → mode ≡ Shared
  listing_shared bytes cookie at mode (inl on) = on.3
  listing_shared bytes cookie at mode (inr on) = on.on.on.mode_is

  read_shared : (procedure at : ℕ) (mode : Mode) (args : Args) → ReadPathOf held hints volume areas procedure args at mode → mode ≡ Shared
  read_shared procedure at mode (Handle handle) (inl on) = on.3
  read_shared procedure at mode (Handle handle) (inr on) = on.1.mode_is
  read_shared procedure at mode (Read handle offset count total) on = reading_shared handle offset count at mode on
  read_shared procedure at mode (Name handle name) on = looking_shared handle name at mode on.1
  read_shared procedure at mode (Listing handle cookie count) on = listing_shared handle cookie at mode on
  read_shared procedure at mode _ on = absurd on

  -- a call that reads has none of the path of one that changes
  not_changing : (call : Call) (at : ℕ) (mode : Mode) (args : Args) → HasReadArgs call args → ChangePathOf held hints volume areas call.procedure args at mode → ⊥
  not_changing call at mode (Name handle name) reads (inl on) = let four = reads.procedure in let ten = on.0 in omega (arith, four, ten)
  not_changing call at mode (Name handle name) reads (inr on) = let four = reads.procedure in let fifteen = on.0 in omega (arith, four, fifteen)
  not_changing call at mode (Link from handle name) reads on = reads
  not_changing call at mode (Symlink handle name path sattr) reads on = reads
  not_changing call at mode (Make handle name sattr) reads on = reads
  not_changing call at mode (Rename from name to new_name) reads on = reads
  not_changing call at mode (Write handle begin offset total written) reads on = reads
  not_changing call at mode (Set handle sattr) reads on = reads
  not_changing call at mode _ reads on = absurd on

  shared_of : (call : Call) (at : ℕ) (mode : Mode) → IsReading call → PathOf held hints volume areas call.procedure call.args at mode → mode ≡ Shared
  shared_of call at mode reads (inl on) = read_shared call.procedure at mode call.args on
  shared_of call at mode reads (inr on) = absurd (not_changing call at mode call.args reads on)

  pub shared_on : (bytes : List ℕ) (at : ℕ) (mode : Mode) → IsReadCall bytes → IsOnPath held hints volume areas bytes at mode → mode ≡ Shared
  shared_on bytes at mode is on = shared_of is.call at mode is.reading (path_of bytes is.xid is.call is.reads held hints volume areas at mode on)
