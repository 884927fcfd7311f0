-- The calls that change a file tree.
use Rattle.std.specs.Prelude.{◌≤◌, ◌⊎◌, length}
use Rattle.bx_model.specs.declared.call.Args.{Args}
use Rattle.bx_model.specs.declared.call.Args.TheVariants.{Link, Make, Name, Rename, Set, Symlink, Write}
use Rattle.bx_model.specs.declared.call.Call.{Call}
use Rattle.bx_nfs.specs.Asked.{IsNfs}

-- By their arguments: SETATTR (2), WRITE (8), CREATE (9), REMOVE (10), RENAME (11), LINK (12), SYMLINK (13), MKDIR (14) and RMDIR (15). A name that is made has at
-- most 255 bytes, a path 1024, and what is written 8192, as those of all calls that are read have.
abbrev pub HasChangeArgs : Call → Args → Type 0
HasChangeArgs call (Set handle sattr) = IsNfs 2 call
HasChangeArgs call (Name handle name) = IsNfs 10 call ⊎ IsNfs 15 call
HasChangeArgs call (Link from handle name) = IsNfs 12 call × (length name ≤ 255)
HasChangeArgs call (Symlink handle name path sattr) = IsNfs 13 call × (length name ≤ 255) × (length path ≤ 1024)
HasChangeArgs call (Make handle name sattr) = (IsNfs 14 call ⊎ IsNfs 9 call) × (length name ≤ 255)
HasChangeArgs call (Write handle begin offset total written) = IsNfs 8 call × (length written ≤ 8192)
HasChangeArgs call (Rename from name to new_name) = IsNfs 11 call × (length new_name ≤ 255)
HasChangeArgs call _ = ⊥

abbrev pub IsChanging : Call → Type 0
IsChanging call = HasChangeArgs call call.args
