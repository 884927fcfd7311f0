-- What a call asks that a datagram is, by its arguments.
use Rattle.std.specs.Prelude.{◌≡◌, ◌≤◌, ◌⊎◌, ℕ, length}
use Rattle.bx_rpc.specs.Message.{IsRefusal}
use Rattle.bx_model.specs.declared.call.Args.{Args}
use Rattle.bx_model.specs.declared.call.Args.TheVariants.{Refused, Nothing, Handle, Set, Name, Read, Write, Make, Rename, Link, Symlink, List as Listing, Path}
use Rattle.bx_model.specs.declared.call.Call.{Call}

-- the call is this procedure of NFS
pub record IsNfs (number : ℕ) (call : Call) : Type 0 where
  pub program : call.program ≡ 100003
  pub procedure : call.procedure ≡ number

-- the call is this procedure of MOUNT
pub record IsMount (number : ℕ) (call : Call) : Type 0 where
  pub program : call.program ≡ 100005
  pub procedure : call.procedure ≡ number

-- no arguments: NULL (0), ROOT (3) and WRITECACHE (7) of NFS; NULL (0), DUMP (2), UMNTALL (4) and EXPORT (5) of MOUNT
abbrev pub AsksNothing : Call → Type 0
AsksNothing call = (IsNfs 0 call ⊎ (IsNfs 3 call ⊎ IsNfs 7 call)) ⊎ (IsMount 0 call ⊎ (IsMount 2 call ⊎ (IsMount 4 call ⊎ IsMount 5 call)))

-- by a file handle: GETATTR (1), READLINK (5) and STATFS (17)
abbrev pub AsksFile : Call → Type 0
AsksFile call = IsNfs 1 call ⊎ (IsNfs 5 call ⊎ IsNfs 17 call)

-- by a name in a directory: LOOKUP (4), REMOVE (10) and RMDIR (15)
abbrev pub AsksName : Call → Type 0
AsksName call = IsNfs 4 call ⊎ (IsNfs 10 call ⊎ IsNfs 15 call)

-- by a name in a directory and attributes: CREATE (9) and MKDIR (14)
abbrev pub AsksNew : Call → Type 0
AsksNew call = IsNfs 9 call ⊎ IsNfs 14 call

-- by a path: MNT (1) and UMNT (3) of MOUNT
abbrev pub AsksPath : Call → Type 0
AsksPath call = IsMount 1 call ⊎ IsMount 3 call

-- The arguments are those of the call's procedure. A file handle has 32 bytes, a name at most 255, a path 1024, and what is written 8192. A
-- call that is refused has no procedure.
abbrev pub HasOwnArgs : Call → Args → Type 0
HasOwnArgs call (Refused number) = IsRefusal number call.program × (call.procedure ≡ 0)
HasOwnArgs call Nothing = AsksNothing call
HasOwnArgs call (Handle handle) = AsksFile call × (length handle ≡ 32)
HasOwnArgs call (Set handle sattr) = IsNfs 2 call × (length handle ≡ 32)
HasOwnArgs call (Name handle name) = AsksName call × (length handle ≡ 32) × (length name ≤ 255)
HasOwnArgs call (Read handle offset count total) = IsNfs 6 call × (length handle ≡ 32)
HasOwnArgs call (Write handle begin offset total content) = IsNfs 8 call × (length handle ≡ 32) × (length content ≤ 8192)
HasOwnArgs call (Make handle name sattr) = AsksNew call × (length handle ≡ 32) × (length name ≤ 255)
HasOwnArgs call (Rename from name to new_name) = IsNfs 11 call × ((length from ≡ 32) × (length name ≤ 255)) × ((length to ≡ 32) × (length new_name ≤ 255))
HasOwnArgs call (Link from handle name) = IsNfs 12 call × (length from ≡ 32) × (length handle ≡ 32) × (length name ≤ 255)
HasOwnArgs call (Symlink handle name path sattr) = IsNfs 13 call × (length handle ≡ 32) × (length name ≤ 255) × (length path ≤ 1024)
HasOwnArgs call (Listing handle cookie count) = IsNfs 16 call × (length handle ≡ 32)
HasOwnArgs call (Path path) = AsksPath call × (length path ≤ 1024)

abbrev pub IsAsked : Call → Type 0
IsAsked call = HasOwnArgs call call.args
