-- The calls that read, by their bytes.
use Rattle.std.specs.Prelude.{◌≡◌, ℕ, ◌⊎◌, List}
use Rattle.bx_model.specs.declared.call.Args.{Args}
use Rattle.bx_model.specs.declared.call.Args.TheVariants.{Refused, Nothing, Handle, List as Listing, Name, Read, Path}
use Rattle.bx_model.specs.declared.call.Call.{Call}
use Rattle.bx_nfs.specs.Asked.{IsNfs}
use Rattle.bx_model.specs.declared.reply.Reply.TheVariants.{Status, Space}
use Rattle.bx_model.specs.declared.status.TheConstants.{NOSPC}
use Rattle.bx_nfs.specs.Wire.{ReadsAs, reply_text}

-- the procedures about a file alone: GETATTR (1), READLINK (5) and STATFS (17)
abbrev pub IsAboutFile : ℕ → Type 0
IsAboutFile procedure = (procedure ≡ 1) ⊎ ((procedure ≡ 5) ⊎ (procedure ≡ 17))

-- the call is one of those
pub record AsksAboutFile (call : Call) : Type 0 where
  pub program : call.program ≡ 100003
  pub procedure : IsAboutFile call.procedure

-- the call is MNT (1) or UMNT (3) of MOUNT
pub record IsOfMount (call : Call) : Type 0 where
  pub program : call.program ≡ 100005
  pub procedure : (call.procedure ≡ 1) ⊎ (call.procedure ≡ 3)

-- The calls that change nothing, by their arguments: those that are refused; those without arguments, which are NULL, ROOT and
-- WRITECACHE of NFS, and NULL, DUMP, UMNTALL and EXPORT of MOUNT; MNT and UMNT of MOUNT; of NFS GETATTR (1), READLINK (5), STATFS (17), LOOKUP (4),
-- READ and READDIR.
abbrev pub HasReadArgs : Call → Args → Type 0
HasReadArgs call (Refused number) = Unit {0}
HasReadArgs call Nothing = Unit {0}
HasReadArgs call (Path path) = IsOfMount call
HasReadArgs call (Handle handle) = AsksAboutFile call
HasReadArgs call (Name handle name) = IsNfs 4 call
HasReadArgs call (Read handle offset count total) = Unit {0}
HasReadArgs call (Listing handle cookie count) = Unit {0}
HasReadArgs call _ = ⊥

abbrev pub IsReading : Call → Type 0
IsReading call = HasReadArgs call call.args

-- the datagram is one of them
pub record IsReadCall (bytes : List ℕ) : Type 0 where
  pub xid : ℕ
  pub call : Call
  pub reads : ReadsAs bytes xid call
  pub reading : IsReading call

-- the call is STATFS (17) of NFS by this file handle
pub record AsksSpace (call : Call) (at : List ℕ) : Type 0 where
  pub args : call.args ≡ Handle at
  pub is : IsNfs 17 call

-- the datagram is a STATFS by this file handle
pub record IsSpaceCall (bytes at : List ℕ) : Type 0 where
  pub xid : ℕ
  pub call : Call
  pub reads : ReadsAs bytes xid call
  pub asks : AsksSpace call at

-- by some file handle
abbrev pub AsksFree : List ℕ → Type 0
AsksFree bytes = (at : List ℕ) × IsSpaceCall bytes at

-- these bytes are a reply to it that comes to no error
pub record IsSpaceReply (xid : ℕ) (call : Call) (replied : List ℕ) : Type 0 where
  pub at : List ℕ
  pub asks : AsksSpace call at
  pub numbers : List ℕ
  pub text : replied ≡ reply_text xid (Space numbers)

-- A call's reply tells how many blocks are free, by the bytes of both: it is NOSPC, or what STATFS answers where it comes to no error.
pub record TellsSpace (bytes replied : List ℕ) : Type 0 where
  pub xid : ℕ
  pub call : Call
  pub reads : ReadsAs bytes xid call
  pub tells : (replied ≡ reply_text xid (Status NOSPC)) ⊎ IsSpaceReply xid call replied

-- The calls that are answered whatever is held: those that are refused, those without arguments, MNT and UMNT.
abbrev pub HasNoFile : Call → Args → Type 0
HasNoFile call (Refused number) = Unit {0}
HasNoFile call Nothing = Unit {0}
HasNoFile call (Path path) = IsOfMount call
HasNoFile call _ = ⊥

abbrev pub IsAtOnce : Call → Type 0
IsAtOnce call = HasNoFile call call.args

-- the datagram is one of them
pub record IsAtOnceCall (bytes : List ℕ) : Type 0 where
  pub xid : ℕ
  pub call : Call
  pub reads : ReadsAs bytes xid call
  pub at_once : IsAtOnce call
