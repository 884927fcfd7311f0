-- Where an attempt answers blocks to be written first, and where a change.
use Rattle.std.specs.Prelude.{◌≡◌, ℕ, ◌⊎◌, List, Some}
use Rattle.bx_creating.specs.Lacking.{MakesPlace, ReadyToEnter, PreparesCreate, ReadyToCreate}
use Rattle.bx_model.specs.declared.call.Args.{Args}
use Rattle.bx_model.specs.declared.call.Args.TheVariants.{Link, Make, Rename, Set, Symlink, Write}
use Rattle.bx_model.specs.declared.call.Call.{Call}
use Rattle.bx_model.specs.declared.reply.Reply.TheVariants.{Status}
use Rattle.bx_model.specs.declared.status.TheConstants.{NFS_OK}
use Rattle.bx_model.specs.declared.tree.Tree.{Tree}
use Rattle.bx_model.specs.Act.{act}
use Rattle.bx_records.specs.Drafts.{Changed}
use Rattle.bx_renaming.specs.Lacking.{PreparesMove, ReadyToMove}
use Rattle.bx_creating.specs.bx_sizes.specs.Cuts.{PreparesSetting, ReadyToSet}
use Rattle.bx_views.specs.Truths.{Truth, Held, Hints}
use Rattle.bx_writes.specs.Lacking.{PreparesWriting, ReadyToWrite}

-- With 8 blocks free, which stand for enough, the call comes to no error: a status that is answered is NFS_OK, whatever handle a file gets.
abbrev pub MeetsNoError : Tree → Call → ℕ → Type 0
MeetsNoError tree call moment = (made status : ℕ) (next : Tree) → act tree call moment 8 made ≡ Some (Status status, next) → status ≡ NFS_OK

-- What a draft prepares, by the call's procedure and arguments. For LINK, SYMLINK, MKDIR (14), CREATE (9) and RENAME it makes room for the new entry in the directory that it
-- comes into; for CREATE of a name that is there and SETATTR it clears bytes that were cut, over which a file would grow; for WRITE it does that, or makes room for a piece.
abbrev pub PreparesBy : ℕ → ℕ → Held → Hints → Truth → Tree → ℕ → Args → List Changed → Type 0
PreparesBy volume areas held hints truth tree procedure (Set handle sattr) new = PreparesSetting volume areas truth handle sattr.size new
PreparesBy volume areas held hints truth tree procedure (Write handle begin offset total written) new = PreparesWriting volume areas held hints truth handle offset written new
PreparesBy volume areas held hints truth tree procedure (Link from handle name) new = MakesPlace volume areas held hints truth handle name new
PreparesBy volume areas held hints truth tree procedure (Symlink handle name path sattr) new = MakesPlace volume areas held hints truth handle name new
PreparesBy volume areas held hints truth tree procedure (Make handle name sattr) new =
    ((procedure ≡ 14) × MakesPlace volume areas held hints truth handle name new) ⊎ ((procedure ≡ 9) × PreparesCreate volume areas held hints truth tree handle name sattr.size new)
PreparesBy volume areas held hints truth tree procedure (Rename from name to new_name) new = PreparesMove volume areas held hints truth tree from name to new_name new
PreparesBy volume areas held hints truth tree procedure _ new = ⊥

-- Blocks are to be written first for a call: it comes to no error, and they prepare it.
pub record PreparesFirst (volume areas : ℕ) (held : Held) (hints : Hints) (truth : Truth) (tree : Tree) (call : Call) (moment : ℕ) (new : List Changed) : Type 0 where
  pub fine : MeetsNoError tree call moment
  pub prepares : PreparesBy volume areas held hints truth tree call.procedure call.args new

-- Where nothing is wanted for that, by the call's procedure and arguments: each entry finds room, and no file grows over bytes that were cut. REMOVE and RMDIR want nothing.
abbrev pub ReadyBy : ℕ → ℕ → Truth → Tree → ℕ → Args → Type 0
ReadyBy volume areas truth tree procedure (Set handle sattr) = ReadyToSet volume areas truth handle sattr.size
ReadyBy volume areas truth tree procedure (Write handle begin offset total written) = ReadyToWrite volume areas truth handle offset written
ReadyBy volume areas truth tree procedure (Link from handle name) = ReadyToEnter volume areas truth handle name
ReadyBy volume areas truth tree procedure (Symlink handle name path sattr) = ReadyToEnter volume areas truth handle name
ReadyBy volume areas truth tree procedure (Make handle name sattr) =
    (procedure ≡ 14 → ReadyToEnter volume areas truth handle name) × (procedure ≡ 9 → ReadyToCreate volume areas truth tree handle name sattr.size)
ReadyBy volume areas truth tree procedure (Rename from name to new_name) = ReadyToMove volume areas truth tree from name to new_name
ReadyBy volume areas truth tree procedure _ = Unit {0}
