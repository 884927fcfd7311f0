-- The move of RENAME from the two directories on: what it comes to by what is found, and what stops it.
use Rattle.std.specs.Prelude.{◌≡◌, ◌≢◌, ℕ, ◌≤◌, ◌==◌, ◌&&◌, not, if◌then◌else◌, List, Option, Some, Result, Ok}
use Rattle.bx_linking.specs.bx_entries.specs.declared.taking.Known.{Known}
use Rattle.bx_inodes.specs.Fitting.{HintsFitAll}
use Rattle.bx_inodes.specs.Inodes.{IsInodeOf}
use Rattle.bx_inodes.specs.Stands.{Stands}
use Rattle.bx_model.specs.declared.reply.Reply.TheVariants as reply
use Rattle.bx_model.specs.declared.status.TheConstants.{NAMETOOLONG, NFS_OK, PERM}
use Rattle.bx_model.specs.declared.tree.Tree.{Tree}
use Rattle.bx_model.specs.Making.{entry_errors}
use Rattle.bx_model.specs.Renaming.{changes_parent, is_same, leads_by, move_errors, renamed, replace_errors}
use Rattle.bx_model.specs.Steps.{Outcome, refuse, ◌>>=◌, ◌>>◌}
use Rattle.bx_moving.specs.declared.moves.Moving.{Moving}
use Rattle.bx_moving.specs.declared.moves.Replaced.{Replaced}
use Rattle.bx_moving.specs.Moves.{IsOther, other_of}
use Rattle.bx_tree_files.specs.declared.file.File.{File}
use Rattle.bx_tree_files.specs.Entries.{entry_named}
use Rattle.bx_tree_files.specs.Files.{file_at}
use Rattle.bx_tree_files.specs.Names.{names_of}
use Rattle.bx_tree_files.specs.Times.{Time}
use Rattle.bx_views.specs.Truths.{Held, Hints, IsTruth, Truth}
use Rattle.bx_renaming.specs.declared.places.Places.{Places}

-- A truth that agrees with a view stands for a file tree, with two directories by their inodes.
pub record AreDirectories (volume areas : ℕ) (held : Held) (hints : Hints) (truth : Truth) (tree : Tree) (places : Places) : Type 0 where
  pub few : areas ≤ 64
  pub same : IsTruth held truth
  pub stands : Stands volume areas truth tree
  pub fit : HintsFitAll areas hints truth
  pub source : IsInodeOf areas truth tree places.source.handle places.source.inode
  pub target : IsInodeOf areas truth tree places.target.handle places.target.inode
  pub source_kind : places.source.inode.kind ≡ 2
  pub target_kind : places.target.inode.kind ≡ 2

-- the move of a file between two directories, by the number of its entry; a directory that comes into another one counts among that one's links
abbrev pub move_of : Places → ℕ → Known → Moving
move_of places number moved = record {
  source = places.source.handle;
  number = number;
  target = places.target.handle;
  handle = moved.handle;
  counts = (moved.inode.kind == 2) && not (places.source.handle == places.target.handle);
}

-- the file whose name is taken, by the number of its entry
abbrev pub replaced_by : ℕ → Known → Replaced
replaced_by number other = record { number = number; handle = other.handle; is_directory = other.inode.kind == 2 }

-- the first errors of a move: a directory would come below itself, or too deep
abbrev pub depth_errors : Tree → File → File → File → Result (Unit {0}) ℕ
depth_errors tree source target moved = do
  refuse (changes_parent source target moved && leads_by tree target moved.handle) PERM
  refuse (changes_parent source target moved && not (leads_by tree target tree.root)) NAMETOOLONG

-- the same, and those of a file that takes the place of another one
abbrev pub onto_errors : Tree → File → File → File → File → Result (Unit {0}) ℕ
onto_errors tree source target moved other = depth_errors tree source target moved >> replace_errors moved (Some other)

-- what a move comes to that meets no error
abbrev pub done_so : Tree → File → List ℕ → File → List ℕ → File → Option File → Time → Outcome
done_so tree source name target new_name moved other now = Ok (reply.Status NFS_OK, renamed now tree source name target new_name moved other)

-- what it comes to where the number and the space for its entry are left to test, and where all is
abbrev pub coming_in : Tree → File → List ℕ → File → List ℕ → File → Option File → Time → ℕ → Outcome
coming_in tree source name target new_name moved other now spare = entry_errors target spare >> done_so tree source name target new_name moved other now

abbrev pub moving_so : Tree → File → List ℕ → File → List ℕ → File → Option File → Time → ℕ → Outcome
moving_so tree source name target new_name moved other now spare = move_errors tree source target moved other spare >> done_so tree source name target new_name moved other now

-- what it comes to by the file that has the new name, if one has it
abbrev pub moving_onto : Tree → File → List ℕ → File → List ℕ → File → Time → ℕ → Result (Option File) ℕ → Outcome
moving_onto tree source name target new_name moved now spare found =
    found >>= (λ other. if is_same moved other then Ok (reply.Status NFS_OK, tree) else moving_so tree source name target new_name moved other now spare)

-- A file may move between two directories but for a number and for space: it is in the one and is neither of both, and the file whose name it takes
-- may lose it.
pub record IsPassed (tree : Tree) (source target : File) (moving : Moving) (name new_name : List ℕ) (replaced : Option Replaced) : Type 0 where
  pub source_is : source.handle ≡ moving.source
  pub target_is : target.handle ≡ moving.target
  pub found : entry_named (names_of source.body) name ≡ Some (record { number = moving.number; name = name; handle = moving.handle })
  pub moved : File
  pub moved_there : file_at tree.files moving.handle ≡ Some moved
  pub moved_is : moved.handle ≡ moving.handle
  pub counts : moving.counts ≡ changes_parent source target moved
  pub not_source : moving.handle ≢ moving.source
  pub not_target : moving.handle ≢ moving.target
  pub other : IsOther tree moving (names_of target.body) new_name replaced
  pub names : moving.source ≡ moving.target → new_name ≢ name

-- the file whose name it takes
abbrev pub other_file : (tree : Tree) (source target : File) (moving : Moving) (name new_name : List ℕ) (replaced : Option Replaced) → IsPassed tree source target moving name new_name replaced → Option File
other_file tree source target moving name new_name replaced passed = other_of tree moving (names_of target.body) new_name replaced passed.other
