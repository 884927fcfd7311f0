-- The procedures that make files and entries: CREATE, SYMLINK, MKDIR and LINK.
use Rattle.std.specs.Prelude.{ℕ, ◌%◌, ◌==◌, nat_lt, nat_le, Bool, false, not, ◌&&◌, if◌then◌else◌, List, [], replicate, is_some, Option, Some, None, Result, Ok}
use Rattle.bx_model.specs.declared.call.Call.{Call}
use Rattle.bx_tree_files.specs.declared.sattr.Sattr.{Sattr}
use Rattle.bx_tree_files.specs.declared.file.Body.{Body}
use Rattle.bx_tree_files.specs.declared.file.Body.TheVariants as body
use Rattle.bx_tree_files.specs.declared.file.File.{File}
use Rattle.bx_tree_files.specs.declared.file.Name.{Name}
use Rattle.bx_model.specs.declared.permissions.Want.TheVariants as want
use Rattle.bx_model.specs.declared.reply.Reply.{Reply}
use Rattle.bx_model.specs.declared.reply.Reply.TheVariants as reply
use Rattle.bx_model.specs.declared.status.TheConstants.{ACCES, DQUOT, EXIST, FBIG, NFS_OK, NOSPC, NOTDIR, PERM, STALE}
use Rattle.bx_model.specs.declared.tree.Tree.{Tree}
use Rattle.bx_model.specs.Edits.{changed, with_new}
use Rattle.bx_tree_files.specs.Files.{file_at, is_directory, is_regular, kind_of}
use Rattle.bx_tree_files.specs.Entries.{is_bad, entry_named}
use Rattle.bx_tree_files.specs.Names.{names_of, next_of}
use Rattle.bx_model.specs.Permissions.{may}
use Rattle.bx_model.specs.Reading.{named_file, handle_reply}
use Rattle.bx_model.specs.Steps.{Outcome, Making, must, refuse, ◌>>=◌, ◌>>◌}
use Rattle.bx_model.specs.Steps.Step.{Gives, Makes}
use Rattle.bx_tree_files.specs.Times.{Time, is_given, stored}
use Rattle.bx_tree_files.specs.Changes.{most_bytes, with_size, entered, linked}
use Rattle.bx_model.specs.Writing.{is_full, resize_errors}

-- The directory whose entries a call changes under a name: the first errors of all procedures that make an entry or
-- take one out, CREATE but for.
abbrev pub directory_to_change : Tree → Call → List ℕ → List ℕ → Result File ℕ
directory_to_change tree call at name = do
  directory ← must (named_file tree at) STALE
  refuse (not (is_directory directory)) NOTDIR
  refuse (is_bad name) ACCES
  refuse (not (may call directory want.Change)) ACCES
  Ok directory

-- whether a directory has an entry of the name
abbrev pub has_entry : File → List ℕ → Bool
has_entry directory name = is_some (entry_named (names_of directory.body) name)

-- the last errors of a procedure that makes an entry: no number is left for it, or no space
abbrev pub entry_errors : File → ℕ → Result (Unit {0}) ℕ
entry_errors directory spare = do
  refuse (nat_le 4294967295 (next_of directory.body)) DQUOT
  refuse (is_full spare) NOSPC

-- A new file. It is the caller's, or the user 0 says whose it is; its mode and its times are those given, where they
-- are.
abbrev pub new_file : Call → Sattr → Time → ℕ → ℕ → Body → File
new_file call sattr now mode made content = record {
  handle = made;
  kind = kind_of content;
  mode = if is_given sattr.mode then sattr.mode % 4096 else mode;
  nlink = if kind_of content == 2 then 2 else 1;
  uid = if (call.uid == 0) && is_given sattr.uid then sattr.uid else call.uid;
  gid = if (call.uid == 0) && is_given sattr.gid then sattr.gid else call.gid;
  atime = if is_given sattr.atime.0 then stored sattr.atime else now;
  mtime = if is_given sattr.mtime.0 then stored sattr.mtime else now;
  ctime = now;
  body = content;
}

-- the tree with a new file, which a new entry of a directory names
abbrev pub with_made : Tree → ℕ → List ℕ → Time → File → Tree
with_made tree directory name now file = changed (with_new tree file) directory (entered now name file.handle (is_directory file))

-- the errors of making a regular file in a directory
abbrev pub create_errors : Call → File → Sattr → ℕ → Result (Unit {0}) ℕ
create_errors call directory sattr spare = do
  refuse (not (may call directory want.Change)) ACCES
  refuse (is_given sattr.size && nat_lt most_bytes sattr.size) FBIG
  entry_errors directory spare

-- a new regular file of the size given, all zeros, or empty, and the entry that names it
abbrev pub created : Tree → Call → ℕ → List ℕ → Sattr → Time → ℕ → Reply × Tree
created tree call directory name sattr now made =
    let content = body.Bytes (replicate (if is_given sattr.size then sattr.size else 0) 0) in
    let file = new_file call sattr now 0o644 made content in
    (handle_reply tree file, with_made tree directory name now file)

-- CREATE (RFC 1094, section 2.2.10) of a name that isn't there
abbrev pub create_new : Tree → Call → File → List ℕ → Sattr → Time → ℕ → Making
create_new tree call directory name sattr now spare = do
  create_errors call directory sattr spare
  Ok (Makes (created tree call directory.handle name sattr now))

-- CREATE of a name that is there: only a size that is given is set.
abbrev pub create_over : Tree → Call → ℕ → Sattr → Time → Making
create_over tree call handle sattr now = do
  file ← must (file_at tree.files handle) STALE
  refuse (not (is_regular file)) EXIST
  resize_errors call file sattr.size
  if is_given sattr.size then Ok (Gives (handle_reply tree (with_size now sattr.size file)) (changed tree file.handle (with_size now sattr.size)))
      else Ok (Gives (handle_reply tree file) tree)

abbrev pub create_at : Tree → Call → File → List ℕ → Sattr → Time → ℕ → Option Name → Making
create_at tree call directory name sattr now spare None = create_new tree call directory name sattr now spare
create_at tree call directory name sattr now spare (Some entry) = create_over tree call entry.handle sattr now

-- the directory in which a call looks for the name that it may make
abbrev pub searched_directory : Tree → Call → List ℕ → List ℕ → Result File ℕ
searched_directory tree call at name = do
  directory ← must (named_file tree at) STALE
  refuse (not (is_directory directory)) NOTDIR
  refuse (is_bad name) ACCES
  refuse (not (may call directory want.Search)) ACCES
  Ok directory

abbrev pub create : Tree → Call → List ℕ → List ℕ → Sattr → Time → ℕ → Making
create tree call at name sattr now spare = do
  directory ← searched_directory tree call at name
  create_at tree call directory name sattr now spare (entry_named (names_of directory.body) name)

-- the directory that a new entry of the name may come into
abbrev pub new_place : Tree → Call → List ℕ → List ℕ → ℕ → Result File ℕ
new_place tree call at name spare = do
  directory ← directory_to_change tree call at name
  refuse (has_entry directory name) EXIST
  entry_errors directory spare
  Ok directory

-- SYMLINK (RFC 1094, section 2.2.14): a link with a path. The status alone is answered.
abbrev pub symlink : Tree → Call → List ℕ → List ℕ → List ℕ → Sattr → Time → ℕ → Making
symlink tree call at name path sattr now spare = do
  directory ← new_place tree call at name spare
  Ok (Makes (λ made. (reply.Status NFS_OK, with_made tree directory.handle name now (new_file call sattr now 0o777 made (body.Path path)))))

-- MKDIR (RFC 1094, section 2.2.15): a directory without entries.
abbrev pub mkdir : Tree → Call → List ℕ → List ℕ → Sattr → Time → ℕ → Making
mkdir tree call at name sattr now spare = do
  directory ← new_place tree call at name spare
  let file = λ (made : ℕ). new_file call sattr now 0o755 made (body.Names directory.handle 3 [])
  Ok (Makes (λ made. (handle_reply tree (file made), with_made tree directory.handle name now (file made))))

-- LINK (RFC 1094, section 2.2.13): one more name for a file, which may have 32000. The status alone is answered.
abbrev pub link : Tree → Call → List ℕ → List ℕ → List ℕ → Time → ℕ → Outcome
link tree call from at name now spare = do
  file ← must (named_file tree from) STALE
  directory ← directory_to_change tree call at name
  refuse (is_directory file) PERM
  refuse (has_entry directory name) EXIST
  refuse (nat_le 32000 file.nlink) DQUOT
  entry_errors directory spare
  Ok (reply.Status NFS_OK, changed (changed tree directory.handle (entered now name file.handle false)) file.handle (linked now))
