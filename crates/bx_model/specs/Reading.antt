-- The procedures that change nothing: GETATTR, LOOKUP, READLINK, READ and STATFS.
use Rattle.std.specs.Prelude.{ℕ, ◌*◌, not, min, if◌then◌else◌, List, [], ◌∷◌, take, drop, codes, Option, Some, Ok, option_and_then}
use Rattle.std.specs.Str.{bytes_eq}
use Rattle.bx_model.specs.declared.call.Call.{Call}
use Rattle.bx_tree_files.specs.declared.file.Body.{Body}
use Rattle.bx_tree_files.specs.declared.file.Body.TheVariants as body
use Rattle.bx_tree_files.specs.declared.file.File.{File}
use Rattle.bx_model.specs.declared.permissions.Want.TheVariants as want
use Rattle.bx_model.specs.declared.reply.Reply.{Reply}
use Rattle.bx_model.specs.declared.reply.Reply.TheVariants as reply
use Rattle.bx_model.specs.declared.status.TheConstants.{ACCES, ISDIR, NOENT, NOTDIR, NXIO, STALE}
use Rattle.bx_model.specs.declared.tree.Tree.{Tree}
use Rattle.bx_tree_files.specs.bx_places.specs.Handles.{file_text, named}
use Rattle.bx_tree_files.specs.Attributes.{attributes_of}
use Rattle.bx_tree_files.specs.Files.{file_at, is_directory, is_link}
use Rattle.bx_tree_files.specs.Entries.{entry_named}
use Rattle.bx_tree_files.specs.Names.{names_of, parent_of}
use Rattle.bx_model.specs.Permissions.{may}
use Rattle.bx_model.specs.Steps.{Outcome, must, refuse, ◌>>=◌, ◌>>◌}

-- the file that a file handle names
abbrev pub named_file : Tree → List ℕ → Option File
named_file tree bytes = option_and_then (file_at tree.files) (named tree.volume bytes)

-- a file's attributes
abbrev pub attributes_reply : Tree → File → Reply
attributes_reply tree file = reply.Attributes (attributes_of tree.volume file)

-- a file's file handle and attributes
abbrev pub handle_reply : Tree → File → Reply
handle_reply tree file = reply.Handle (file_text tree.volume file.handle) (attributes_of tree.volume file)

-- GETATTR (RFC 1094, section 2.2.2): the attributes.
abbrev pub getattr : Tree → List ℕ → Outcome
getattr tree at = do
  file ← must (named_file tree at) STALE
  Ok (attributes_reply tree file, tree)

-- the file that a name means in a directory: `.` is the directory itself, and `..` its parent
abbrev pub meant : Tree → File → List ℕ → Option File
meant tree directory name =
    if bytes_eq name (codes ".") then Some directory
    else if bytes_eq name (codes "..") then file_at tree.files (parent_of directory.body)
    else option_and_then (λ entry. file_at tree.files entry.handle) (entry_named (names_of directory.body) name)

-- LOOKUP (RFC 1094, section 2.2.5): the file handle and the attributes of the file that a name means.
abbrev pub lookup : Tree → Call → List ℕ → List ℕ → Outcome
lookup tree call at name = do
  directory ← must (named_file tree at) STALE
  refuse (not (is_directory directory)) NOTDIR
  refuse (not (may call directory want.Search)) ACCES
  file ← must (meant tree directory name) NOENT
  Ok (handle_reply tree file, tree)

-- a link's path
abbrev pub path_of : Body → List ℕ
path_of (body.Bytes bytes) = []
path_of (body.Path path) = path
path_of (body.Names parent next names) = []

-- READLINK (RFC 1094, section 2.2.6): a link's path.
abbrev pub readlink : Tree → List ℕ → Outcome
readlink tree at = do
  file ← must (named_file tree at) STALE
  refuse (not (is_link file)) NXIO
  Ok (reply.Path (path_of file.body), tree)

-- a regular file's bytes
abbrev pub bytes_of : Body → List ℕ
bytes_of (body.Bytes bytes) = bytes
bytes_of (body.Path path) = []
bytes_of (body.Names parent next names) = []

-- the most bytes that a READ or a READDIR gives
abbrev pub most_data : ℕ
most_data = 8192

-- READ (RFC 1094, section 2.2.7): the bytes from an offset on, at most so many, cut at the file's end.
abbrev pub read : Tree → Call → List ℕ → ℕ → ℕ → Outcome
read tree call at offset count = do
  file ← must (named_file tree at) STALE
  refuse (is_directory file) ISDIR
  refuse (is_link file) NXIO
  refuse (not (may call file want.Read)) ACCES
  Ok (reply.Bytes (attributes_of tree.volume file) (take (min count most_data) (drop offset (bytes_of file.body))), tree)

-- STATFS (RFC 1094, section 2.2.18): the bytes of a transfer, the bytes of a block, and the blocks in all, free, and free for
-- the caller. An area has 960.
abbrev pub statfs : Tree → List ℕ → ℕ → Outcome
statfs tree at spare = do
  file ← must (named_file tree at) STALE
  Ok (reply.Space (most_data ∷ 4096 ∷ 960 * tree.areas ∷ spare ∷ spare ∷ []), tree)
