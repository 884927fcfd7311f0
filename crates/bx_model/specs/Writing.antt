-- SETATTR and WRITE.
use Rattle.std.specs.Prelude.{ℕ, ◌+◌, ◌==◌, nat_lt, Bool, not, ◌&&◌, ◌||◌, if◌then◌else◌, List, length, Result, Ok}
use Rattle.bx_model.specs.declared.call.Call.{Call}
use Rattle.bx_tree_files.specs.declared.sattr.Sattr.{Sattr}
use Rattle.bx_tree_files.specs.declared.file.File.{File}
use Rattle.bx_model.specs.declared.permissions.Want.TheVariants as want
use Rattle.bx_model.specs.declared.status.TheConstants.{ACCES, FBIG, ISDIR, NOSPC, NXIO, PERM, STALE}
use Rattle.bx_model.specs.declared.tree.Tree.{Tree}
use Rattle.bx_model.specs.Edits.{changed}
use Rattle.bx_tree_files.specs.Files.{is_directory, is_link}
use Rattle.bx_model.specs.Permissions.{may}
use Rattle.bx_model.specs.Reading.{named_file, attributes_reply}
use Rattle.bx_model.specs.Steps.{Outcome, must, refuse, ◌>>=◌, ◌>>◌}
use Rattle.bx_tree_files.specs.Times.{Time, is_given}
use Rattle.bx_tree_files.specs.Changes.{most_bytes, with_fields, with_data}

-- whether there are too few free blocks for a procedure that may take some
abbrev pub is_full : ℕ → Bool
is_full spare = nat_lt spare 8

-- whether one wants to set something that one may not set: the mode or a time, the owner, the group
abbrev pub is_forbidden : Call → File → Sattr → Bool
is_forbidden call file sattr =
    ((is_given sattr.mode || is_given sattr.atime.0 || is_given sattr.mtime.0) && not (may call file want.Times))
    || (is_given sattr.uid && not (may call file (want.Uid sattr.uid)))
    || (is_given sattr.gid && not (may call file (want.Gid sattr.gid)))

-- the errors of setting a size, where one is given
abbrev pub resize_errors : Call → File → ℕ → Result (Unit {0}) ℕ
resize_errors call file size = do
  refuse (is_given size && is_directory file) ISDIR
  refuse (is_given size && is_link file) NXIO
  refuse (is_given size && not (may call file want.Write)) ACCES
  refuse (is_given size && nat_lt most_bytes size) FBIG

-- SETATTR (RFC 1094, section 2.2.3): the fields set, and the attributes then.
abbrev pub setattr : Tree → Call → List ℕ → Sattr → Time → Outcome
setattr tree call at sattr now = do
  file ← must (named_file tree at) STALE
  refuse (is_forbidden call file sattr) PERM
  resize_errors call file sattr.size
  Ok (attributes_reply tree (with_fields now sattr file), changed tree file.handle (with_fields now sattr))

-- the errors of writing so many bytes from an offset on; no bytes meet no limit
abbrev pub write_errors : Call → File → ℕ → ℕ → ℕ → Result (Unit {0}) ℕ
write_errors call file offset count spare = do
  refuse (is_directory file) ISDIR
  refuse (is_link file) NXIO
  refuse (not (may call file want.Write)) ACCES
  refuse (nat_lt 0 count && nat_lt most_bytes (offset + count)) FBIG
  refuse (nat_lt 0 count && is_full spare) NOSPC

-- WRITE (RFC 1094, section 2.2.9): the bytes written, and the attributes then. No bytes change nothing.
abbrev pub write : Tree → Call → List ℕ → ℕ → List ℕ → Time → ℕ → Outcome
write tree call at offset written now spare = do
  file ← must (named_file tree at) STALE
  write_errors call file offset (length written) spare
  if length written == 0 then Ok (attributes_reply tree file, tree)
      else Ok (attributes_reply tree (with_data now offset written file), changed tree file.handle (with_data now offset written))
